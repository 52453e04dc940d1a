-- What a call that writes to the start of a borrowed buffer answers, and what it leaves in the buffer:
-- its outcome is the bytes that it writes, or the fault for which it declines.
use Rattle.std.specs.Prelude.{ℕ, cond, List, ◌++◌, length, drop, Ok, Err, Result, nat_lt}
use Rattle.refusal.specs.declared.Fault.{Fault}
use Rattle.refusal.specs.declared.Refusal.{Refusal}
use Rattle.refusal.specs.declared.Refusal.TheVariants.{BufferTooShort}

abbrev pub fault : Refusal → ℕ → Fault
fault refusal place = record { refusal = refusal; place = place }

-- the call answers how many bytes it wrote
unfoldable pub answered : Result (List ℕ) Fault → Result ℕ Fault
answered (Ok bytes) = Ok (length bytes)
answered (Err f) = Err f

-- the buffer's start is written, and the rest stays; a declined call leaves it as it was
unfoldable pub left : Result (List ℕ) Fault → List ℕ → List ℕ
left (Ok bytes) held = bytes ++ drop (length bytes) held
left (Err f) held = held

-- the bytes, where a buffer of that length takes them
unfoldable pub within : ℕ → Result (List ℕ) Fault → Result (List ℕ) Fault
within room (Ok bytes) = cond (nat_lt room (length bytes)) (Err (fault BufferTooShort 0)) (Ok bytes)
within room (Err f) = Err f
