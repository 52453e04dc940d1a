-- What a walk over a term's pointers does and asks.
use Rattle.std.specs.Prelude.{ℕ, suc, ◌+◌, ◌-◌, ◌^◌, ◌<◌, ◌≡◌, Bool, false, cond, ◌||◌, List, [], ◌∷◌, ◌++◌, length, Some, None, Ok, Err, Option, Result, nat_lt}
use Rattle.calculus.specs.Trees.{Process, terminated, output, input, choice, parallel, restriction, replication, write}
use Rattle.calculus.specs.Names.{rename, raise, lower, exchange, send}
use Rattle.refusal.specs.declared.Fault.{Fault}
use Rattle.refusal.specs.declared.Refusal.TheVariants.{PointerOverflow}
use Rattle.refusal.specs.Writes.{fault}
use Rattle.terms.specs.declared.names.Renaming.{Renaming}
use Rattle.terms.specs.declared.names.Renaming.TheVariants.{Raise, Lower, Exchange, Send}
use Rattle.terms.specs.Fitting.{are_bytes}
use Rattle.terms.specs.Reading.{Scanned, whole, stuck, scan}
use Rattle.std.specs.Option.{option_map}

-- what a renaming makes of a pointer, at its depth
unfoldable pub function_of : Renaming → ℕ → ℕ → ℕ
function_of Raise = raise
function_of Lower = lower
function_of Exchange = exchange
function_of (Send objects) = send objects.now

-- a pointer that would pass 255 stays
unfoldable pub settled : (ℕ → ℕ) → ℕ → ℕ
settled f pointer = cond (nat_lt 255 (f pointer)) pointer (f pointer)

-- the bytes of the renamed process, unless a pointer would pass 255
unfoldable pub renamed : (ℕ → ℕ → ℕ) → Process → Result (List ℕ) Fault
renamed f p = cond (are_bytes (write (rename f 0 p))) (Ok (write (rename f 0 p))) (Err (fault PointerOverflow 0))

-- some number of a list passes a test
unfoldable pub any_of : (ℕ → Bool) → List ℕ → Bool
any_of test [] = false
any_of test (n ∷ ns) = test n || any_of test ns

-- some pointer passes a test of its depth and itself
unfoldable pub any_pointer : (ℕ → ℕ → Bool) → ℕ → Process → Bool
any_pointer test depth terminated = false
any_pointer test depth (output subject objects p) = test depth subject || (any_of (test depth) objects || any_pointer test depth p)
any_pointer test depth (input subject count p) = test depth subject || any_pointer test (depth + count) p
any_pointer test depth (choice p q) = any_pointer test depth p || any_pointer test depth q
any_pointer test depth (parallel p q) = any_pointer test depth p || any_pointer test depth q
any_pointer test depth (restriction sort p) = any_pointer test (suc depth) p
any_pointer test depth (replication p) = any_pointer test depth p

-- the pointer would pass 255
unfoldable pub passes_255 : Renaming → ℕ → ℕ → Bool
passes_255 renaming depth pointer = nat_lt 255 (function_of renaming depth pointer)

-- what a closure answers, of a depth and a pointer that fit their types, is what the test says
abbrev pub Tests : (ℕ → ℕ → Bool → Type 0) → (ℕ → ℕ → Bool) → Type 0
Tests post test = (depth pointer : ℕ) (answer : Bool) → depth < 2 ^ 64 → pointer < 256 → post depth pointer answer → answer ≡ test depth pointer

-- the length of a process none of whose pointers passes a test
unfoldable pub clear_of : (ℕ → ℕ → Bool) → ℕ → Scanned → Option ℕ
clear_of test depth (whole p ns) = cond (any_pointer test depth p) None (Some (length (write p)))
clear_of test depth (stuck ns) = None

-- how many bytes are left after such a process
unfoldable pub left_of : (ℕ → ℕ → Bool) → ℕ → List ℕ → Option ℕ
left_of test depth ns = option_map (λ size. length ns - size) (clear_of test depth (scan ns))

-- the bytes once the process at their start is renamed
unfoldable pub renamed_at_start : (ℕ → ℕ → ℕ) → ℕ → Scanned → List ℕ
renamed_at_start f depth (whole p ns) = write (rename f depth p) ++ ns
renamed_at_start f depth (stuck ns) = ns
