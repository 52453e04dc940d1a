-- Whether a buffer takes the bytes, and what is answered and left then.
use Rattle.std.proofs.Common.{◌≡◌, ℕ, ◌<◌, ◌≤◌, Bool, true, false, cond, ltb, List, ◌++◌, length, drop, Ok, Err, Result, refl, ap, arith}
use Rattle.std.proofs.lemmas.Bool.{lt-ltb, le-ltb, ltb-false}
use Rattle.refusal.specs.declared.Fault.{Fault}
use Rattle.refusal.specs.declared.Refusal.TheVariants.{BufferTooShort}
use Rattle.refusal.specs.Writes.{fault, answered, left, within}

pub within_short : (room : ℕ) (bytes : List ℕ) → room < length bytes → within room (Ok bytes) ≡ Err (fault BufferTooShort 0)
unfolding within
within_short room bytes h = rw (lt-ltb room (length bytes) h)

pub within_fits : (room : ℕ) (bytes : List ℕ) → length bytes ≤ room → within room (Ok bytes) ≡ Ok bytes
unfolding within
within_fits room bytes h = rw (le-ltb room (length bytes) h)

-- a call that declines
module _ (o : Result (List ℕ) Fault) (f : Fault) (is : o ≡ Err f) where
  pub answered_declined : answered o ≡ Err f
  unfolding answered
  answered_declined = ap answered is

  pub left_declined : (held : List ℕ) → left o held ≡ held
  unfolding left
  left_declined held = ap (λ (x : Result (List ℕ) Fault). left x held) is

-- a call that writes
module _ (o : Result (List ℕ) Fault) (bytes : List ℕ) (is : o ≡ Ok bytes) where
  pub answered_written : answered o ≡ Ok (length bytes)
  unfolding answered
  answered_written = ap answered is

  pub left_written : (held : List ℕ) → left o held ≡ bytes ++ drop (length bytes) held
  unfolding left
  left_written held = ap (λ (x : Result (List ℕ) Fault). left x held) is

-- what an answer tells of the outcome
pub answered_ok : (o : Result (List ℕ) Fault) (n : ℕ) → answered o ≡ Ok n → (bytes : List ℕ) × (o ≡ Ok bytes) × (length bytes ≡ n)
unfolding answered
answered_ok (Ok bytes) n e = (bytes, refl, cc)
answered_ok (Err f) n e = let z : ◌≡◌ {A = ℕ} 0 1 = cc in absurd (omega arith)

pub answered_err : (o : Result (List ℕ) Fault) (f : Fault) → answered o ≡ Err f → o ≡ Err f
unfolding answered
answered_err (Ok bytes) f e = let z : ◌≡◌ {A = ℕ} 0 1 = cc in absurd (omega arith)
answered_err (Err g) f e = cc

-- a fault stays, whatever the room
pub within_err : (room : ℕ) (o : Result (List ℕ) Fault) (f : Fault) → o ≡ Err f → within room o ≡ Err f
unfolding within
within_err room o f e = ap (within room) e

pub within_ok : (room : ℕ) (o : Result (List ℕ) Fault) (bytes : List ℕ) → within room o ≡ Ok bytes → (o ≡ Ok bytes) × (length bytes ≤ room)
unfolding within
within_ok room (Err f) bytes e = let z : ◌≡◌ {A = ℕ} 0 1 = cc in absurd (omega arith)
within_ok room (Ok held) bytes e = by_room (ltb room (length held)) refl e
  where
    by_room : (t : Bool) → ltb room (length held) ≡ t → cond t (Err (fault BufferTooShort 0)) (Ok held) ≡ Ok bytes → (◌≡◌ {A = Result (List ℕ) Fault} (Ok held) (Ok bytes)) × (length bytes ≤ room)
    by_room true h d = let z : ◌≡◌ {A = ℕ} 0 1 = cc in absurd (omega arith)
    by_room false h d = let same : held ≡ bytes = cc in (d, omega (arith, ltb-false room (length held) h, ap length same))
