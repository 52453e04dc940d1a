-- What raising, lowering, exchanging and sending do to one pointer.
use Rattle.std.proofs.Common.{◌≡◌, ℕ, suc, ◌+◌, ◌-◌, false, cond, eqb, ltb, List, [], ◌∷◌, length, get_or, sym, ap, ◌∙◌, add-zero, arith}
use Rattle.std.proofs.lemmas.Bool.Decides.{nat_tests}
use Rattle.calculus.specs.Names.{raise, lower, exchange, send}

-- below n more names a pointer function leaves those names alone, and does as before to the others
abbrev pub Lifts : (ℕ → ℕ → ℕ) → Type 0
Lifts f = (d n p : ℕ) → f (d + n) p ≡ cond (ltb p n) p (n + f d (p - n))

pub raise_lifts : Lifts raise
unfolding raise
raise_lifts d n p = grind (arith, nat_tests)

pub exchange_lifts : Lifts exchange
unfolding exchange
exchange_lifts d n p = grind (arith, nat_tests)

pub send_lifts : (objects : List ℕ) → Lifts (send objects)
unfolding send
send_lifts objects d n p = grind (arith, nat_tests)

pub lower-raise : (d p : ℕ) → lower d (raise d p) ≡ p
unfolding raise lower
lower-raise d p = grind (arith, nat_tests)

pub raise-lower : (d p : ℕ) → eqb p d ≡ false → raise d (lower d p) ≡ p
unfolding raise lower
raise-lower d p e = grind (arith, nat_tests)

pub raise_misses : (d p : ℕ) → eqb (raise d p) d ≡ false
unfolding raise
raise_misses d p = grind (arith, nat_tests)

pub exchange_twice : (d p : ℕ) → exchange d (exchange d p) ≡ p
unfolding exchange
exchange_twice d p = grind (arith, nat_tests)

-- at the top
pub raise_top : (p : ℕ) → raise 0 p ≡ suc p
unfolding raise
raise_top p = grind (arith, nat_tests)

pub exchange_past : (p : ℕ) → exchange 0 (suc (suc p)) ≡ suc (suc p)
unfolding exchange
exchange_past p = grind (arith, nat_tests)

pub send_top : (os : List ℕ) (p : ℕ) → send os 0 p ≡ cond (ltb p (length os)) (get_or os p 0) (p - length os)
unfolding send
send_top os p =
    let same : p - 0 ≡ p = omega arith in
    let at : get_or os (p - 0) 0 + 0 ≡ get_or os p 0 = ap (λ (k : ℕ). get_or os k 0 + 0) same ∙ add-zero (get_or os p 0) in
    grind (arith, nat_tests)

pub send_first : (o : ℕ) (os : List ℕ) → send (o ∷ os) 0 0 ≡ o
send_first o os = send_top (o ∷ os) 0 ∙ go
  where
    go : cond (ltb 0 (length (o ∷ os))) (get_or (o ∷ os) 0 0) (0 - length (o ∷ os)) ≡ o
    go = grind (arith, nat_tests)

pub send_next : (o : ℕ) (os : List ℕ) (p : ℕ) → send (o ∷ os) 0 (suc p) ≡ send os 0 p
send_next o os p = send_top (o ∷ os) (suc p) ∙ go ∙ sym (send_top os p)
  where
    go : cond (ltb (suc p) (suc (length os))) (get_or os p 0) (suc p - suc (length os)) ≡ cond (ltb p (length os)) (get_or os p 0) (p - length os)
    go = grind (arith, nat_tests)

pub send_none : (p : ℕ) → send [] 0 p ≡ p
send_none p = send_top [] p ∙ go
  where
    go : cond (ltb p 0) 0 (p - 0) ≡ p
    go = grind (arith, nat_tests)
