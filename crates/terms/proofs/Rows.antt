-- One pointer, and a row of pointers: tested and renamed.
use Rattle.std.proofs.Common.{◌≡◌, ℕ, ◌<◌, Bool, true, false, ltb, List, [], ◌∷◌, map, length, get_or, sym, refl, arith}
use Rattle.std.proofs.lemmas.List.Recursion.{or_at, or_from_places}
use Rattle.std.specs.Bool.{MatchBool}
use Rattle.std.specs.List.{AllWithin, HoldsAt}
use Rattle.std.proofs.lemmas.Bool.{or_parts, cond-false}
use Rattle.terms.specs.Pointers.{settled, any_of}

-- a row that was asked pointer by pointer
pub any_by_cases : (test : ℕ → Bool) (r : Bool) (ns : List ℕ) → ((k : ℕ) → get_or ns k 0 < 256) →
    MatchBool r ((k : ℕ) × (k < length ns) × HoldsAt (λ n. n < 256 → test n ≡ true) ns k) (AllWithin (λ n. n < 256 → test n ≡ false) ns 0 (length ns)) → r ≡ any_of test ns
unfolding any_of
any_by_cases test true ns small (k, inside, here) = sym (or_at (any_of test) test refl (λ n ns. refl) ns k 0 inside (here 0 (small k)))
any_by_cases test false ns small none = sym (or_from_places (any_of test) test refl (λ n ns. refl) ns 0 (λ k inside. none k 0 (omega arith) inside (small k)))

-- where no pointer would pass 255, all are renamed
pub all_settled : (f : ℕ → ℕ) (ns : List ℕ) → any_of (λ p. ltb 255 (f p)) ns ≡ false → map (settled f) ns ≡ map f ns
unfolding any_of settled
all_settled f [] e = refl
all_settled f (n ∷ ns) e =
    let (here, later) = or_parts (ltb 255 (f n)) (any_of (λ p. ltb 255 (f p)) ns) e in
    cc (cond-false (ltb 255 (f n)) n (f n) here, all_settled f ns later)
