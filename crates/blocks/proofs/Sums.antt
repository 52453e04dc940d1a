-- The weighted sum, one byte further, and how large it can be.
use Rattle.std.proofs.Common.{◌≡◌, ℕ, suc, ◌+◌, ◌*◌, ◌<◌, ◌≤◌, List, [], ◌∷◌, ◌++◌, length, get_or, take, sym, ap, ◌∙◌, arith}
use Rattle.std.proofs.lemmas.List.{take_more, length-take-le}
use Rattle.std.proofs.lemmas.Nat.{mul-le}
use Rattle.blocks.specs.Check.{sum_from}

pub sum_from_push : (w : ℕ) (xs : List ℕ) (y : ℕ) → sum_from w (xs ++ y ∷ []) ≡ sum_from w xs + (w + length xs) * y
unfolding sum_from
sum_from_push w [] y = let e : (w + 0) ≡ w = omega arith in rw e (omega arith)
sum_from_push w (x ∷ xs) y =
    let e : w + suc (length xs) ≡ suc w + length xs = omega arith in
    rw e (omega (arith, sum_from_push (suc w) xs y))

pub sum_more : (bs : List ℕ) (i s b : ℕ) → i < length bs → b ≡ get_or bs i 0 → s ≡ sum_from 1 (take i bs) → s + (i + 1) * b ≡ sum_from 1 (take (i + 1) bs)
sum_more bs i s b h e p =
    let l : length (take i bs) ≡ i = length-take-le i bs (omega arith) in
    let q = sum_from_push 1 (take i bs) (get_or bs i 0) in
    let w : 1 + length (take i bs) ≡ i + 1 = omega arith in
    rw (take_more bs i 0 h, e, p) (sym (q ∙ ap (λ (k : ℕ). sum_from 1 (take i bs) + k * get_or bs i 0) w))

-- a byte times its weight
pub product_small : (i b : ℕ) → i < 508 → b < 256 → (i + 1) * b ≤ 129540
product_small i b h k = mul-le (i + 1) b 508 255 (omega arith) (omega arith)
