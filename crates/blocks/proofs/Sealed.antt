-- A block as it is written, part after part.
use Rattle.std.proofs.Common.{◌≡◌, ℕ, ◌+◌, ◌-◌, ◌≤◌, List, [], ◌++◌, length, take, drop, replicate, refl, ap, ◌∙◌, arith}
use borrow.Rule.Slice.PartMut.{put_mid}
use Rattle.std.proofs.lemmas.List.{take_at, drop_all, append-nil, length-append, length-take, length-drop, length-replicate}
use Rattle.blocks.specs.Check.{check_of}
use Rattle.blocks.specs.Sealing.{two, four, front, block}
use Rattle.blocks.proofs.Parts.{Holds, holds_more}

module _ (n : ℕ) (p o a b q z f : List ℕ) (s : ℕ) (short : length p ≤ 504) (room : length o ≡ 512) where
  -- the bytes once number, used length and payload are written, and once the filling is too
  abbrev paid : List ℕ
  paid = put_mid 4 (4 + length p - 4) (put_mid 2 2 (put_mid 0 2 o a) b) q

  abbrev filled : List ℕ
  filled = put_mid (4 + length p) (508 - (4 + length p)) paid z

  abbrev rest : List ℕ
  rest = take (508 - (4 + length p)) (drop (4 + length p) paid)

  module _ (a_is : a ≡ two n) (b_is : b ≡ two (length p)) (q_is : q ≡ p) (z_is : z ≡ replicate (length rest) 0) where
    paid_holds : Holds ((([] ++ a) ++ b) ++ q) paid o (4 + length p)
    paid_holds =
        let none : Holds [] o o 0 = record { bytes = refl; long = refl } in
        holds_more _ _ o q 4 _ _ (holds_more _ _ o b 2 2 4 (holds_more _ o o a 0 2 2 none (ap length a_is) refl) (ap length b_is) refl) (ap length q_is ∙ omega arith) (omega arith)

    filling_is : z ≡ replicate (504 - length p) 0
    filling_is =
        let held : length paid ≡ 512 = ap length paid_holds.bytes ∙ simp (length-append {A = ℕ}, length-drop {A = ℕ}) (omega (arith, simp (length-append {A = ℕ}) at paid_holds.long)) in
        let long : length rest ≡ 504 - length p = simp (length-take, length-drop) (omega (arith, held)) in
        z_is ∙ ap (λ (k : ℕ). replicate k 0) long

    filled_holds : Holds (((([] ++ a) ++ b) ++ q) ++ z) filled o 508
    filled_holds = holds_more _ _ o z _ _ 508 paid_holds (ap length filling_is ∙ length-replicate (504 - length p) 0 ∙ omega arith) (omega arith)

    front_is : ((([] ++ a) ++ b) ++ q) ++ z ≡ front n p
    unfolding front
    front_is = simp (a_is, b_is, q_is, filling_is)

    pub block_written : s ≡ check_of (take 508 filled) → f ≡ four s → put_mid 508 4 filled f ≡ block n p
    unfolding block
    block_written s_is f_is =
        let whole = holds_more _ _ o f 508 4 512 filled_holds (ap length f_is) refl in
        let check_is : s ≡ check_of (front n p) = s_is ∙ ap check_of (ap (take 508) filled_holds.bytes ∙ take_at _ _ 508 filled_holds.long ∙ front_is) in
        whole.bytes ∙ rw (front_is, f_is, check_is, drop_all 512 o (omega arith)) (append-nil _)
