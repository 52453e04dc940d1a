-- The fields of a block: what is written is read, and what is read was written.
use Rattle.std.proofs.Common.{◌≡◌, ℕ, zero, suc, ◌+◌, ◌-◌, ◌<◌, ◌≤◌, true, eqb, List, [], ◌∷◌, ◌++◌, length, get_or, take, drop, replicate, sym, refl, ap, ◌∙◌, append_assoc, arith}
use Rattle.std.proofs.Math.Seq.{take-add}
use Rattle.std.proofs.lemmas.List.{take_at, drop_at, drop-drop, get_or-append_right, length-replicate, take-append-drop, length-take, length-drop, get_or-take, get_or-drop}
use Rattle.std.proofs.lemmas.Nat.{mod_below, from_le_bytes-to_le_bytes_2, from_le_bytes-to_le_bytes_4, le_bytes_2, le_bytes_4}
use Rattle.std.proofs.lemmas.Bool.{eq-eqb, eqb-true, and_parts}
use Rattle.blocks.specs.Check.{sum_from, check_of}
use Rattle.blocks.specs.Sealing.{two, four, front, block}
use Rattle.blocks.specs.Opening.{number_field, used_field, check_field, zeros, rightly_used, rightly_checked, rightly_formed, payload_of}
use Rattle.blocks.proofs.Packed.{length_front}
use Rattle.blocks.proofs.Parts.{Bytes, bytes_take, bytes_drop}
use Rattle.blocks.proofs.Opened.{formed_parts, formed_small, length-payload_of}

-- zeros
zeros_replicate : (k : ℕ) → zeros (replicate k 0) ≡ true
unfolding zeros
zeros_replicate zero = refl
zeros_replicate (suc k) = zeros_replicate k

replicate_zeros : (xs : List ℕ) → zeros xs ≡ true → xs ≡ replicate (length xs) 0
unfolding zeros
replicate_zeros [] h = refl
replicate_zeros (x ∷ xs) h =
    let p = and_parts (eqb x 0) (zeros xs) h in
    ap (λ (y : ℕ). y ∷ xs) (eqb-true x 0 p.0) ∙ ap (λ (ys : List ℕ). 0 ∷ ys) (replicate_zeros xs p.1)

check_of_small : (xs : List ℕ) → check_of xs < 65521
unfolding check_of
check_of_small xs = mod_below (sum_from 1 xs) 65521 (omega arith)

-- a block that was sealed
module _ (n : ℕ) (p : List ℕ) (small : n < 65536) (short : length p ≤ 504) where
  pub number_sealed : number_field (block n p) ≡ n
  unfolding number_field block front
  number_sealed = from_le_bytes-to_le_bytes_2 n small

  pub used_sealed : used_field (block n p) ≡ length p
  unfolding used_field block front
  used_sealed = from_le_bytes-to_le_bytes_2 (length p) (omega arith)

  front_sealed : take 508 (block n p) ≡ front n p
  unfolding block
  front_sealed = take_at (front n p) (four (check_of (front n p))) 508 (length_front n p short)

  -- what follows the header
  after_header : drop 4 (block n p) ≡ p ++ (replicate (504 - length p) 0 ++ four (check_of (front n p)))
  unfolding block front
  after_header = append_assoc p (replicate (504 - length p) 0) (four (check_of (front n p)))

  pub payload_sealed : payload_of (block n p) ≡ p
  unfolding payload_of
  payload_sealed =
      ap (λ (k : ℕ). take k (drop 4 (block n p))) used_sealed ∙ ap (take (length p)) after_header
      ∙ take_at p (replicate (504 - length p) 0 ++ four (check_of (front n p))) (length p) refl

  filling_sealed : take (504 - length p) (drop (4 + length p) (block n p)) ≡ replicate (504 - length p) 0
  filling_sealed =
      ap (take (504 - length p)) (sym (drop-drop (length p) 4 (block n p)) ∙ ap (drop (length p)) after_header ∙ drop_at p (replicate (504 - length p) 0 ++ four (check_of (front n p))) (length p) refl)
      ∙ take_at (replicate (504 - length p) 0) (four (check_of (front n p))) (504 - length p) (length-replicate (504 - length p) 0)

  -- byte i of the check
  check_byte : (i : ℕ) → get_or (block n p) (508 + i) 0 ≡ get_or (four (check_of (front n p))) i 0
  unfolding block
  check_byte i =
      let e : 508 + i - 508 ≡ i = omega arith in
      get_or-append_right (front n p) (four (check_of (front n p))) 508 (508 + i) 0 (length_front n p short) (omega arith)
      ∙ ap (λ (k : ℕ). get_or (four (check_of (front n p))) k 0) e

  check_sealed : check_field (block n p) ≡ check_of (front n p)
  unfolding check_field
  check_sealed = rw (check_byte 0, check_byte 1, check_byte 2, check_byte 3) (from_le_bytes-to_le_bytes_4 (check_of (front n p)) (omega (arith, check_of_small (front n p))))

  pub checked_sealed : rightly_checked (block n p) ≡ true
  unfolding rightly_checked
  checked_sealed = eq-eqb (check_field (block n p)) (check_of (take 508 (block n p))) (check_sealed ∙ ap check_of (sym front_sealed))

  pub formed_sealed : (more : ℕ) → rightly_used (length p) n more ≡ true → rightly_formed n more (block n p) ≡ true
  unfolding rightly_formed
  formed_sealed more used =
      let number : eqb (number_field (block n p)) n ≡ true = eq-eqb (number_field (block n p)) n number_sealed in
      let filling : zeros (take (504 - length p) (drop (4 + length p) (block n p))) ≡ true = ap zeros filling_sealed ∙ zeros_replicate (504 - length p) in
      rw (number, used_sealed, used, filling)

-- a block that stands under its number
module _ (n more : ℕ) (b : List ℕ) (long : length b ≡ 512) (bytes : Bytes b) (checked : rightly_checked b ≡ true) (formed : rightly_formed n more b ≡ true) where
  abbrev used : ℕ
  used = used_field b

  small : used ≤ 504
  small = formed_small n more b formed

  pub length_read : length (payload_of b) ≡ used
  length_read = length-payload_of b long small

  number_read : two n ≡ take 2 b
  unfolding number_field
  number_read =
      let at : (i : ℕ) → i < 2 → get_or (take 2 b) i 0 ≡ get_or b i 0 = λ i h. get_or-take 2 b i 0 h in
      le_bytes_2 (take 2 b) n (simp length-take (omega arith)) (bytes_take 2 b bytes)
      (sym (formed_parts n more b formed).0 ∙ rw (sym (at 0 (omega arith)), sym (at 1 (omega arith))))

  used_read : two used ≡ take 2 (drop 2 b)
  unfolding used_field
  used_read =
      let at : (i : ℕ) → i < 2 → get_or (take 2 (drop 2 b)) i 0 ≡ get_or b (2 + i) 0 = λ i h. get_or-take 2 (drop 2 b) i 0 h ∙ get_or-drop 2 b i 0 in
      le_bytes_2 (take 2 (drop 2 b)) used (simp (length-take, length-drop) (omega arith)) (bytes_take 2 (drop 2 b) (bytes_drop 2 b bytes))
      (rw (sym (at 0 (omega arith)), sym (at 1 (omega arith))))

  filling_read : replicate (504 - used) 0 ≡ take (504 - used) (drop (4 + used) b)
  filling_read =
      let whole : length (take (504 - used) (drop (4 + used) b)) ≡ 504 - used = simp (length-take, length-drop) (omega arith) in
      sym (replicate_zeros (take (504 - used) (drop (4 + used) b)) (formed_parts n more b formed).2 ∙ ap (λ (k : ℕ). replicate k 0) whole)

  -- payload and filling, and what stands before them
  body_read : payload_of b ++ replicate (504 - used) 0 ≡ take 504 (drop 4 b)
  unfolding payload_of
  body_read =
      let sum : used + (504 - used) ≡ 504 = omega (arith, small) in
      ap (λ (ys : List ℕ). take used (drop 4 b) ++ ys) (filling_read ∙ ap (take (504 - used)) (sym (drop-drop used 4 b)))
      ∙ sym (take-add used (504 - used) (drop 4 b)) ∙ ap (λ (k : ℕ). take k (drop 4 b)) sum

  front_read : front n (payload_of b) ≡ take 508 b
  unfolding front
  front_read =
      ap (λ (k : ℕ). two n ++ (two k ++ (payload_of b ++ replicate (504 - k) 0))) length_read
      ∙ ap (λ (ys : List ℕ). two n ++ (two used ++ ys)) (body_read ∙ ap (take 504) (sym (drop-drop 2 2 b)))
      ∙ ap (λ (ys : List ℕ). two n ++ (ys ++ take 504 (drop 2 (drop 2 b)))) used_read
      ∙ ap (λ (ys : List ℕ). two n ++ ys) (sym (take-add 2 504 (drop 2 b)))
      ∙ ap (λ (ys : List ℕ). ys ++ take 506 (drop 2 b)) number_read
      ∙ sym (take-add 2 506 b)

  check_read : four (check_of (take 508 b)) ≡ drop 508 b
  unfolding rightly_checked check_field
  check_read =
      le_bytes_4 (drop 508 b) (check_of (take 508 b)) (simp length-drop (omega arith)) (bytes_drop 508 b bytes)
      (sym (eqb-true (check_field b) (check_of (take 508 b)) checked)
      ∙ rw (sym (get_or-drop 508 b 0 0), sym (get_or-drop 508 b 1 0), sym (get_or-drop 508 b 2 0), sym (get_or-drop 508 b 3 0)))

  pub sealed_read : block n (payload_of b) ≡ b
  unfolding block
  sealed_read = ap (λ (ys : List ℕ). ys ++ four (check_of ys)) front_read ∙ ap (λ (ys : List ℕ). take 508 b ++ ys) check_read ∙ take-append-drop 508 b
