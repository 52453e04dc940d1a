-- Sealing and opening undo each other: by induction over the blocks.
use Rattle.std.proofs.Common.{◌≡◌, ℕ, zero, suc, ◌+◌, ◌-◌, ◌*◌, ◌/◌, ◌%◌, ◌<◌, ◌≤◌, true, ◌⊎◌, List, ◌++◌, length, take, drop, None, Ok, sym, refl, ap, ◌∙◌, inl, inr, arith}
use Rattle.std.proofs.lemmas.List.{take_at, drop_at, take_all, drop_all, take-append-drop, length-take, length-drop, length-append, append-nil, nil_from_length}
use Rattle.std.proofs.lemmas.Bool.{cases_lt, and_from, eq-eqb, lt-ltb, le-leb}
use Rattle.std.proofs.lemmas.Bool.Decides.{nat_tests}
use Rattle.blocks.specs.Sealing.{block, blocks_from, block_count, sheet_of}
use Rattle.blocks.specs.Opening.{used_field, rightly_used, fault_of, or_else, fault_from, payload_of, payloads, whole_blocks}
use Rattle.blocks.specs.Laws.{OpensAgain, SealedOnly}
use Rattle.blocks.proofs.Examined.{fault_none}
use Rattle.blocks.proofs.Fields.{payload_sealed, checked_sealed, formed_sealed, length_read, sealed_read}
use Rattle.blocks.proofs.Opened.{or_else_none, fine_block, formed_parts, opened_ok, opened_fine, whole_parts}
use Rattle.blocks.proofs.Parts.{Bytes, bytes_take, bytes_drop}
use Rattle.blocks.proofs.Packed.{length-block, length_payload, length-sheet_of}

-- a stream takes so many blocks, the first under that number
abbrev Takes : ℕ → ℕ → List ℕ → Type 0
Takes zero n s = length s ≡ 0
Takes (suc more) n s = (length s ≤ suc more * 504) × ((more * 504 < length s) ⊎ ((more ≡ 0) × (n ≡ 0)))

takes_rest : (more n : ℕ) (s : List ℕ) → Takes (suc more) n s → Takes more (suc n) (drop 504 s)
takes_rest zero n s h = length-drop 504 s ∙ omega (arith, h.0)
takes_rest (suc more) n s (short, inl long) = (omega (arith, length-drop 504 s), inl (omega (arith, length-drop 504 s)))
takes_rest (suc more) n s (short, inr none) = absurd (omega (arith, none.0))

takes_used : (more n : ℕ) (s : List ℕ) → Takes (suc more) n s → rightly_used (length (take 504 s)) n more ≡ true
unfolding rightly_used
takes_used more n s (short, inl long) = let e = length-take 504 s in grind (arith, nat_tests)
takes_used more n s (short, inr none) = let e = length-take 504 s in grind (arith, nat_tests)

-- the blocks of a stream have no fault, and hold it
opens_from : (k n : ℕ) (s : List ℕ) → n + k ≤ 65536 → Takes k n s → (fault_from k n (blocks_from k n s) ≡ None) × (payloads k (blocks_from k n s) ≡ s)
unfolding fault_from payloads blocks_from or_else
opens_from zero n s m h = (refl, sym (nil_from_length s h))
opens_from (suc more) n s m h =
    let rest = blocks_from more (suc n) (drop 504 s) in
    let ih = opens_from more (suc n) (drop 504 s) (omega arith) (takes_rest more n s h) in
    let small : n < 65536 = omega arith in
    let short = length_payload s in
    let first : take 512 (block n (take 504 s) ++ rest) ≡ block n (take 504 s) = take_at (block n (take 504 s)) rest 512 (length-block n (take 504 s) short) in
    let later : drop 512 (block n (take 504 s) ++ rest) ≡ rest = drop_at (block n (take 504 s)) rest 512 (length-block n (take 504 s) short) in
    let fine = fault_none n more (block n (take 504 s)) (checked_sealed n (take 504 s) small short) (formed_sealed n (take 504 s) small short more (takes_used more n s h)) in (
      rw (first, later, fine) ih.0,
      rw (first, later, payload_sealed n (take 504 s) small short, ih.1) (take-append-drop 504 s),
    )

takes_all : (s : List ℕ) → Takes (block_count s) 0 s
unfolding block_count
takes_all s = by_length (cases_lt 0 (length s))
  where
    by_length : (0 < length s) ⊎ (length s ≤ 0) → Takes (suc ((length s - 1) / 504)) 0 s
    by_length (inl some) = (omega arith, inl (omega arith))
    by_length (inr none) = (omega arith, inr (omega arith, refl))

count_small : (s : List ℕ) → length s ≤ 64512 → (0 < block_count s) × (block_count s ≤ 128)
unfolding block_count
count_small s h = (omega arith, omega arith)

whole_count : (k : ℕ) → 0 < k → k ≤ 128 → whole_blocks (k * 512) ≡ true
unfolding whole_blocks
whole_count k h m = and_from _ _ (eq-eqb (k * 512 % 512) 0 (omega arith)) (and_from _ _ (lt-ltb 0 (k * 512) (omega arith)) (le-leb (k * 512) 65536 (omega arith)))

pub opens_again : (s : List ℕ) → OpensAgain s
unfolding sheet_of
opens_again s h =
    let small = count_small s h in
    let both = opens_from (block_count s) 0 s (omega arith) (takes_all s) in
    let size = length-sheet_of s in
    let count : length (sheet_of s) / 512 ≡ block_count s = ap (λ (n : ℕ). n / 512) size ∙ omega arith in
    let fine : fault_from (length (sheet_of s) / 512) 0 (sheet_of s) ≡ None = ap (λ (k : ℕ). fault_from k 0 (sheet_of s)) count ∙ both.0 in
    opened_fine (sheet_of s) (ap whole_blocks size ∙ whole_count (block_count s) small.0 small.1) fine
    ∙ ap Ok (ap (λ (k : ℕ). payloads k (sheet_of s)) count ∙ both.1)

-- the parts of a stream, where the first has the used length of its block
last_used : (n used : ℕ) → rightly_used used n 0 ≡ true → (used ≤ 504) × ((0 < used) ⊎ (n ≡ 0))
unfolding rightly_used
last_used n used u = (grind (arith, nat_tests), by_used (cases_lt 0 used))
  where
    by_used : (0 < used) ⊎ (used ≤ 0) → (0 < used) ⊎ (n ≡ 0)
    by_used (inl some) = inl some
    by_used (inr none) = inr (grind (arith, nat_tests))

full_used : (n used more : ℕ) → rightly_used used n (suc more) ≡ true → used ≡ 504
unfolding rightly_used
full_used n used more u = grind (arith, nat_tests)

split_at : (more n used : ℕ) (p r : List ℕ) → length p ≡ used → rightly_used used n more ≡ true → Takes more (suc n) r →
    (take 504 (p ++ r) ≡ p) × (drop 504 (p ++ r) ≡ r) × Takes (suc more) n (p ++ r)
split_at zero n used p r e u h =
    let nil = nil_from_length r h in
    let long = length-append p r in
    let small = (last_used n used u).0 in
    let whole : length (p ++ r) ≤ 504 = omega arith in
    (take_all 504 (p ++ r) whole ∙ ap (λ (x : List ℕ). p ++ x) nil ∙ append-nil p, drop_all 504 (p ++ r) whole ∙ sym nil, (omega arith, by_used (last_used n used u).1))
  where
    by_used : (0 < used) ⊎ (n ≡ 0) → (0 * 504 < length (p ++ r)) ⊎ ((◌≡◌ {A = ℕ} 0 0) × (n ≡ 0))
    by_used (inl some) = inl (omega (arith, length-append p r))
    by_used (inr none) = inr (refl, none)
split_at (suc more) n used p r e u (short, inl long) =
    let both = length-append p r in
    let full : length p ≡ 504 = e ∙ full_used n used more u in
    (take_at p r 504 full, drop_at p r 504 full, (omega arith, inl (omega arith)))
split_at (suc more) n used p r e u (short, inr none) = absurd (omega (arith, none.1))

-- blocks without fault are the blocks of what they hold
packs_from : (k n : ℕ) (bs : List ℕ) → Bytes bs → length bs ≡ k * 512 → fault_from k n bs ≡ None → (blocks_from k n (payloads k bs) ≡ bs) × Takes k n (payloads k bs)
unfolding fault_from payloads blocks_from
packs_from zero n bs bytes long fine = (sym (nil_from_length bs (omega arith)), refl)
packs_from (suc more) n bs bytes long fine =
    let b = take 512 bs in
    let parts = or_else_none (fault_of n more (take 512 bs)) (fault_from more (suc n) (drop 512 bs)) fine in
    let tests = fine_block n more (take 512 bs) parts.0 in
    let whole : length (take 512 bs) ≡ 512 = simp length-take (omega arith) in
    let rest : length (drop 512 bs) ≡ more * 512 = simp length-drop (omega arith) in
    let ih = packs_from more (suc n) (drop 512 bs) (bytes_drop 512 bs bytes) rest parts.1 in
    let first = bytes_take 512 bs bytes in
    let split = split_at more n (used_field (take 512 bs)) (payload_of (take 512 bs)) (payloads more (drop 512 bs))
    (length_read n more (take 512 bs) whole first tests.0 tests.1) (formed_parts n more (take 512 bs) tests.1).1 ih.1 in
    (rw (split.0, split.1, sealed_read n more (take 512 bs) whole first tests.0 tests.1, ih.0) (take-append-drop 512 bs), split.2)

count_is_taken : (k : ℕ) (s : List ℕ) → 0 < k → Takes k 0 s → block_count s ≡ k
unfolding block_count
count_is_taken zero s h t = absurd (omega arith)
count_is_taken (suc more) s h (short, inl long) = omega arith
count_is_taken (suc more) s h (short, inr none) = omega (arith, none.0)

takes_short : (k n : ℕ) (s : List ℕ) → Takes k n s → length s ≤ k * 504
takes_short zero n s t = omega arith
takes_short (suc more) n s t = t.0

pub sealed_only : (bs : List ℕ) → Bytes bs → SealedOnly bs
unfolding sheet_of
sealed_only bs bytes s e =
    let open' = opened_ok bs s e in
    let whole = whole_parts (length bs) open'.0 in
    let both = packs_from (length bs / 512) 0 bs bytes (omega arith) open'.1 in
    let stream = payloads (length bs / 512) bs in
    let count = count_is_taken (length bs / 512) stream (omega arith) both.1 in (
      ap sheet_of open'.2 ∙ ap (λ (k : ℕ). blocks_from k 0 stream) count ∙ both.0,
      omega (arith, ap length open'.2, takes_short (length bs / 512) 0 stream both.1),
    )
