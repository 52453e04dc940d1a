-- The blocks of a stream, one after another: their lengths, and one turn of the loop that writes them.
use Rattle.std.proofs.Common.{◌≡◌, ℕ, zero, suc, ◌+◌, ◌*◌, ◌/◌, ◌%◌, ◌<◌, ◌≤◌, ◌⊎◌, min, max, List, ◌++◌, length, take, drop, Ok, Err, sym, refl, ap, ◌∙◌, inl, inr, append_assoc, add-zero, arith}
use Rattle.std.proofs.lemmas.List.{length-append, length-take, length-replicate, drop-drop, append-nil}
use Rattle.std.proofs.lemmas.Bool.{lt-ltb, le-ltb, cases_lt}
use Rattle.refusal.specs.declared.Refusal.TheVariants.{StreamTooLong, BufferTooShort}
use Rattle.refusal.specs.Writes.{fault, answered, within}
use Rattle.refusal.proofs.Writes.{answered_ok, within_short, within_fits, within_ok}
use Rattle.blocks.specs.Sealing.{front, block, blocks_from, block_count, sheet_of, packing}

pub length_front : (n : ℕ) (p : List ℕ) → length p ≤ 504 → length (front n p) ≡ 508
unfolding front
length_front n p h = simp (length-append, length-replicate) (omega arith)

pub length-block : (n : ℕ) (p : List ℕ) → length p ≤ 504 → length (block n p) ≡ 512
unfolding block
length-block n p h = simp (length-append, length_front n p h) (omega arith)

pub length_payload : (s : List ℕ) → length (take 504 s) ≤ 504
length_payload s = simp length-take (omega arith)

pub length-blocks_from : (k n : ℕ) (s : List ℕ) → length (blocks_from k n s) ≡ k * 512
unfolding blocks_from
length-blocks_from zero n s = refl
length-blocks_from (suc k) n s =
    length-append (block n (take 504 s)) (blocks_from k (suc n) (drop 504 s))
    ∙ omega (arith, length-block n (take 504 s) (length_payload s), length-blocks_from k (suc n) (drop 504 s))

pub length-sheet_of : (s : List ℕ) → length (sheet_of s) ≡ block_count s * 512
unfolding sheet_of
length-sheet_of s = length-blocks_from (block_count s) 0 s

-- what packing comes to
pub packing_long : (s : List ℕ) (room : ℕ) → 64512 < length s → packing s room ≡ Err (fault StreamTooLong 0)
unfolding packing
packing_long s room h = rw (lt-ltb 64512 (length s) h)

pub packing_is : (s : List ℕ) (room : ℕ) → length s ≤ 64512 → packing s room ≡ within room (Ok (sheet_of s))
unfolding packing
packing_is s room h = rw (le-ltb 64512 (length s) h)

pub packing_short : (s : List ℕ) (room : ℕ) → length s ≤ 64512 → room < length (sheet_of s) → packing s room ≡ Err (fault BufferTooShort 0)
packing_short s room h k = packing_is s room h ∙ within_short room (sheet_of s) k

pub packing_fits : (s : List ℕ) (room : ℕ) → length s ≤ 64512 → length (sheet_of s) ≤ room → packing s room ≡ Ok (sheet_of s)
packing_fits s room h k = packing_is s room h ∙ within_fits room (sheet_of s) k

-- how many blocks the code counts
pub count_is : (s : List ℕ) (whole count : ℕ) → whole ≡ length s / 504 + min 1 (length s % 504) → count ≡ max whole 1 → count ≡ block_count s
unfolding block_count
count_is s whole count e f = omega arith

-- the first blocks, and the next one
pub blocks_more : (n m k : ℕ) (s : List ℕ) → m + n ≡ k → blocks_from (n + 1) m s ≡ blocks_from n m s ++ block k (take 504 (drop (n * 504) s))
unfolding blocks_from
blocks_more zero m k s e = rw (sym e, add-zero m) (append-nil (block m (take 504 s)))
blocks_more (suc n) m k s e =
    let on : drop (n * 504) (drop 504 s) ≡ drop (suc n * 504) s = drop-drop (n * 504) 504 s ∙ ap (λ (k : ℕ). drop k s) (omega arith) in
    let later = blocks_more n (suc m) k (drop 504 s) (omega arith) in
    let count : suc n + 1 ≡ suc (n + 1) = omega arith in
    ap (λ (j : ℕ). blocks_from j m s) count ∙ ap (λ (bs : List ℕ). block m (take 504 s) ++ bs) (later ∙ ap (λ (x : List ℕ). blocks_from n (suc m) (drop 504 s) ++ block k (take 504 x)) on)
    ∙ sym (append_assoc (block m (take 504 s)) (blocks_from n (suc m) (drop 504 s)) (block k (take 504 (drop (suc n * 504) s))))

-- what an accepted packing tells
pub packing_ok : (s : List ℕ) (room size : ℕ) → answered (packing s room) ≡ Ok size → (packing s room ≡ Ok (sheet_of s)) × (length (sheet_of s) ≡ size) × (length s ≤ 64512)
packing_ok s room size e =
    let found = answered_ok (packing s room) size e in
    by_length found.0 found.1 found.2 (cases_lt 64512 (length s))
  where
    by_length : (bytes : List ℕ) → packing s room ≡ Ok bytes → length bytes ≡ size → (64512 < length s) ⊎ (length s ≤ 64512) →
        (packing s room ≡ Ok (sheet_of s)) × (length (sheet_of s) ≡ size) × (length s ≤ 64512)
    by_length bytes is l (inl long) = absurd (cc (packing_long s room long))
    by_length bytes is l (inr short) =
        let both = within_ok room (Ok (sheet_of s)) bytes (sym (packing_is s room short) ∙ is) in
        let same : sheet_of s ≡ bytes = cc in
        (is ∙ ap Ok (sym same), ap length same ∙ l, short)
