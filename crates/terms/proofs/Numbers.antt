-- Numbers that are bytes, in lists made of others.
use Rattle.std.proofs.Common.{◌≡◌, ℕ, zero, suc, ◌<◌, ◌≤◌, true, ◌&&◌, leb, List, [], ◌∷◌, ◌++◌, get_or, take, drop, replicate, sym, refl, ap, ◌∙◌, arith}
use Rattle.std.proofs.lemmas.List.{take-append-drop}
use Rattle.std.proofs.lemmas.Bool.{and_parts, and_from, le-leb}
use Rattle.std.proofs.Math.Bool.{and_assoc}
use Rattle.terms.specs.Fitting.{are_bytes}

pub bytes_append : (ms ns : List ℕ) → are_bytes (ms ++ ns) ≡ (are_bytes ms && are_bytes ns)
unfolding are_bytes
bytes_append [] ns = refl
bytes_append (m ∷ ms) ns = ap (◌&&◌ (leb m 255)) (bytes_append ms ns) ∙ sym (and_assoc (leb m 255) (are_bytes ms) (are_bytes ns))

pub bytes_left : (ms ns : List ℕ) → are_bytes (ms ++ ns) ≡ true → are_bytes ms ≡ true
bytes_left ms ns e = (and_parts (are_bytes ms) (are_bytes ns) (sym (bytes_append ms ns) ∙ e)).0

pub bytes_right : (ms ns : List ℕ) → are_bytes (ms ++ ns) ≡ true → are_bytes ns ≡ true
bytes_right ms ns e = (and_parts (are_bytes ms) (are_bytes ns) (sym (bytes_append ms ns) ∙ e)).1

pub bytes_both : (ms ns : List ℕ) → are_bytes ms ≡ true → are_bytes ns ≡ true → are_bytes (ms ++ ns) ≡ true
bytes_both ms ns e f = bytes_append ms ns ∙ and_from (are_bytes ms) (are_bytes ns) e f

pub bytes_take : (n : ℕ) (ns : List ℕ) → are_bytes ns ≡ true → are_bytes (take n ns) ≡ true
bytes_take n ns e = bytes_left (take n ns) (drop n ns) (ap are_bytes (take-append-drop n ns) ∙ e)

pub bytes_drop : (n : ℕ) (ns : List ℕ) → are_bytes ns ≡ true → are_bytes (drop n ns) ≡ true
bytes_drop n ns e = bytes_right (take n ns) (drop n ns) (ap are_bytes (take-append-drop n ns) ∙ e)

pub bytes_zeros : (n : ℕ) → are_bytes (replicate n 0) ≡ true
unfolding are_bytes
bytes_zeros zero = refl
bytes_zeros (suc n) = bytes_zeros n

-- what a slice holds are bytes
pub typed_bytes : (ns : List ℕ) → ((i : ℕ) → get_or ns i 0 < 256) → are_bytes ns ≡ true
unfolding are_bytes
typed_bytes [] typed = refl
typed_bytes (n ∷ ns) typed =
    let first : n ≤ 255 = omega (arith, typed 0) in
    and_from (leb n 255) (are_bytes ns) (le-leb n 255 first) (typed_bytes ns (λ i. typed (suc i)))
