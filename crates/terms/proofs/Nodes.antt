-- A term taken apart: its parts are terms, and make it up.
use Rattle.std.proofs.Common.{◌≡◌, ℕ, ◌≤◌, true, List, [], length, take, drop, Some, Option, Ok, Err, sym, ap, ◌∙◌, arith}
use Rattle.std.proofs.lemmas.List.{length-drop, take_at, append-nil}
use Rattle.calculus.specs.Trees.{Process, terminated, write}
use Rattle.terms.specs.declared.head.Head.{Head}
use Rattle.terms.specs.declared.head.Parts.TheVariants.{Zero, One, Two}
use Rattle.terms.specs.Fitting.{are_bytes}
use Rattle.terms.specs.Heads.{built, size_of, parts_of, head_of, objects_in}
use Rattle.terms.specs.Reading.{whole, scan, is_term, tree_of, process_in, size_in, AreTwo}
use Rattle.terms.proofs.Numbers.{bytes_take, bytes_drop}
use Rattle.terms.proofs.Parted.{whole_is, headed, parts_zero, parts_one, parts_two, after_whole, whole_length}
use Rattle.terms.proofs.Readings.{term_scan, term_bytes, term_written, term_short, scan_term}
use Rattle.terms.proofs.Scanned.{scan_sound, scan_complete}

-- the process of a scan that is whole
pub tree_of_lem : (ns q : List ℕ) (p : Process) → scan ns ≡ whole p q → tree_of ns ≡ p
unfolding tree_of process_in
tree_of_lem ns q p e = ap process_in e

module _ (ns : List ℕ) (term : is_term ns ≡ true) where
  bytes : are_bytes ns ≡ true
  bytes = ap are_bytes (sym (term_written ns term)) ∙ term_bytes ns term

  pub term_headed : (k : ℕ) → Err k ≡ head_of ns → ⊥
  term_headed k e = headed ns [] (tree_of ns) k e (term_scan ns term)

  module _ (h : Head) (is : Ok h ≡ head_of ns) where
    short : length (drop (size_of h) ns) ≤ 4096
    short = omega (arith, term_short ns term, length-drop (size_of h) ns)

    pub zero_made : Zero ≡ parts_of h → tree_of ns ≡ built h (objects_in h ns) terminated terminated
    zero_made z = (parts_zero ns [] h (tree_of ns) is z (term_scan ns term)).0

    pub one_term : One ≡ parts_of h → is_term (drop (size_of h) ns) ≡ true
    one_term z =
        let (q, below, made) = parts_one ns [] h (tree_of ns) is z (term_scan ns term) in
        scan_term (drop (size_of h) ns) q below (bytes_drop (size_of h) ns bytes) short

    pub one_made : One ≡ parts_of h → tree_of ns ≡ built h (objects_in h ns) (tree_of (drop (size_of h) ns)) terminated
    one_made z =
        let (q, below, made) = parts_one ns [] h (tree_of ns) is z (term_scan ns term) in
        made ∙ ap (λ (x : Process). built h (objects_in h ns) x terminated) (sym (tree_of_lem (drop (size_of h) ns) [] q below))

    -- the first of two parts, n bytes long
    module _ (z : Two ≡ parts_of h) (n : ℕ) (long : (p : Process) (r : List ℕ) → scan (drop (size_of h) ns) ≡ whole p r → n ≡ length (write p)) where
      first_bytes : (q : Process) (ms : List ℕ) → scan (drop (size_of h) ns) ≡ whole q ms → take n (drop (size_of h) ns) ≡ write q
      first_bytes q ms e = ap (take n) (scan_sound (drop (size_of h) ns) q ms e).0 ∙ take_at (write q) ms n (sym (long q ms e))

      first_scan : (q : Process) (ms : List ℕ) → scan (drop (size_of h) ns) ≡ whole q ms → scan (take n (drop (size_of h) ns)) ≡ whole q []
      first_scan q ms e =
          ap scan (first_bytes q ms e ∙ sym (append-nil (write q))) ∙ scan_complete q [] (scan_sound (drop (size_of h) ns) q ms e).1

      second_bytes : (q : Process) (ms : List ℕ) → scan (drop (size_of h) ns) ≡ whole q ms → drop n (drop (size_of h) ns) ≡ ms
      second_bytes q ms e = ap (λ (k : ℕ). drop k (drop (size_of h) ns)) (long q ms e) ∙ after_whole (drop (size_of h) ns) ms q e

      pub first_term : is_term (take n (drop (size_of h) ns)) ≡ true
      first_term =
          let (q, r, ms, first, second, made) = parts_two ns [] h (tree_of ns) is z (term_scan ns term) in
          scan_term (take n (drop (size_of h) ns)) q (first_scan q ms first) (bytes_take n (drop (size_of h) ns) (bytes_drop (size_of h) ns bytes))
          (omega (arith, short, whole_length (drop (size_of h) ns) ms q first, ap length (first_bytes q ms first)))

      pub second_term : is_term (drop n (drop (size_of h) ns)) ≡ true
      second_term =
          let (q, r, ms, first, second, made) = parts_two ns [] h (tree_of ns) is z (term_scan ns term) in
          scan_term (drop n (drop (size_of h) ns)) r (ap scan (second_bytes q ms first) ∙ second) (bytes_drop n (drop (size_of h) ns) (bytes_drop (size_of h) ns bytes))
          (omega (arith, short, length-drop n (drop (size_of h) ns)))

      pub two_made : tree_of ns ≡ built h (objects_in h ns) (tree_of (take n (drop (size_of h) ns))) (tree_of (drop n (drop (size_of h) ns)))
      two_made =
          let (q, r, ms, first, second, made) = parts_two ns [] h (tree_of ns) is z (term_scan ns term) in
          let left : tree_of (take n (drop (size_of h) ns)) ≡ q = tree_of_lem (take n (drop (size_of h) ns)) [] q (first_scan q ms first) in
          let right : tree_of (drop n (drop (size_of h) ns)) ≡ r = tree_of_lem (drop n (drop (size_of h) ns)) [] r (ap scan (second_bytes q ms first) ∙ second) in
          cc (made, left, right)

      -- and how long the first is
      first_size : (q : Process) (ms : List ℕ) → scan (drop (size_of h) ns) ≡ whole q ms → Some n ≡ size_in (scan (drop (size_of h) ns))
      unfolding size_in
      first_size q ms e = ap (λ (k : ℕ). Some k) (long q ms e) ∙ sym (ap size_in e)

    -- the bytes after the head of a node of two parts
    pub two_terms : Two ≡ parts_of h → AreTwo (drop (size_of h) ns)
    two_terms z =
        let (q, r, ms, first, second, made) = parts_two ns [] h (tree_of ns) is z (term_scan ns term) in
        let long : (p : Process) (rest : List ℕ) → scan (drop (size_of h) ns) ≡ whole p rest → length (write q) ≡ length (write p) = λ p rest e. ap (λ (x : Process). length (write x)) (whole_is _ _ _ _ (sym first ∙ e)).0 in
        (length (write q), first_size z (length (write q)) long q ms first, first_term z (length (write q)) long, second_term z (length (write q)) long)

    pub parts_made : (z : Two ≡ parts_of h) (n : ℕ) → Some n ≡ size_in (scan (drop (size_of h) ns)) → tree_of ns ≡ built h (objects_in h ns) (tree_of (take n (drop (size_of h) ns))) (tree_of (drop n (drop (size_of h) ns)))
    unfolding size_in
    parts_made z n e = two_made z n (λ p rest is. let same : ◌≡◌ {A = Option ℕ} (Some n) (Some (length (write p))) = e ∙ ap size_in is in cc)
