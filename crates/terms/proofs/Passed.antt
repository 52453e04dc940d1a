-- A walk past one process: the bytes after it, node by node.
use Rattle.std.proofs.Common.{◌≡◌, ℕ, ◌-◌, ◌<◌, ◌≤◌, List, length, take, drop, Some, None, Ok, Err, sym, refl, ap, ◌∙◌, arith}
use Rattle.std.proofs.lemmas.List.{take_rest, length-append}
use Rattle.calculus.specs.Trees.{Process, write}
use Rattle.terms.specs.declared.head.Head.{Head}
use Rattle.terms.specs.declared.head.Parts.{Parts}
use Rattle.terms.specs.declared.head.Parts.TheVariants.{Zero, One, Two}
use Rattle.terms.specs.Heads.{built, size_of, parts_of, head_of, objects_in}
use Rattle.terms.specs.Reading.{Scanned, whole, stuck, wrapped, secondly, grown, scan, rest_of, size_in}
use Rattle.terms.proofs.Scanned.{ok_is, scan_head, scan_none, scan_shortens, scan_sound, scan_stuck, head_shorter}

-- wrapping a process changes nothing of what follows it
rest_wrapped : (node : Process → Process) (s : Scanned) → rest_of (wrapped node s) ≡ rest_of s
unfolding rest_of wrapped
rest_wrapped node (whole p ns) = refl
rest_wrapped node (stuck ns) = refl

rest_second : (node : Process → Process → Process) (s : Scanned) (q : List ℕ) → Ok q ≡ rest_of s → rest_of (secondly scan node s) ≡ rest_of (scan q)
unfolding rest_of secondly
rest_second node (whole p ns) q e = rest_wrapped (node p) (scan ns) ∙ ap (λ (x : List ℕ). rest_of (scan x)) (sym (ok_is q ns e))
rest_second node (stuck ns) q e = let z : ◌≡◌ {A = ℕ} 0 1 = cc in absurd (omega arith)

rest_stuck : (node : Process → Process → Process) (s : Scanned) (q : List ℕ) → Err q ≡ rest_of s → rest_of (secondly scan node s) ≡ Err q
unfolding rest_of secondly
rest_stuck node (whole p ns) q e = let z : ◌≡◌ {A = ℕ} 0 1 = cc in absurd (omega arith)
rest_stuck node (stuck ns) q e = sym e

-- no head
pub past_none : (ns : List ℕ) (k : ℕ) → Err k ≡ head_of ns → Err (take (length ns - k) (drop k ns)) ≡ rest_of (scan ns)
unfolding rest_of
past_none ns k e = ap (λ (x : List ℕ). Err x) (take_rest ns k) ∙ ap rest_of (sym (scan_none ns k (sym e)))

-- a head, whose parts come after so many bytes
module _ (ns : List ℕ) (h : Head) (is : Ok h ≡ head_of ns) (size : ℕ) (long : size ≡ size_of h) where
  -- the bytes after the head
  pub rest_is : take (length ns - size) (drop size ns) ≡ drop (size_of h) ns
  rest_is = take_rest ns size ∙ ap (λ (k : ℕ). drop k ns) long

  grown_is : (parts : Parts) → parts ≡ parts_of h → grown scan (built h (objects_in h ns)) parts (take (length ns - size) (drop size ns)) ≡ scan ns
  grown_is parts e = rw (rest_is, e) (sym (scan_head ns h (sym is)))

  pub past_zero : Zero ≡ parts_of h → Ok (take (length ns - size) (drop size ns)) ≡ rest_of (scan ns)
  unfolding rest_of grown
  past_zero e = ap rest_of (grown_is Zero e)

  pub past_one : One ≡ parts_of h → rest_of (scan (take (length ns - size) (drop size ns))) ≡ rest_of (scan ns)
  unfolding grown
  past_one e = sym (rest_wrapped _ (scan (take (length ns - size) (drop size ns)))) ∙ ap rest_of (grown_is One e)

  pub past_stuck : Two ≡ parts_of h → (q : List ℕ) → Err q ≡ rest_of (scan (take (length ns - size) (drop size ns))) → Err q ≡ rest_of (scan ns)
  unfolding grown
  past_stuck e q first = sym (rest_stuck _ (scan (take (length ns - size) (drop size ns))) q first) ∙ ap rest_of (grown_is Two e)

  pub past_two : Two ≡ parts_of h → (q : List ℕ) → Ok q ≡ rest_of (scan (take (length ns - size) (drop size ns))) → rest_of (scan q) ≡ rest_of (scan ns)
  unfolding grown
  past_two e q first = sym (rest_second _ (scan (take (length ns - size) (drop size ns))) q first) ∙ ap rest_of (grown_is Two e)

  -- what is left is shorter
  pub rest_shorter : length (take (length ns - size) (drop size ns)) < length ns
  rest_shorter = rw rest_is (head_shorter ns h (sym is))

-- what follows a process is not longer
shortens_by : (ns q : List ℕ) (s : Scanned) → scan ns ≡ s → Ok q ≡ rest_of s → length q ≤ length ns
unfolding rest_of
shortens_by ns q (whole p r) is d = let same : q ≡ r = cc in omega (arith, scan_shortens ns p r is, ap length same)
shortens_by ns q (stuck r) is d = let z : ◌≡◌ {A = ℕ} 0 1 = cc in absurd (omega arith)

pub past_shortens : (ns q : List ℕ) → Ok q ≡ rest_of (scan ns) → length q ≤ length ns
past_shortens ns q e = shortens_by ns q (scan ns) refl e

stuck_by : (ns q : List ℕ) (s : Scanned) → scan ns ≡ s → Err q ≡ rest_of s → length q ≤ length ns
unfolding rest_of
stuck_by ns q (whole p r) is d = let z : ◌≡◌ {A = ℕ} 0 1 = cc in absurd (omega arith)
stuck_by ns q (stuck r) is d =
    let same : q ≡ r = cc in
    let held = scan_stuck ns r is in
    omega (arith, ap length same, ap length held.cut, length-append held.start r)

pub stuck_shortens : (ns q : List ℕ) → Err q ≡ rest_of (scan ns) → length q ≤ length ns
stuck_shortens ns q e = stuck_by ns q (scan ns) refl e

-- how long the process is
pub size_passed : (ns q : List ℕ) → Ok q ≡ rest_of (scan ns) → Some (length ns - length q) ≡ size_in (scan ns)
unfolding rest_of size_in
size_passed ns q e = by_scan (scan ns) refl e
  where
    by_scan : (s : Scanned) → scan ns ≡ s → Ok q ≡ rest_of s → Some (length ns - length q) ≡ size_in s
    by_scan (whole p r) is d =
        let same : q ≡ r = cc in
        let long : length ns - length q ≡ length (write p) = omega (arith, ap length (scan_sound ns p r is).0, length-append (write p) r, ap length same) in
        ap (λ (k : ℕ). Some k) long
    by_scan (stuck r) is d = let z : ◌≡◌ {A = ℕ} 0 1 = cc in absurd (omega arith)

pub size_stuck : (ns q : List ℕ) → Err q ≡ rest_of (scan ns) → None ≡ size_in (scan ns)
unfolding rest_of size_in
size_stuck ns q e = by_scan (scan ns) e
  where
    by_scan : (s : Scanned) → Err q ≡ rest_of s → None ≡ size_in s
    by_scan (whole p r) d = let z : ◌≡◌ {A = ℕ} 0 1 = cc in absurd (omega arith)
    by_scan (stuck r) d = refl
