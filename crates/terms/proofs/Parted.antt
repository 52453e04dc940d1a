-- The scan of a node taken apart.
use Rattle.std.proofs.Common.{◌≡◌, ℕ, ◌+◌, List, length, drop, Ok, Err, sym, refl, ap, ◌∙◌}
use Rattle.std.proofs.lemmas.List.{length-append, drop_at}
use Rattle.calculus.specs.Trees.{Process, terminated, write}
use Rattle.terms.specs.declared.head.Head.{Head}
use Rattle.terms.specs.declared.head.Parts.{Parts}
use Rattle.terms.specs.declared.head.Parts.TheVariants.{Zero, One, Two}
use Rattle.terms.specs.Heads.{built, size_of, parts_of, head_of, objects_in}
use Rattle.terms.specs.Reading.{whole, grown, scan}
use Rattle.terms.proofs.Scanned.{stuck_whole, wrapped_whole, secondly_whole, scan_head, scan_none, scan_sound}

-- What a scan that comes out whole says of the node and its parts.
pub whole_is : (p q : Process) (ns ms : List ℕ) → whole p ns ≡ whole q ms → (p ≡ q) × (ns ≡ ms)
whole_is p q ns ms e = (cc, cc)

-- where there is a process, there is a head
pub headed : (bs ns : List ℕ) (p : Process) (place : ℕ) → Err place ≡ head_of bs → scan bs ≡ whole p ns → ⊥
headed bs ns p place none e = stuck_whole p ns (drop place bs) (sym (scan_none bs place (sym none)) ∙ e)

module _ (bs ns : List ℕ) (h : Head) (p : Process) (is : Ok h ≡ head_of bs) where
  parts_grown : (parts : Parts) → parts ≡ parts_of h → scan bs ≡ whole p ns → grown scan (built h (objects_in h bs)) parts (drop (size_of h) bs) ≡ whole p ns
  parts_grown parts e found = ap (λ (k : Parts). grown scan (built h (objects_in h bs)) k (drop (size_of h) bs)) e ∙ sym (scan_head bs h (sym is)) ∙ found

  pub parts_zero : Zero ≡ parts_of h → scan bs ≡ whole p ns → (p ≡ built h (objects_in h bs) terminated terminated) × (drop (size_of h) bs ≡ ns)
  unfolding grown
  parts_zero e found =
      let both = whole_is _ p _ ns (parts_grown Zero e found) in
      (sym both.0, both.1)

  pub parts_one : One ≡ parts_of h → scan bs ≡ whole p ns → (q : Process) × (scan (drop (size_of h) bs) ≡ whole q ns) × (p ≡ built h (objects_in h bs) q terminated)
  unfolding grown
  parts_one e found = wrapped_whole (λ q. built h (objects_in h bs) q terminated) (scan (drop (size_of h) bs)) p ns (parts_grown One e found)

  -- the second part begins where the first ends
  pub parts_two : Two ≡ parts_of h → scan bs ≡ whole p ns →
      (q r : Process) × (ms : List ℕ) × (scan (drop (size_of h) bs) ≡ whole q ms) × (scan ms ≡ whole r ns) × (p ≡ built h (objects_in h bs) q r)
  unfolding grown
  parts_two e found = secondly_whole scan (built h (objects_in h bs)) (scan (drop (size_of h) bs)) p ns (parts_grown Two e found)

  -- whatever parts it has
  pub parts_some : scan bs ≡ whole p ns → (q r : Process) × (p ≡ built h (objects_in h bs) q r)
  parts_some found = by_parts (parts_of h) refl
    where
      by_parts : (parts : Parts) → parts ≡ parts_of h → (q r : Process) × (p ≡ built h (objects_in h bs) q r)
      by_parts Zero e = (terminated, terminated, (parts_zero e found).0)
      by_parts One e = let (q, below, is) = parts_one e found in (q, terminated, is)
      by_parts Two e = let (q, r, ms, first, second, is) = parts_two e found in (q, r, is)

-- what follows a process in bytes
pub after_whole : (bs ns : List ℕ) (p : Process) → scan bs ≡ whole p ns → drop (length (write p)) bs ≡ ns
after_whole bs ns p found = ap (drop (length (write p))) (scan_sound bs p ns found).0 ∙ drop_at (write p) ns (length (write p)) refl

pub whole_length : (bs ns : List ℕ) (p : Process) → scan bs ≡ whole p ns → length bs ≡ length (write p) + length ns
whole_length bs ns p found = ap length (scan_sound bs p ns found).0 ∙ length-append (write p) ns
