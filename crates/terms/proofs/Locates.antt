-- The walk that looks for an offset, node by node.
use Rattle.std.proofs.Common.{◌≡◌, ◌≢◌, ℕ, ◌+◌, ◌-◌, ◌<◌, ◌≤◌, Bool, true, ◌&&◌, List, [], length, drop, Some, None, Ok, Err, Option, Result, ControlFlow, Continue, Break, sym, refl, ap, ◌∙◌, arith, rules}
use Rattle.std.specs.ControlFlow.{break_value}
use Rattle.std.specs.Option.{IfSome, option_flatten, option_map}
use Rattle.std.specs.Result.{IsErr}
use Rattle.std.proofs.lemmas.List.{length-append}
use Rattle.calculus.specs.Trees.{Process, terminated, write}
use Rattle.calculus.specs.Contexts.{Context, fill, before, after}
use Rattle.calculus.specs.Playing.{node_at}
use Rattle.calculus.proofs.Places.{write-fill, node_at_finds, place_within}
use Rattle.terms.specs.declared.head.Head.{Head}
use Rattle.terms.specs.declared.head.Parts.{Parts}
use Rattle.terms.specs.declared.head.Parts.TheVariants.{Zero, One, Two}
use Rattle.terms.specs.declared.finding.Found.{Found}
use Rattle.terms.specs.declared.finding.Place.{Place}
use Rattle.terms.specs.Finding.{StandsAt, PartOf, bound_above, placed, place_of, found_under, located_in}
use Rattle.terms.specs.Heads.{built, size_of, binds_of, active_below, parts_of, head_of, objects_in}
use Rattle.terms.specs.Reading.{whole, scan, size_in, is_term, tree_of}
use Rattle.terms.proofs.Found.{stands_none, stands_some, located_within, located_past, located_top, located_head, located_first, located_second, length_zero, length_one, length_two}
use Rattle.terms.proofs.Parted.{parts_zero, parts_one, parts_two, parts_some, after_whole, headed}
use Rattle.terms.proofs.Fitted.{part_term}
use Rattle.terms.proofs.Readings.{term_scan, term_short, term_written}
use Rattle.terms.proofs.Scanned.{head_opens}

-- past a process there is no node
node_past : (offset : ℕ) (t : Process) → length (write t) ≤ offset → node_at offset t ≡ None
node_past offset t far = by_node (node_at offset t) refl
  where
    by_node : (found : Option (Context × Process)) → node_at offset t ≡ found → node_at offset t ≡ None
    by_node None e = e
    by_node (Some (c, p)) e =
        let (filled, at) = node_at_finds offset t (c, p) e in
        let within = place_within c p in
        absurd (omega (arith, ap (λ (q : Process). length (write q)) filled))

-- What an answer says of the offset.
module _ (offset bound : ℕ) (o : Bool) (t : Process) where
  breaks : (found : Option Found) → Break found ≡ located_in offset bound o t → offset < length (write t)
  breaks found e = grind (arith, located_within offset bound o t, located_past offset bound o t)

  goes_on : (n : ℕ) → Continue n ≡ located_in offset bound o t → (n ≡ length (write t)) × (length (write t) ≤ offset)
  goes_on n e = grind (arith, located_within offset bound o t, located_past offset bound o t)

  ended : (n : ℕ) → n ≡ length (write t) → n ≤ offset → Continue n ≡ located_in offset bound o t
  ended n e far = grind (arith, located_past offset bound o t)

-- the node that is found, if there is one: past the process there is none
found_in : (offset bound : ℕ) (o : Bool) (t : Process) → option_flatten (break_value (located_in offset bound o t)) ≡ found_under bound o (node_at offset t)
unfolding found_under
found_in offset bound o t = grind (arith, located_within offset bound o t, located_past offset bound o t, node_past offset t)

-- what a walk of bytes in search of an offset answers, with so many names bound above
abbrev pub Answers : List ℕ → ℕ → ℕ → Bool → ControlFlow (Option Found) ℕ → Type 0
Answers bs offset bound o f = (p : Process) (ns : List ℕ) → scan bs ≡ whole p ns → f ≡ located_in offset bound o p

-- the node at the start, below so many names bound
pub locates_top : (bs : List ℕ) {size : Option ℕ} → size ≡ size_in (scan bs) → (offset bound : ℕ) (o : Bool) → offset ≡ 0 → {node : Option Found} → node ≡ option_map (λ n. record { size = n; bound = bound; active = o }) size →
    Answers bs offset bound o (Break node)
unfolding size_in
locates_top bs long offset bound o start made p ns found = rw (made, long, found, start) (sym (located_top bound o p))

-- where there is no head, there is no process
pub locates_nothing : (bs : List ℕ) → IsErr (head_of bs) → (offset bound : ℕ) (o : Bool) {f : ControlFlow (Option Found) ℕ} → Answers bs offset bound o f
locates_nothing bs none offset bound o {f} p ns found = by_head (head_of bs) refl none
  where
    by_head : (r : Result Head ℕ) → head_of bs ≡ r → IsErr r → f ≡ located_in offset bound o p
    by_head (Ok h) is none = absurd (search rules)
    by_head (Err place) is none = absurd (headed bs ns p place (sym is) found)

-- The node at an offset behind the first, where a head of so many bytes stands at the start, and the rest behind it.
module _ (bs : List ℕ) {h : Head} (is : head_of bs ≡ Ok h) {size : ℕ} (long : size ≡ size_of h) (offset bound : ℕ) (o : Bool) where
  pub locates_head : offset ≢ 0 → offset < size → Answers bs offset bound o (Break None)
  locates_head some inside p ns found =
      let (q, r, built_so) = parts_some bs ns h p (sym is) found in
      sym (ap (located_in offset bound o) built_so ∙ located_head offset bound o h (objects_in h bs) q r (head_opens bs h is).count (omega arith) (omega arith))

  pub locates_zero : Zero ≡ parts_of h → size ≤ offset → Answers bs offset bound o (Continue size)
  locates_zero zero behind p ns found =
      let (built_so, left) = parts_zero bs ns h p (sym is) zero found in
      ended offset bound o p size (omega (arith, ap (λ (t : Process). length (write t)) built_so, length_zero h (objects_in h bs) terminated terminated (sym zero) (head_opens bs h is).count)) behind

  -- the first part, of one or of two
  first_part : (p : Process) (ns : List ℕ) → (Zero ≡ parts_of h → ⊥) → scan bs ≡ whole p ns →
      (q r : Process) × (ms : List ℕ) × (scan (drop (size_of h) bs) ≡ whole q ms) × (p ≡ built h (objects_in h bs) q r)
  first_part p ns some found = by_parts (parts_of h) refl
    where
      by_parts : (parts : Parts) → parts ≡ parts_of h → (q r : Process) × (ms : List ℕ) × (scan (drop (size_of h) bs) ≡ whole q ms) × (p ≡ built h (objects_in h bs) q r)
      by_parts Zero e = absurd (some e)
      by_parts One e = let (q, below, is_built) = parts_one bs ns h p (sym is) e found in (q, terminated, ns, below, is_built)
      by_parts Two e = let (q, r, ms, first, second, is_built) = parts_two bs ns h p (sym is) e found in (q, r, ms, first, is_built)

  -- the walk goes on behind the head
  module _ (behind : size ≤ offset) {rest : List ℕ} (left : rest ≡ drop (size_of h) bs) (b : ℕ) (a : Bool) where
    pub locates_first : (Zero ≡ parts_of h → ⊥) → b ≡ bound + binds_of h → a ≡ (o && active_below h) → {node : Option Found} → Answers rest (offset - size) b a (Break node) → {f : ControlFlow (Option Found) ℕ} → f ≡ Break node → Answers bs offset bound o f
    locates_first some binds opens {node} below out p ns found =
        let (q, r, ms, part, built_so) = first_part p ns some found in
        let there : Break node ≡ located_in (offset - size) b a q = below q ms (ap scan left ∙ part) in
        let near = breaks (offset - size) b a q node there in
        let all = located_first offset bound o h (objects_in h bs) q r (λ z. some (sym z)) (head_opens bs h is).count (omega arith) (omega arith) in
        cc

    pub locates_one : One ≡ parts_of h → {first : ℕ} → Answers rest (offset - size) b a (Continue first) → Answers bs offset bound o (Continue (size + first))
    locates_one one {first} below p ns found =
        let (q, part, built_so) = parts_one bs ns h p (sym is) one found in
        let (ends, far) = goes_on (offset - size) b a q first (below q ns (ap scan left ∙ part)) in
        ended offset bound o p (size + first)
        (omega (arith, ap (λ (t : Process). length (write t)) built_so, length_one h (objects_in h bs) q terminated (sym one) (head_opens bs h is).count)) (omega arith)

    -- the second part begins where the first ends
    module _ (two : Two ≡ parts_of h) {first : ℕ} (below : Answers rest (offset - size) b a (Continue first)) {next : List ℕ} (follows : next ≡ drop first rest) where
      second_part : (p : Process) (ns : List ℕ) → scan bs ≡ whole p ns →
          (q r : Process) × (first ≡ length (write q)) × (length (write q) ≤ offset - size) × (scan next ≡ whole r ns) × (p ≡ built h (objects_in h bs) q r)
      second_part p ns found =
          let (q, r, ms, part, second, built_so) = parts_two bs ns h p (sym is) two found in
          let there : scan rest ≡ whole q ms = ap scan left ∙ part in
          let (ends, far) = goes_on (offset - size) b a q first (below q ms there) in
          let at_end : next ≡ ms = follows ∙ ap (λ (k : ℕ). drop k rest) ends ∙ after_whole rest ms q there in
          (q, r, ends, far, ap scan at_end ∙ second, built_so)

      pub locates_second : (d : ℕ) → d ≡ bound + binds_of h → a ≡ (o && active_below h) → {node : Option Found} → Answers next (offset - size - first) d a (Break node) → {f : ControlFlow (Option Found) ℕ} → f ≡ Break node → Answers bs offset bound o f
      locates_second d binds opens {node} beyond out p ns found =
          let (q, r, ends, far, second, built_so) = second_part p ns found in
          let there : Break node ≡ located_in (offset - size - first) d a r = beyond r ns second in
          let near = breaks (offset - size - first) d a r node there in
          let all = located_second offset bound o h (objects_in h bs) q r (sym two) (head_opens bs h is).count (omega arith) (omega arith) in
          cc

      pub locates_two : (d : ℕ) {second : ℕ} → Answers next (offset - size - first) d a (Continue second) → Answers bs offset bound o (Continue (size + first + second))
      locates_two d {second} beyond p ns found =
          let (q, r, ends, far, after, built_so) = second_part p ns found in
          let (stops, past) = goes_on (offset - size - first) d a r second (beyond r ns after) in
          ended offset bound o p (size + first + second)
          (omega (arith, ap (λ (t : Process). length (write t)) built_so, length_two h (objects_in h bs) q r (sym two) (head_opens bs h is).count)) (omega arith)

-- What a walk of a whole term finds, and its place.
module _ (ns : List ℕ) (term : is_term ns ≡ true) (offset : ℕ) {bound : ℕ} (none : bound ≡ 0) {f : ControlFlow (Option Found) ℕ} (answers : Answers ns offset bound true f) where
  found_there : option_flatten (break_value f) ≡ found_under 0 true (node_at offset (tree_of ns))
  found_there =
      let there : f ≡ located_in offset 0 true (tree_of ns) = answers (tree_of ns) [] (term_scan ns term) ∙ ap (λ (b : ℕ). located_in offset b true (tree_of ns)) none in
      ap (λ (w : ControlFlow (Option Found) ℕ). option_flatten (break_value w)) there ∙ found_in offset 0 true (tree_of ns)

  -- it ends within the term
  pub found_within : (found : Option Found) → found ≡ option_flatten (break_value f) → IfSome found (λ n. offset + n.size ≤ 4096)
  unfolding found_under
  found_within found is = by_node (node_at offset (tree_of ns)) refl
    where
      by_node : (node : Option (Context × Process)) → node_at offset (tree_of ns) ≡ node → IfSome found (λ n. offset + n.size ≤ 4096)
      by_node None e = rw (is, found_there, e) tt
      by_node (Some (c, p)) e =
          let (filled, at) = node_at_finds offset (tree_of ns) (c, p) e in
          let short = term_short ns term in
          let size : length (write (fill c p)) ≡ length ns = ap (λ (q : Process). length (write q)) filled ∙ ap length (term_written ns term) in
          let parts : length (write (fill c p)) ≡ length (before c) + (length (write p) + length (after c)) = simp length-append at (ap length (write-fill c p)) in
          rw (is, found_there, e) (omega arith)

  -- all that is promised of its place holds
  pub stands_placed : (place : Option Place) → place ≡ option_map (λ n. record { from = offset; end = offset + n.size; bound = n.bound; active = n.active }) (option_flatten (break_value f)) →
      record { answer : place ≡ placed (node_at offset (tree_of ns)); stands : StandsAt (tree_of ns) offset place; part : PartOf ns place }
  unfolding found_under placed place_of
  stands_placed place made = by_node (node_at offset (tree_of ns)) refl
    where
      by_node : (node : Option (Context × Process)) → node_at offset (tree_of ns) ≡ node →
          record { answer : place ≡ placed (node_at offset (tree_of ns)); stands : StandsAt (tree_of ns) offset place; part : PartOf ns place }
      by_node None e =
          let is : place ≡ None = rw (made, found_there, e) in
          rw (is, e) record { answer = refl; stands = stands_none (tree_of ns) offset e; part = tt }
      by_node (Some (c, p)) e =
          let (filled, at) = node_at_finds offset (tree_of ns) (c, p) e in
          let above : 0 + bound_above c ≡ bound_above c = omega arith in
          let is : place ≡ Some (place_of c p) = rw (made, found_there, e, found_under, above, ← at) in
          rw (is, e) record { answer = refl; stands = stands_some (tree_of ns) offset c p e; part = part_term ns term offset c p e }
