-- Renaming in place: the pointers of a head, then those of its parts.
use Rattle.std.proofs.Common.{◌≡◌, ℕ, ◌+◌, ◌-◌, ◌<◌, ◌≤◌, Bool, true, false, cond, not, ◌||◌, ltb, List, ◌∷◌, ◌++◌, map, length, take, drop, is_some, Some, None, Ok, Err, Option, sym, refl, ap, ◌∙◌, ap₂, arith}
use borrow.Rule.Slice.PartMut.{put_mid}
use Rattle.std.proofs.lemmas.List.{append_assoc, append-nil, length-map, length-drop, take_at, drop_at, drop_all, take_rest}
use Rattle.std.proofs.lemmas.Bool.{not-true, not-false, or_parts, cond-true, cond-false}
use Rattle.std.specs.Option.{IsSome, option_map, option_and_then}
use Rattle.calculus.specs.Trees.{Process, terminated, write}
use Rattle.calculus.specs.Names.{rename}
use Rattle.refusal.specs.declared.Refusal.TheVariants.{PointerOverflow, BufferTooShort}
use Rattle.refusal.specs.Writes.{fault, within}
use Rattle.refusal.proofs.Writes.{within_err, within_short, within_fits}
use Rattle.terms.specs.declared.head.Head.{Head}
use Rattle.terms.specs.declared.head.Head.TheVariants.{Terminated, Output, Input, Choice, Parallel, Restriction, Replication}
use Rattle.terms.specs.declared.head.Parts.{Parts}
use Rattle.terms.specs.declared.head.Parts.TheVariants.{Zero, One, Two}
use Rattle.terms.specs.declared.names.Renaming.{Renaming}
use Rattle.terms.specs.Fitting.{are_bytes}
use Rattle.terms.specs.Heads.{built, size_of, subjects_of, objects_of, binds_of, parts_of, head_of, objects_in, subject_in, front, renamed_head, head_renamed}
use Rattle.terms.specs.Pointers.{function_of, settled, renamed, any_of, any_pointer, passes_255, clear_of, renamed_at_start}
use Rattle.terms.specs.Reading.{Scanned, whole, wrapped, secondly, grown, scan, is_term, tree_of}
use Rattle.terms.proofs.Pointed.{any_alone, rename-built, shape_renamed, length-renamed, overflow_any}
use Rattle.terms.proofs.Fitted.{fits_renamed}
use Rattle.terms.proofs.Cleared.{parts_clear, clear_node, clear_some, own_clear}
use Rattle.terms.proofs.Parted.{after_whole}
use Rattle.terms.proofs.Readings.{term_scan, term_bytes, term_length, term_fits, fits_term}
use Rattle.terms.proofs.Rows.{all_settled}
use Rattle.terms.proofs.Scanned.{parts_written, length_front, write-built, head_opens, scan_head}

-- a row of pointers renamed where it stands
abbrev row_put : (ℕ → ℕ) → ℕ → ℕ → List ℕ → List ℕ
row_put g a k xs = put_mid a k xs (map g (take k (drop a xs)))

-- the bytes of a head before its objects
abbrev lead_of : Head → ℕ
lead_of Terminated = 1
lead_of (Output subject count) = 3
lead_of (Input subject count) = 3
lead_of Choice = 1
lead_of Parallel = 1
lead_of (Restriction sort) = 2
lead_of Replication = 1

lead_size : (h : Head) → lead_of h + objects_of h ≡ size_of h
lead_size Terminated = refl
lead_size (Output subject count) = refl
lead_size (Input subject count) = refl
lead_size Choice = refl
lead_size Parallel = refl
lead_size (Restriction sort) = refl
lead_size Replication = refl

rows_put : (g : ℕ → ℕ) (h : Head) (os rest : List ℕ) → length os ≡ objects_of h →
    row_put g (lead_of h) (objects_of h) (row_put g 1 (subjects_of h) (front h os ++ rest)) ≡ front (renamed_head g h) (map g os) ++ rest
unfolding renamed_head
rows_put g Terminated os rest e = refl
rows_put g (Output s n) os rest e = ap₂ (λ (a b : List ℕ). 1 ∷ g s ∷ n ∷ (map g a ++ b)) (take_at os rest n e) (drop_at os rest n e)
rows_put g (Input s n) os rest e = refl
rows_put g Choice os rest e = refl
rows_put g Parallel os rest e = refl
rows_put g (Restriction s) os rest e = refl
rows_put g Replication os rest e = refl

-- the two rows of a head, one after the other
pub rows_renamed : (g : ℕ → ℕ) (h : Head) (ns : List ℕ) → head_of ns ≡ Ok h → (size subjects objects : ℕ) → size ≡ size_of h → subjects ≡ subjects_of h → objects ≡ objects_of h →
    (row row2 : List ℕ) → row ≡ map g (take (1 + subjects - 1) (drop 1 ns)) →
    row2 ≡ map g (take (size - (size - objects)) (drop (size - objects) (put_mid 1 (1 + subjects - 1) ns row))) →
    put_mid (size - objects) (size - (size - objects)) (put_mid 1 (1 + subjects - 1) ns row) row2 ≡ head_renamed g h ns
rows_renamed g h ns is size subjects objects size_is subjects_is objects_is row row2 row_is row2_is =
    let opens = head_opens ns h is in
    let sum = lead_size h in
    let lead : size - objects ≡ lead_of h = omega arith in
    let wide : size - (size - objects) ≡ objects_of h = omega arith in
    let one : 1 + subjects - 1 ≡ subjects_of h = omega arith in
    let whole_is : ns ≡ front h (objects_in h ns) ++ drop (size_of h) ns = opens.cut in
    let first : put_mid 1 (1 + subjects - 1) ns row ≡ row_put g 1 (subjects_of h) (front h (objects_in h ns) ++ drop (size_of h) ns)
    = ap (put_mid 1 (1 + subjects - 1) ns) row_is ∙ ap₂ (λ (k : ℕ) (xs : List ℕ). row_put g 1 k xs) one whole_is in
    ap (put_mid (size - objects) (size - (size - objects)) (put_mid 1 (1 + subjects - 1) ns row)) row2_is
    ∙ ap₂ (λ (a k : ℕ). row_put g a k (put_mid 1 (1 + subjects - 1) ns row)) lead wide
    ∙ ap (row_put g (lead_of h) (objects_of h)) first
    ∙ rows_put g h (objects_in h ns) (drop (size_of h) ns) opens.count

-- where no pointer would pass 255, a head is renamed
settles : (f : ℕ → ℕ) (s : ℕ) → ltb 255 (f s) ≡ false → settled f s ≡ f s
unfolding settled
settles f s e = cond-false (ltb 255 (f s)) s (f s) e

module _ (r : Renaming) (d : ℕ) where
  head_clear : (h : Head) → any_of (passes_255 r d) (subject_in h) ≡ false → renamed_head (settled (function_of r d)) h ≡ renamed_head (function_of r d) h
  unfolding renamed_head subject_in passes_255
  head_clear Terminated e = refl
  head_clear (Output s n) e = ap (λ (k : ℕ). Output k n) (settles (function_of r d) s (sym (any_alone (passes_255 r d) s) ∙ e))
  head_clear (Input s n) e = ap (λ (k : ℕ). Input k n) (settles (function_of r d) s (sym (any_alone (passes_255 r d) s) ∙ e))
  head_clear Choice e = refl
  head_clear Parallel e = refl
  head_clear (Restriction s) e = refl
  head_clear Replication e = refl

  front_clear : (h : Head) (os : List ℕ) → any_of (passes_255 r d) (subject_in h) ≡ false → any_of (passes_255 r d) os ≡ false →
      front (renamed_head (settled (function_of r d)) h) (map (settled (function_of r d)) os) ≡ front (renamed_head (function_of r d) h) (map (function_of r d) os)
  unfolding passes_255
  front_clear h os subject objects = ap₂ front (head_clear h subject) (all_settled (function_of r d) os objects)

-- a node renamed, as it is written
node_written : (r : Renaming) (d : ℕ) (h : Head) (os : List ℕ) (t u : Process) → length os ≡ objects_of h → (parts : Parts) → parts_of h ≡ parts →
    (any_of (passes_255 r d) (subject_in h) || any_of (passes_255 r d) os) ≡ false →
    write (rename (function_of r) d (built h os t u))
    ≡ front (renamed_head (settled (function_of r d)) h) (map (settled (function_of r d)) os) ++ parts_written parts (rename (function_of r) (d + binds_of h) t) (rename (function_of r) (d + binds_of h) u)
node_written r d h os t u count parts z clear =
    let (subject, objects) = or_parts (any_of (passes_255 r d) (subject_in h)) (any_of (passes_255 r d) os) clear in
    ap write (rename-built (function_of r) d h os t u)
    ∙ write-built (renamed_head (function_of r d) h) (map (function_of r d) os) (rename (function_of r) (d + binds_of h) t) (rename (function_of r) (d + binds_of h) u)
    (length-map os (function_of r d) ∙ count ∙ sym (shape_renamed (function_of r d) h).1)
    ∙ ap₂ (λ (ns : List ℕ) (k : Parts). ns ++ parts_written k (rename (function_of r) (d + binds_of h) t) (rename (function_of r) (d + binds_of h) u))
    (sym (front_clear r d h os subject objects)) ((shape_renamed (function_of r d) h).0 ∙ z)

-- a write from a place to the end
put_end : (n : ℕ) (xs ys : List ℕ) → put_mid n (length xs - n) xs ys ≡ take n xs ++ ys
put_end n xs ys =
    let long : length (drop n xs) ≤ length xs - n = omega (arith, length-drop n xs) in
    ap (λ (zs : List ℕ). take n xs ++ (ys ++ zs)) (drop_all (length xs - n) (drop n xs) long) ∙ ap (◌++◌ (take n xs)) (append-nil ys)

-- what stands after a process stays where it stood
past_renamed : (f : ℕ → ℕ → ℕ) (test : ℕ → ℕ → Bool) (d : ℕ) (ns : List ℕ) (n : ℕ) → Some n ≡ clear_of test d (scan ns) → drop n (renamed_at_start f d (scan ns)) ≡ drop n ns
unfolding renamed_at_start
past_renamed f test d ns n first =
    let held = clear_some test d (scan ns) n first in
    ap (λ (s : Scanned). drop n (renamed_at_start f d s)) held.is
    ∙ drop_at (write (rename f d held.process)) held.rest n (length-renamed f d held.process ∙ sym held.long)
    ∙ sym (ap (λ (k : ℕ). drop k ns) held.long ∙ after_whole ns held.rest held.process held.is)

map_some : (f : ℕ → ℕ) (o : Option ℕ) → IsSome (option_map f o) → IsSome o
map_some f (Some n) e = refl
map_some f None e = e

bind_some : (f : ℕ → Option ℕ) (o : Option ℕ) → IsSome (option_and_then f o) → IsSome o
bind_some f (Some n) e = refl
bind_some f None e = e

-- a head whose own pointers were renamed, and then its parts
module _ (r : Renaming) (d : ℕ) (ns : List ℕ) (h : Head) (is : head_of ns ≡ Ok h) (size below : ℕ) (size_is : size ≡ size_of h) (below_is : below ≡ d + binds_of h)
    (bs : List ℕ) (bs_is : bs ≡ head_renamed (settled (function_of r d)) h ns) (begins : IsSome (clear_of (passes_255 r) d (scan ns))) where
  abbrev start : List ℕ
  start = front (renamed_head (settled (function_of r d)) h) (map (settled (function_of r d)) (objects_in h ns))

  abbrev part : List ℕ
  part = take (length bs - size) (drop size bs)

  count : length (objects_in h ns) ≡ objects_of h
  count = (head_opens ns h is).count

  length_start : length start ≡ size
  length_start =
      length_front (renamed_head (settled (function_of r d)) h) (map (settled (function_of r d)) (objects_in h ns))
      (length-map (objects_in h ns) (settled (function_of r d)) ∙ count ∙ sym (shape_renamed (settled (function_of r d)) h).1)
      ∙ (shape_renamed (settled (function_of r d)) h).2 ∙ sym size_is

  -- the parts stand where they stood
  part_is : part ≡ drop (size_of h) ns
  part_is = take_rest bs size ∙ ap (drop size) bs_is ∙ drop_at start (drop (size_of h) ns) size length_start

  step : clear_of (passes_255 r) d (scan ns) ≡ parts_clear (parts_of h) size (λ n. clear_of (passes_255 r) below (scan (drop n part)))
  step = rw (part_is, size_is, below_is) (clear_node (passes_255 r) d ns h false is (sym (own_clear (passes_255 r) d ns h is begins)))

  pub one_begins : One ≡ parts_of h → IsSome (clear_of (passes_255 r) below (scan part))
  one_begins z = map_some _ _ (rw (step, ← z) at begins)

  pub two_begins : Two ≡ parts_of h → IsSome (clear_of (passes_255 r) below (scan part))
  two_begins z = bind_some _ _ (rw (step, ← z) at begins)

  pub zero_size : Zero ≡ parts_of h → Some size ≡ clear_of (passes_255 r) d (scan ns)
  zero_size z = rw (step, ← z)

  pub one_size : One ≡ parts_of h → (n : ℕ) → Some n ≡ clear_of (passes_255 r) below (scan part) → Some (size + n) ≡ clear_of (passes_255 r) d (scan ns)
  one_size z n first = rw (step, ← z, ← first)

  placed : (t u : Process) (q xs : List ℕ) (parts : Parts) → parts_of h ≡ parts → scan ns ≡ whole (built h (objects_in h ns) t u) q →
      xs ≡ parts_written parts (rename (function_of r) below t) (rename (function_of r) below u) ++ q → put_mid size (length bs - size) bs xs ≡ renamed_at_start (function_of r) d (scan ns)
  unfolding renamed_at_start
  placed t u q xs parts z found xs_is =
      let written : write (rename (function_of r) d (built h (objects_in h ns) t u)) ≡ start ++ parts_written parts (rename (function_of r) below t) (rename (function_of r) below u)
      = rw below_is (node_written r d h (objects_in h ns) t u count parts z (own_clear (passes_255 r) d ns h is begins)) in
      put_end size bs xs ∙ ap₂ ◌++◌ (ap (take size) bs_is ∙ take_at start (drop (size_of h) ns) size length_start) xs_is
      ∙ sym (append_assoc start (parts_written parts (rename (function_of r) below t) (rename (function_of r) below u)) q)
      ∙ ap (λ (x : List ℕ). x ++ q) (sym written) ∙ sym (ap (renamed_at_start (function_of r) d) found)

  grown_is : (parts : Parts) → parts ≡ parts_of h → scan ns ≡ grown scan (built h (objects_in h ns)) parts part
  grown_is parts z = rw (part_is, z) (scan_head ns h is)

  pub zero_renamed : Zero ≡ parts_of h → put_mid size (length bs - size) bs part ≡ renamed_at_start (function_of r) d (scan ns)
  unfolding grown
  zero_renamed z = placed terminated terminated part part Zero (sym z) (grown_is Zero z) refl

  pub one_renamed : One ≡ parts_of h → (n : ℕ) → Some n ≡ clear_of (passes_255 r) below (scan part) → (last : List ℕ) → last ≡ renamed_at_start (function_of r) below (scan part) →
      put_mid size (length bs - size) bs last ≡ renamed_at_start (function_of r) d (scan ns)
  unfolding grown wrapped renamed_at_start
  one_renamed z n first last last_is =
      let held = clear_some (passes_255 r) below (scan part) n first in
      placed held.process terminated held.rest last One (sym z) (grown_is One z ∙ ap (wrapped (λ t. built h (objects_in h ns) t terminated)) held.is)
      (last_is ∙ ap (renamed_at_start (function_of r) below) held.is)

  module _ (z : Two ≡ parts_of h) (n : ℕ) (first : Some n ≡ clear_of (passes_255 r) below (scan part)) (last : List ℕ) (last_is : last ≡ renamed_at_start (function_of r) below (scan part)) where
    abbrev more : List ℕ
    more = take (length last - n) (drop n last)

    more_is : more ≡ drop n part
    more_is = take_rest last n ∙ ap (drop n) last_is ∙ past_renamed (function_of r) (passes_255 r) below part n first

    pub second_begins : IsSome (clear_of (passes_255 r) below (scan more))
    second_begins = rw more_is (map_some _ _ (rw (step, ← z, ← first) at begins))

    pub two_size : (m : ℕ) → Some m ≡ clear_of (passes_255 r) below (scan more) → Some (size + n + m) ≡ clear_of (passes_255 r) d (scan ns)
    two_size m second = rw (step, ← z, ← first, ← more_is, ← second)

    pub two_renamed : (m : ℕ) → Some m ≡ clear_of (passes_255 r) below (scan more) → (final : List ℕ) → final ≡ renamed_at_start (function_of r) below (scan more) →
        put_mid size (length bs - size) bs (put_mid n (length last - n) last final) ≡ renamed_at_start (function_of r) d (scan ns)
    unfolding grown secondly wrapped renamed_at_start
    two_renamed m second final final_is =
        let one = clear_some (passes_255 r) below (scan part) n first in
        let two = clear_some (passes_255 r) below (scan more) m second in
        let after : one.rest ≡ more = sym (more_is ∙ ap (λ (k : ℕ). drop k part) one.long ∙ after_whole part one.rest one.process one.is) in
        let there : take n last ≡ write (rename (function_of r) below one.process)
        = ap (take n) (last_is ∙ ap (renamed_at_start (function_of r) below) one.is)
        ∙ take_at (write (rename (function_of r) below one.process)) one.rest n (length-renamed (function_of r) below one.process ∙ sym one.long) in
        placed one.process two.process two.rest (put_mid n (length last - n) last final) Two (sym z)
        (grown_is Two z ∙ ap (secondly scan (built h (objects_in h ns))) one.is ∙ ap (wrapped (built h (objects_in h ns) one.process)) (ap scan after ∙ two.is))
        (put_end n last final ∙ ap₂ ◌++◌ there (final_is ∙ ap (renamed_at_start (function_of r) below) two.is)
        ∙ sym (append_assoc (write (rename (function_of r) below one.process)) (write (rename (function_of r) below two.process)) two.rest))

-- a term whose renaming is refused, for a pointer or for room, or written
module _ (ns : List ℕ) (term : is_term ns ≡ true) (r : Renaming) where
  abbrev next : List ℕ
  next = write (rename (function_of r) 0 (tree_of ns))

  pub renaming_declined : true ≡ not (are_bytes next) → (room : ℕ) → within room (renamed (function_of r) (tree_of ns)) ≡ Err (fault PointerOverflow 0)
  unfolding renamed
  renaming_declined e room = within_err room (renamed (function_of r) (tree_of ns)) (fault PointerOverflow 0) (cond-false (are_bytes next) _ _ (not-true (are_bytes next) (sym e)))

  module _ (fine : false ≡ not (are_bytes next)) where
    pub length_next : length next ≡ length ns
    length_next = length-renamed (function_of r) 0 (tree_of ns) ∙ term_length ns term

    renamed_ok : renamed (function_of r) (tree_of ns) ≡ Ok next
    unfolding renamed
    renamed_ok = cond-true (are_bytes next) _ _ (not-false (are_bytes next) (sym fine))

    pub renaming_short : (room : ℕ) → room < length ns → within room (renamed (function_of r) (tree_of ns)) ≡ Err (fault BufferTooShort 0)
    renaming_short room short = ap (within room) renamed_ok ∙ within_short room next (omega (arith, length_next))

    pub renaming_fits : (room : ℕ) → length ns ≤ room → within room (renamed (function_of r) (tree_of ns)) ≡ Ok next
    renaming_fits room enough = ap (within room) renamed_ok ∙ within_fits room next (omega (arith, length_next))

    -- the walk over a copy meets no pointer that would pass 255, and renames all
    module _ (copied : List ℕ) (copied_is : copied ≡ ns) where
      clear_copied : clear_of (passes_255 r) 0 (scan copied) ≡ Some (length next)
      unfolding clear_of
      clear_copied =
          let clear : any_pointer (passes_255 r) 0 (tree_of ns) ≡ false = overflow_any r (tree_of ns) (term_bytes ns term) ∙ sym fine in
          ap (clear_of (passes_255 r) 0) (ap scan copied_is ∙ term_scan ns term)
          ∙ ap₂ (λ (b : Bool) (n : ℕ). cond b None (Some n)) clear (sym (length-renamed (function_of r) 0 (tree_of ns)))

      pub copied_begins : IsSome (clear_of (passes_255 r) 0 (scan copied))
      copied_begins = ap is_some clear_copied

      pub copied_size : (n : ℕ) → Some n ≡ clear_of (passes_255 r) 0 (scan copied) → n ≡ length next
      copied_size n e = let told : Some n ≡ Some (length next) = e ∙ clear_copied in cc

      pub copied_renamed : (last : List ℕ) → last ≡ renamed_at_start (function_of r) 0 (scan copied) → last ≡ next
      unfolding renamed_at_start
      copied_renamed last e = e ∙ ap (renamed_at_start (function_of r) 0) (ap scan copied_is ∙ term_scan ns term) ∙ append-nil next

    -- what is then written is a term
    pub renamed_term : (n : ℕ) (rest : List ℕ) → n ≡ length next → is_term (take n (next ++ rest)) ≡ true
    renamed_term n rest n_is =
        ap is_term (take_at next rest n (sym n_is))
        ∙ fits_term (rename (function_of r) 0 (tree_of ns)) (fits_renamed (function_of r) (tree_of ns) (term_fits ns term) (not-false (are_bytes next) (sym fine)))
