-- The node at an offset, and the walk that looks for it.
use Rattle.std.proofs.Common.{◌≡◌, ℕ, zero, suc, ◌+◌, ◌-◌, ◌<◌, ◌≤◌, Bool, true, false, ◌&&◌, ltb, List, ◌++◌, length, take, drop, Some, None, Option, Break, Continue, sym, refl, ap, ◌∙◌, ap₂, add-zero, add_assoc, arith}
use Rattle.std.proofs.Math.Bool.{and-true, and_assoc}
use Rattle.std.proofs.lemmas.List.{append_assoc, length-append, take_at, drop_at}
use Rattle.std.proofs.lemmas.Bool.{cond-true, cond-false, lt-ltb, le-ltb}
use Rattle.calculus.specs.Trees.{Process, output, input, choice, parallel, restriction, replication, write}
use Rattle.calculus.specs.Contexts.{Context, below_output, below_input, in_left_arm, in_right_arm, in_left_part, in_right_part, below_restriction, below_replication, before, after, active}
use Rattle.calculus.specs.Playing.{and_then, below, node_at}
use Rattle.calculus.proofs.Written.{written_some}
use Rattle.calculus.proofs.Places.{write-fill, node_at-fill, node_at_finds, none_some}
use Rattle.terms.specs.declared.head.Head.{Head}
use Rattle.terms.specs.declared.head.Head.TheVariants.{Terminated, Output, Input, Choice, Parallel, Restriction, Replication}
use Rattle.terms.specs.declared.head.Parts.{Parts}
use Rattle.terms.specs.declared.head.Parts.TheVariants.{Zero, One, Two}
use Rattle.terms.specs.Heads.{built, size_of, objects_of, binds_of, active_below, parts_of, front}
use Rattle.terms.specs.Finding.{bound_above, place_of, StandsAt, found_under, located_in}
use Rattle.terms.proofs.Pointed.{zero_two, one_two}
use Rattle.terms.proofs.Scanned.{parts_written, length_front, write-built}

-- What is found at an offset stands there.
pub stands_none : (t : Process) (offset : ℕ) → node_at offset t ≡ None → StandsAt t offset None
stands_none t offset e c p filled at = none_some (c, p) (sym e ∙ ap₂ node_at (sym at) (sym filled) ∙ node_at-fill c p)

pub stands_some : (t : Process) (offset : ℕ) (c : Context) (p : Process) → node_at offset t ≡ Some (c, p) → StandsAt t offset (Some (place_of c p))
unfolding place_of
stands_some t offset c p e =
    let (filled, at) = node_at_finds offset t (c, p) e in
    let whole : write t ≡ before c ++ (write p ++ after c) = ap write (sym filled) ∙ write-fill c p in
    let front : take (length (before c)) (write t) ≡ before c = ap (take (length (before c))) whole ∙ take_at (before c) (write p ++ after c) (length (before c)) refl in
    let grouped : write t ≡ (before c ++ write p) ++ after c = whole ∙ sym (append_assoc (before c) (write p) (after c)) in
    let back : drop (length (before c) + length (write p)) (write t) ≡ after c =
    ap (drop (length (before c) + length (write p))) grouped ∙ drop_at (before c ++ write p) (after c) (length (before c) + length (write p)) (length-append (before c) (write p)) in
    let long : length (before c) + length (write p) - length (before c) ≡ length (write p) = omega arith in
    let own : take (length (before c) + length (write p) - length (before c)) (drop (length (before c)) (write t)) ≡ write p =
    ap₂ (λ (k : ℕ) (xs : List ℕ). take k xs) long (ap (drop (length (before c))) whole ∙ drop_at (before c) (write p ++ after c) (length (before c)) refl)
    ∙ take_at (write p) (after c) (length (write p)) refl in
    (c, p, filled, at, refl, front, back, own, whole, λ q. ap₂ (λ (xs ys : List ℕ). xs ++ (write q ++ ys)) front back ∙ sym (write-fill c q))

-- Within a process the walk breaks off; past it, it goes on.
pub located_within : (offset bound : ℕ) (o : Bool) (t : Process) → offset < length (write t) → located_in offset bound o t ≡ Break (found_under bound o (node_at offset t))
unfolding located_in
located_within offset bound o t near = cond-true (ltb offset (length (write t))) _ _ (lt-ltb offset (length (write t)) near)

pub located_past : (offset bound : ℕ) (o : Bool) (t : Process) → length (write t) ≤ offset → located_in offset bound o t ≡ Continue (length (write t))
unfolding located_in
located_past offset bound o t far = cond-false (ltb offset (length (write t))) _ _ (le-ltb offset (length (write t)) far)

pub located_top : (bound : ℕ) (o : Bool) (t : Process) → located_in 0 bound o t ≡ Break (Some (record { size = length (write t); bound = bound; active = o }))
unfolding node_at found_under bound_above active
located_top bound o t = rw (located_within 0 bound o t (written_some t), add-zero bound, and-true o)

-- a node more above what is found
found_below : (above : Context → Context) (k : ℕ) (a : Bool) → ((c : Context) → bound_above (above c) ≡ k + bound_above c) → ((c : Context) → active (above c) ≡ (a && active c)) →
    (bound : ℕ) (o : Bool) (found : Option (Context × Process)) → found_under bound o (below above found) ≡ found_under (bound + k) (o && a) found
unfolding found_under below and_then
found_below above k a binds opens bound o None = refl
found_below above k a binds opens bound o (Some (c, p)) = rw (binds c, opens c, add_assoc bound k (bound_above c), and_assoc o a (active c))

-- into the part of a node in which the offset stands
into_part : (offset bound : ℕ) (o : Bool) (size inner k : ℕ) (a : Bool) (above : Context → Context) (t p : Process) → ((c : Context) → bound_above (above c) ≡ k + bound_above c) → ((c : Context) → active (above c) ≡ (a && active c)) →
    size + length (write p) ≤ length (write t) → offset ≡ size + inner → inner < length (write p) → node_at offset t ≡ below above (node_at inner p) →
    located_in offset bound o t ≡ located_in inner (bound + k) (o && a) p
into_part offset bound o size inner k a above t p binds opens sum at near found =
    rw (located_within offset bound o t (omega arith), located_within inner (bound + k) (o && a) p near, found, found_below above k a binds opens bound o (node_at inner p))

-- how long a node is
pub length-built : (h : Head) (os : List ℕ) (p q : Process) (parts : Parts) → parts_of h ≡ parts → length os ≡ objects_of h → length (write (built h os p q)) ≡ size_of h + length (parts_written parts p q)
length-built h os p q parts z e =
    ap length (write-built h os p q e) ∙ length-append (front h os) (parts_written (parts_of h) p q) ∙ ap₂ (λ (k : ℕ) (x : Parts). k + length (parts_written x p q)) (length_front h os e) z

pub length_zero : (h : Head) (os : List ℕ) (p q : Process) → parts_of h ≡ Zero → length os ≡ objects_of h → length (write (built h os p q)) ≡ size_of h
length_zero h os p q z e = length-built h os p q Zero z e ∙ add-zero (size_of h)

pub length_one : (h : Head) (os : List ℕ) (p q : Process) → parts_of h ≡ One → length os ≡ objects_of h → length (write (built h os p q)) ≡ size_of h + length (write p)
length_one h os p q z e = length-built h os p q One z e

pub length_two : (h : Head) (os : List ℕ) (p q : Process) → parts_of h ≡ Two → length os ≡ objects_of h → length (write (built h os p q)) ≡ size_of h + length (write p) + length (write q)
length_two h os p q z e = omega (arith, length-built h os p q Two z e, length-append (write p) (write q))

-- the node behind the head of each kind of node
node_output : (offset s n : ℕ) (os : List ℕ) (p : Process) → length os ≡ n → 3 + n ≤ offset → node_at offset (output s os p) ≡ below (below_output s os) (node_at (offset - (3 + n)) p)
unfolding node_at
node_output zero s n os p e past = absurd (omega arith)
node_output (suc m) s n os p e past =
    let rest : m - (2 + length os) ≡ suc m - (3 + n) = omega arith in
    cond-false (ltb m (2 + length os)) _ _ (le-ltb m (2 + length os) (omega arith)) ∙ ap (λ (k : ℕ). below (below_output s os) (node_at k p)) rest

node_input : (offset s n : ℕ) (p : Process) → 3 ≤ offset → node_at offset (input s n p) ≡ below (below_input s n) (node_at (offset - 3) p)
unfolding node_at
node_input zero s n p past = absurd (omega arith)
node_input (suc m) s n p past =
    let rest : m - 2 ≡ suc m - 3 = omega arith in
    cond-false (ltb m 2) _ _ (le-ltb m 2 (omega arith)) ∙ ap (λ (k : ℕ). below (below_input s n) (node_at k p)) rest

node_restriction : (offset s : ℕ) (p : Process) → 2 ≤ offset → node_at offset (restriction s p) ≡ below (below_restriction s) (node_at (offset - 2) p)
unfolding node_at
node_restriction zero s p past = absurd (omega arith)
node_restriction (suc m) s p past =
    let rest : m - 1 ≡ suc m - 2 = omega arith in
    cond-false (ltb m 1) _ _ (le-ltb m 1 (omega arith)) ∙ ap (λ (k : ℕ). below (below_restriction s) (node_at k p)) rest

node_replication : (offset : ℕ) (p : Process) → 1 ≤ offset → node_at offset (replication p) ≡ below below_replication (node_at (offset - 1) p)
unfolding node_at
node_replication zero p past = absurd (omega arith)
node_replication (suc m) p past =
    let rest : m ≡ suc m - 1 = omega arith in
    ap (λ (k : ℕ). below below_replication (node_at k p)) rest

node_left_arm : (offset : ℕ) (p q : Process) → 1 ≤ offset → offset - 1 < length (write p) → node_at offset (choice p q) ≡ below (λ c. in_left_arm c q) (node_at (offset - 1) p)
unfolding node_at
node_left_arm zero p q past near = absurd (omega arith)
node_left_arm (suc m) p q past near =
    let rest : m ≡ suc m - 1 = omega arith in
    cond-true (ltb m (length (write p))) _ _ (lt-ltb m (length (write p)) (omega arith)) ∙ ap (λ (k : ℕ). below (λ c. in_left_arm c q) (node_at k p)) rest

node_right_arm : (offset : ℕ) (p q : Process) → 1 ≤ offset → length (write p) ≤ offset - 1 → node_at offset (choice p q) ≡ below (in_right_arm p) (node_at (offset - 1 - length (write p)) q)
unfolding node_at
node_right_arm zero p q past far = absurd (omega arith)
node_right_arm (suc m) p q past far =
    let rest : m - length (write p) ≡ suc m - 1 - length (write p) = omega arith in
    cond-false (ltb m (length (write p))) _ _ (le-ltb m (length (write p)) (omega arith)) ∙ ap (λ (k : ℕ). below (in_right_arm p) (node_at k q)) rest

node_left_part : (offset : ℕ) (p q : Process) → 1 ≤ offset → offset - 1 < length (write p) → node_at offset (parallel p q) ≡ below (λ c. in_left_part c q) (node_at (offset - 1) p)
unfolding node_at
node_left_part zero p q past near = absurd (omega arith)
node_left_part (suc m) p q past near =
    let rest : m ≡ suc m - 1 = omega arith in
    cond-true (ltb m (length (write p))) _ _ (lt-ltb m (length (write p)) (omega arith)) ∙ ap (λ (k : ℕ). below (λ c. in_left_part c q) (node_at k p)) rest

node_right_part : (offset : ℕ) (p q : Process) → 1 ≤ offset → length (write p) ≤ offset - 1 → node_at offset (parallel p q) ≡ below (in_right_part p) (node_at (offset - 1 - length (write p)) q)
unfolding node_at
node_right_part zero p q past far = absurd (omega arith)
node_right_part (suc m) p q past far =
    let rest : m - length (write p) ≡ suc m - 1 - length (write p) = omega arith in
    cond-false (ltb m (length (write p))) _ _ (le-ltb m (length (write p)) (omega arith)) ∙ ap (λ (k : ℕ). below (in_right_part p) (node_at k q)) rest

-- behind the head of a node: in its first part, or in its second
pub located_first : (offset bound : ℕ) (o : Bool) (h : Head) (os : List ℕ) (p q : Process) → (parts_of h ≡ Zero → ⊥) → length os ≡ objects_of h → size_of h ≤ offset → offset - size_of h < length (write p) →
    located_in offset bound o (built h os p q) ≡ located_in (offset - size_of h) (bound + binds_of h) (o && active_below h) p
unfolding built bound_above active
located_first offset bound o Terminated os p q some e past near = absurd (some refl)
located_first offset bound o (Output s n) os p q some e past near =
    into_part offset bound o (3 + n) _ 0 false (below_output s os) (output s os p) p (λ c. omega arith) (λ c. refl) (omega (arith, length_one (Output s n) os p q refl e)) (omega arith) near (node_output offset s n os p e past)
located_first offset bound o (Input s n) os p q some e past near =
    into_part offset bound o 3 _ n false (below_input s n) (input s n p) p (λ c. refl) (λ c. refl) (omega (arith, length_one (Input s n) os p q refl e)) (omega arith) near (node_input offset s n p past)
located_first offset bound o Choice os p q some e past near =
    into_part offset bound o 1 _ 0 false (λ c. in_left_arm c q) (choice p q) p (λ c. omega arith) (λ c. refl) (omega (arith, length_two Choice os p q refl e)) (omega arith) near (node_left_arm offset p q past near)
located_first offset bound o Parallel os p q some e past near =
    into_part offset bound o 1 _ 0 true (λ c. in_left_part c q) (parallel p q) p (λ c. omega arith) (λ c. refl) (omega (arith, length_two Parallel os p q refl e)) (omega arith) near (node_left_part offset p q past near)
located_first offset bound o (Restriction s) os p q some e past near =
    into_part offset bound o 2 _ 1 true (below_restriction s) (restriction s p) p (λ c. omega arith) (λ c. refl) (omega (arith, length_one (Restriction s) os p q refl e)) (omega arith) near (node_restriction offset s p past)
located_first offset bound o Replication os p q some e past near =
    into_part offset bound o 1 _ 0 false below_replication (replication p) p (λ c. omega arith) (λ c. refl) (omega (arith, length_one Replication os p q refl e)) (omega arith) near (node_replication offset p past)

pub located_second : (offset bound : ℕ) (o : Bool) (h : Head) (os : List ℕ) (p q : Process) → parts_of h ≡ Two → length os ≡ objects_of h → size_of h + length (write p) ≤ offset → offset - size_of h - length (write p) < length (write q) →
    located_in offset bound o (built h os p q) ≡ located_in (offset - size_of h - length (write p)) (bound + binds_of h) (o && active_below h) q
unfolding built bound_above active
located_second offset bound o Terminated os p q z e past near = zero_two z
located_second offset bound o (Output s n) os p q z e past near = one_two z
located_second offset bound o (Input s n) os p q z e past near = one_two z
located_second offset bound o Choice os p q z e past near =
    into_part offset bound o (1 + length (write p)) _ 0 false (in_right_arm p) (choice p q) q (λ c. omega arith) (λ c. refl) (omega (arith, length_two Choice os p q z e)) (omega arith) near (node_right_arm offset p q (omega arith) (omega arith))
located_second offset bound o Parallel os p q z e past near =
    into_part offset bound o (1 + length (write p)) _ 0 true (in_right_part p) (parallel p q) q (λ c. omega arith) (λ c. refl) (omega (arith, length_two Parallel os p q z e)) (omega arith) near (node_right_part offset p q (omega arith) (omega arith))
located_second offset bound o (Restriction s) os p q z e past near = one_two z
located_second offset bound o Replication os p q z e past near = one_two z

-- inside a head there is no node
none_output : (offset s : ℕ) (os : List ℕ) (p : Process) → 0 < offset → offset < 3 + length os → node_at offset (output s os p) ≡ None
unfolding node_at
none_output zero s os p some inside = absurd (omega arith)
none_output (suc m) s os p some inside = cond-true (ltb m (2 + length os)) _ _ (lt-ltb m (2 + length os) (omega arith))

none_input : (offset s n : ℕ) (p : Process) → 0 < offset → offset < 3 → node_at offset (input s n p) ≡ None
unfolding node_at
none_input zero s n p some inside = absurd (omega arith)
none_input (suc m) s n p some inside = cond-true (ltb m 2) _ _ (lt-ltb m 2 (omega arith))

none_restriction : (offset s : ℕ) (p : Process) → 0 < offset → offset < 2 → node_at offset (restriction s p) ≡ None
unfolding node_at
none_restriction zero s p some inside = absurd (omega arith)
none_restriction (suc m) s p some inside = cond-true (ltb m 1) _ _ (lt-ltb m 1 (omega arith))

no_node : (offset bound : ℕ) (o : Bool) (t : Process) → offset < length (write t) → node_at offset t ≡ None → located_in offset bound o t ≡ Break None
unfolding found_under
no_node offset bound o t within e = located_within offset bound o t within ∙ ap (λ (n : Option (Context × Process)). Break (found_under bound o n)) e

pub located_head : (offset bound : ℕ) (o : Bool) (h : Head) (os : List ℕ) (p q : Process) → length os ≡ objects_of h → 0 < offset → offset < size_of h → located_in offset bound o (built h os p q) ≡ Break None
unfolding built
located_head offset bound o Terminated os p q e some inside = absurd (omega arith)
located_head offset bound o (Output s n) os p q e some inside =
    let sum : length (write (output s os p)) ≡ 3 + n + length (write p) = length_one (Output s n) os p q refl e in
    no_node offset bound o (output s os p) (omega arith) (none_output offset s os p some (omega arith))
located_head offset bound o (Input s n) os p q e some inside =
    let sum : length (write (input s n p)) ≡ 3 + length (write p) = length_one (Input s n) os p q refl e in
    no_node offset bound o (input s n p) (omega arith) (none_input offset s n p some inside)
located_head offset bound o Choice os p q e some inside = absurd (omega arith)
located_head offset bound o Parallel os p q e some inside = absurd (omega arith)
located_head offset bound o (Restriction s) os p q e some inside =
    let sum : length (write (restriction s p)) ≡ 2 + length (write p) = length_one (Restriction s) os p q refl e in
    no_node offset bound o (restriction s p) (omega arith) (none_restriction offset s p some inside)
located_head offset bound o Replication os p q e some inside = absurd (omega arith)
