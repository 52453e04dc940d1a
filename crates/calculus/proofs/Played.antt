-- A label plays exactly the single steps that it names.
use Rattle.std.proofs.Common.{◌≡◌, ℕ, Bool, true, false, cond, ◌&&◌, eqb, List, [], ◌∷◌, length, Some, None, Option, sym, refl, ap, ◌∙◌, subst, ap₂, subst₂}
use Rattle.std.proofs.lemmas.Bool.Decides.{Decides-eqb}
use Rattle.calculus.specs.Trees.{Process, terminated, output, input, choice, parallel, restriction, replication, write}
use Rattle.calculus.specs.Names.{raised, lowered, exchanged, sent, free}
use Rattle.calculus.specs.Laws.{Law, parallel_commutes, parallel_regroups, parallel_with_nothing, choice_commutes, choice_regroups, choice_with_nothing, restrictions_trade_places, restriction_of_nothing, replication_unfolds, scope_extrudes, Instance, commuting_parts, regrouping_parts, part_of_nothing, commuting_arms, regrouping_arms, arm_of_nothing, trading_places, restricting_nothing, unfolding_once, extruding}
use Rattle.calculus.specs.Reduction.{Sends, sends_alone, sends_in_choice, Receives, receives_alone, receives_in_choice, Communicates, communicates}
use Rattle.calculus.specs.Contexts.{Context, fill, active, place}
use Rattle.calculus.specs.Steps.{Direction, forth, back, Lawful, read_forth, read_back, Label, law_at, communication_at, Step, law_step, communication_step, Steps, no_step, one_step}
use Rattle.calculus.specs.Playing.{and_then, only, nothing, parts_of, arms_of, restricted_of, replicated_of, output_of, input_of, actor, same_numbers, same_process, result_forth, result_back, result_back_told, applied, communicated, node_at, played, played_all}
use Rattle.calculus.proofs.Renamed.{lowered-raised, raised-lowered, raised_misses, exchanged_twice}
use Rattle.calculus.proofs.Written.{injective}
use Rattle.calculus.proofs.Sorted.{both_left, both_right}
use Rattle.calculus.proofs.Places.{some_is, none_some, none_or, node_at-fill, node_at_finds}

-- what was gone on with
pub went_on : {A B : Type 0} (o : Option A) (go : A → Option B) (b : B) → and_then o go ≡ Some b → (a : A) × (o ≡ Some a) × (go a ≡ Some b)
unfolding and_then
went_on None go b e = absurd (none_some b e)
went_on (Some a) go b e = (a, refl, e)

pub only_is : {A : Type 0} (t : Bool) (a b : A) → only t a ≡ Some b → (t ≡ true) × (a ≡ b)
unfolding only
only_is true a b e = (refl, some_is a b e)
only_is false a b e = absurd (none_some b e)

-- each shape says what the process is
pub is_nothing : (t : Process) → nothing t ≡ true → t ≡ terminated
unfolding nothing
is_nothing terminated e = refl
is_nothing (output s os p) e = cc
is_nothing (input s n p) e = cc
is_nothing (choice p q) e = cc
is_nothing (parallel p q) e = cc
is_nothing (restriction s p) e = cc
is_nothing (replication p) e = cc

pub has_parts : (t : Process) (x : Process × Process) → parts_of t ≡ Some x → t ≡ parallel x.0 x.1
unfolding parts_of
has_parts terminated x e = cc
has_parts (output s os p) x e = cc
has_parts (input s n p) x e = cc
has_parts (choice p q) x e = cc
has_parts (parallel p q) x e = ap (λ (y : Process × Process). parallel y.0 y.1) (some_is _ _ e)
has_parts (restriction s p) x e = cc
has_parts (replication p) x e = cc

pub has_arms : (t : Process) (x : Process × Process) → arms_of t ≡ Some x → t ≡ choice x.0 x.1
unfolding arms_of
has_arms terminated x e = cc
has_arms (output s os p) x e = cc
has_arms (input s n p) x e = cc
has_arms (choice p q) x e = ap (λ (y : Process × Process). choice y.0 y.1) (some_is _ _ e)
has_arms (parallel p q) x e = cc
has_arms (restriction s p) x e = cc
has_arms (replication p) x e = cc

pub has_restricted : (t : Process) (x : ℕ × Process) → restricted_of t ≡ Some x → t ≡ restriction x.0 x.1
unfolding restricted_of
has_restricted terminated x e = cc
has_restricted (output s os p) x e = cc
has_restricted (input s n p) x e = cc
has_restricted (choice p q) x e = cc
has_restricted (parallel p q) x e = cc
has_restricted (restriction s p) x e = ap (λ (y : ℕ × Process). restriction y.0 y.1) (some_is _ _ e)
has_restricted (replication p) x e = cc

pub has_replicated : (t p : Process) → replicated_of t ≡ Some p → t ≡ replication p
unfolding replicated_of
has_replicated terminated x e = cc
has_replicated (output s os p) x e = cc
has_replicated (input s n p) x e = cc
has_replicated (choice p q) x e = cc
has_replicated (parallel p q) x e = cc
has_replicated (restriction s p) x e = cc
has_replicated (replication p) x e = ap replication (some_is _ _ e)

pub has_output : (t : Process) (x : ℕ × List ℕ × Process) → output_of t ≡ Some x → t ≡ output x.0 x.1 x.2
unfolding output_of
has_output terminated x e = cc
has_output (output s os p) x e = ap (λ (y : ℕ × List ℕ × Process). output y.0 y.1 y.2) (some_is _ _ e)
has_output (input s n p) x e = cc
has_output (choice p q) x e = cc
has_output (parallel p q) x e = cc
has_output (restriction s p) x e = cc
has_output (replication p) x e = cc

pub has_input : (t : Process) (x : ℕ × ℕ × Process) → input_of t ≡ Some x → t ≡ input x.0 x.1 x.2
unfolding input_of
has_input terminated x e = cc
has_input (output s os p) x e = cc
has_input (input s n p) x e = ap (λ (y : ℕ × ℕ × Process). input y.0 y.1 y.2) (some_is _ _ e)
has_input (choice p q) x e = cc
has_input (parallel p q) x e = cc
has_input (restriction s p) x e = cc
has_input (replication p) x e = cc

pub same_numbers_lem : (ms ns : List ℕ) → same_numbers ms ns ≡ true → ms ≡ ns
unfolding same_numbers
same_numbers_lem [] [] e = refl
same_numbers_lem [] (n ∷ ns) e = cc
same_numbers_lem (m ∷ ms) [] e = cc
same_numbers_lem (m ∷ ms) (n ∷ ns) e = ap₂ ◌∷◌ ((Decides-eqb m n).0 (both_left _ _ e)) (same_numbers_lem ms ns (both_right (eqb m n) (same_numbers ms ns) e))

pub numbers_same : (ms : List ℕ) → same_numbers ms ms ≡ true
unfolding same_numbers
numbers_same [] = refl
numbers_same (m ∷ ms) = ap₂ ◌&&◌ ((Decides-eqb m m).1 refl) (numbers_same ms)

pub same_process_lem : (p q : Process) → same_process p q ≡ true → p ≡ q
unfolding same_process
same_process_lem p q e = injective p q (same_numbers_lem _ _ e)

pub process_same : (p : Process) → same_process p p ≡ true
unfolding same_process
process_same p = numbers_same (write p)

-- an instance of a law is what reading it forth gives, and reading it back, told what was lost
pub instance_forth : {law : Law} {lost : Option ℕ} {p q : Process} → Instance law lost p q → result_forth law p ≡ Some q
unfolding result_forth and_then only nothing parts_of arms_of restricted_of replicated_of
instance_forth (commuting_parts p q) = refl
instance_forth (regrouping_parts p q r) = refl
instance_forth (part_of_nothing p) = refl
instance_forth (commuting_arms p q) = refl
instance_forth (regrouping_arms p q r) = refl
instance_forth (arm_of_nothing p) = refl
instance_forth (trading_places s t p) = refl
instance_forth (restricting_nothing s) = refl
instance_forth (unfolding_once p) = refl
instance_forth (extruding s p q) = refl

pub instance_back : {law : Law} {lost : Option ℕ} {p q : Process} → Instance law lost p q → applied law (back lost) q ≡ Some p
unfolding applied result_back result_back_told and_then only nothing parts_of arms_of restricted_of replicated_of
instance_back (commuting_parts p q) = refl
instance_back (regrouping_parts p q r) = refl
instance_back (part_of_nothing p) = refl
instance_back (commuting_arms p q) = refl
instance_back (regrouping_arms p q r) = refl
instance_back (arm_of_nothing p) = refl
instance_back (trading_places s t p) = ap (λ (x : Process). Some (restriction s (restriction t x))) (exchanged_twice 0 p)
instance_back (restricting_nothing s) = refl
instance_back (unfolding_once p) = ap (λ (b : Bool). only b (replication p)) (process_same p)
instance_back (extruding s p q) =
    ap (λ (b : Bool). cond b None (Some (parallel (lowered (raised p)) (restriction s q)))) (raised_misses 0 p)
    ∙ ap (λ (x : Process). Some (parallel x (restriction s q))) (lowered-raised 0 p)

cast : {law : Law} {lost : Option ℕ} {p q : Process} (t u : Process) → Instance law lost p q → t ≡ p → q ≡ u → Instance law lost t u
cast {law} {lost} t u i e f = subst₂ (Instance law lost) (sym e) f i

-- and nothing else is
pub forth_instance : (law : Law) (t u : Process) → result_forth law t ≡ Some u → (lost : Option ℕ) × Instance law lost t u
unfolding result_forth
forth_instance parallel_commutes t u e =
    let (x, is, go) = went_on (parts_of t) _ u e in
    (None, cast t u (commuting_parts x.0 x.1) (has_parts t x is) (some_is _ _ go))
forth_instance parallel_regroups t u e =
    let (x, is, go) = went_on (parts_of t) _ u e in
    let (y, was, end) = went_on (parts_of x.1) _ u go in
    (None, cast t u (regrouping_parts x.0 y.0 y.1) (has_parts t x is ∙ ap (parallel x.0) (has_parts x.1 y was)) (some_is _ _ end))
forth_instance parallel_with_nothing t u e =
    let (x, is, go) = went_on (parts_of t) _ u e in
    let (none, end) = only_is (nothing x.1) x.0 u go in
    (None, cast t u (part_of_nothing x.0) (has_parts t x is ∙ ap (parallel x.0) (is_nothing x.1 none)) end)
forth_instance choice_commutes t u e =
    let (x, is, go) = went_on (arms_of t) _ u e in
    (None, cast t u (commuting_arms x.0 x.1) (has_arms t x is) (some_is _ _ go))
forth_instance choice_regroups t u e =
    let (x, is, go) = went_on (arms_of t) _ u e in
    let (y, was, end) = went_on (arms_of x.1) _ u go in
    (None, cast t u (regrouping_arms x.0 y.0 y.1) (has_arms t x is ∙ ap (choice x.0) (has_arms x.1 y was)) (some_is _ _ end))
forth_instance choice_with_nothing t u e =
    let (x, is, go) = went_on (arms_of t) _ u e in
    let (none, end) = only_is (nothing x.1) x.0 u go in
    (None, cast t u (arm_of_nothing x.0) (has_arms t x is ∙ ap (choice x.0) (is_nothing x.1 none)) end)
forth_instance restrictions_trade_places t u e =
    let (x, is, go) = went_on (restricted_of t) _ u e in
    let (y, was, end) = went_on (restricted_of x.1) _ u go in
    (None, cast t u (trading_places x.0 y.0 y.1) (has_restricted t x is ∙ ap (restriction x.0) (has_restricted x.1 y was)) (some_is _ _ end))
forth_instance restriction_of_nothing t u e =
    let (x, is, go) = went_on (restricted_of t) _ u e in
    let (none, end) = only_is (nothing x.1) terminated u go in
    (Some x.0, cast t u (restricting_nothing x.0) (has_restricted t x is ∙ ap (restriction x.0) (is_nothing x.1 none)) end)
forth_instance replication_unfolds t u e =
    let (p, is, go) = went_on (replicated_of t) _ u e in
    (None, cast t u (unfolding_once p) (has_replicated t p is) (ap (parallel p) (sym (has_replicated t p is)) ∙ some_is _ _ go))
forth_instance scope_extrudes t u e =
    let (x, is, go) = went_on (parts_of t) _ u e in
    let (y, was, end) = went_on (restricted_of x.1) _ u go in
    (None, cast t u (extruding y.0 x.0 y.1) (has_parts t x is ∙ ap (parallel x.0) (has_restricted x.1 y was)) (some_is _ _ end))

pub back_instance : (law : Law) (t u : Process) → result_back law t ≡ Some u → Instance law None u t
unfolding result_back
back_instance parallel_commutes t u e =
    let (x, is, go) = went_on (parts_of t) _ u e in
    cast u t (commuting_parts x.1 x.0) (sym (some_is _ _ go)) (sym (has_parts t x is))
back_instance parallel_regroups t u e =
    let (x, is, go) = went_on (parts_of t) _ u e in
    let (y, was, end) = went_on (parts_of x.0) _ u go in
    cast u t (regrouping_parts y.0 y.1 x.1) (sym (some_is _ _ end)) (sym (has_parts t x is ∙ ap (λ (p : Process). parallel p x.1) (has_parts x.0 y was)))
back_instance parallel_with_nothing t u e = cast u t (part_of_nothing t) (sym (some_is _ _ e)) refl
back_instance choice_commutes t u e =
    let (x, is, go) = went_on (arms_of t) _ u e in
    cast u t (commuting_arms x.1 x.0) (sym (some_is _ _ go)) (sym (has_arms t x is))
back_instance choice_regroups t u e =
    let (x, is, go) = went_on (arms_of t) _ u e in
    let (y, was, end) = went_on (arms_of x.0) _ u go in
    cast u t (regrouping_arms y.0 y.1 x.1) (sym (some_is _ _ end)) (sym (has_arms t x is ∙ ap (λ (p : Process). choice p x.1) (has_arms x.0 y was)))
back_instance choice_with_nothing t u e = cast u t (arm_of_nothing t) (sym (some_is _ _ e)) refl
back_instance restrictions_trade_places t u e =
    let (x, is, go) = went_on (restricted_of t) _ u e in
    let (y, was, end) = went_on (restricted_of x.1) _ u go in
    cast u t (trading_places y.0 x.0 (exchanged y.1)) (sym (some_is _ _ end))
    (ap (λ (p : Process). restriction x.0 (restriction y.0 p)) (exchanged_twice 0 y.1) ∙ sym (has_restricted t x is ∙ ap (restriction x.0) (has_restricted x.1 y was)))
back_instance restriction_of_nothing t u e = absurd (none_some u e)
back_instance replication_unfolds t u e =
    let (x, is, go) = went_on (parts_of t) _ u e in
    let (q, was, end) = went_on (replicated_of x.1) _ u go in
    let (copies, last) = only_is (same_process x.0 q) x.1 u end in
    let alike : x.0 ≡ q = same_process_lem x.0 q copies in
    cast u t (unfolding_once q) (sym last ∙ has_replicated x.1 q was) (sym (has_parts t x is ∙ ap₂ parallel alike (has_replicated x.1 q was)))
back_instance scope_extrudes t u e =
    let (x, is, go) = went_on (restricted_of t) _ u e in
    let (y, was, end) = went_on (parts_of x.1) _ u go in
    let (unused, last) = none_or (free 0 y.0) _ u end in
    cast u t (extruding x.0 (lowered y.0) y.1) (sym (some_is _ _ last))
    (ap (λ (p : Process). restriction x.0 (parallel p y.1)) (raised-lowered 0 y.0 unused) ∙ sym (has_restricted t x is ∙ ap (restriction x.0) (has_parts x.1 y was)))

pub told_instance : (law : Law) (s : ℕ) (t u : Process) → result_back_told law s t ≡ Some u → Instance law (Some s) u t
unfolding result_back_told
told_instance parallel_commutes s t u e = absurd (none_some u e)
told_instance parallel_regroups s t u e = absurd (none_some u e)
told_instance parallel_with_nothing s t u e = absurd (none_some u e)
told_instance choice_commutes s t u e = absurd (none_some u e)
told_instance choice_regroups s t u e = absurd (none_some u e)
told_instance choice_with_nothing s t u e = absurd (none_some u e)
told_instance restrictions_trade_places s t u e = absurd (none_some u e)
told_instance restriction_of_nothing s t u e =
    let (none, last) = only_is (nothing t) (restriction s terminated) u e in
    cast u t (restricting_nothing s) (sym last) (sym (is_nothing t none))
told_instance replication_unfolds s t u e = absurd (none_some u e)
told_instance scope_extrudes s t u e = absurd (none_some u e)

pub lawful_applied : {law : Law} {direction : Direction} {p q : Process} → Lawful law direction p q → applied law direction p ≡ Some q
unfolding applied
lawful_applied (read_forth i) = instance_forth i
lawful_applied (read_back i) = instance_back i

pub applied_lawful : (law : Law) (direction : Direction) (t u : Process) → applied law direction t ≡ Some u → Lawful law direction t u
unfolding applied
applied_lawful law forth t u e = read_forth (forth_instance law t u e).1
applied_lawful law (back None) t u e = read_back (back_instance law t u e)
applied_lawful law (back (Some s)) t u e = read_back (told_instance law s t u e)

-- communication
sender_is : {s : ℕ} {os : List ℕ} {p sender : Process} → Sends s os p sender → actor sender ≡ output s os p
unfolding actor
sender_is sends_alone = refl
sender_is (sends_in_choice other) = refl

receiver_is : {s n : ℕ} {p receiver : Process} → Receives s n p receiver → actor receiver ≡ input s n p
unfolding actor
receiver_is receives_alone = refl
receiver_is (receives_in_choice other) = refl

is_sender : (s : ℕ) (os : List ℕ) (p sender : Process) → actor sender ≡ output s os p → Sends s os p sender
unfolding actor
is_sender s os p terminated e = subst (Sends s os p) (sym e) sends_alone
is_sender s os p (output t ps q) e = subst (Sends s os p) (sym e) sends_alone
is_sender s os p (input t n q) e = subst (Sends s os p) (sym e) sends_alone
is_sender s os p (choice q r) e = subst (λ (x : Process). Sends s os p (choice x r)) (sym e) (sends_in_choice r)
is_sender s os p (parallel q r) e = subst (Sends s os p) (sym e) sends_alone
is_sender s os p (restriction t q) e = subst (Sends s os p) (sym e) sends_alone
is_sender s os p (replication q) e = subst (Sends s os p) (sym e) sends_alone

is_receiver : (s n : ℕ) (p receiver : Process) → actor receiver ≡ input s n p → Receives s n p receiver
unfolding actor
is_receiver s n p terminated e = subst (Receives s n p) (sym e) receives_alone
is_receiver s n p (output t ps q) e = subst (Receives s n p) (sym e) receives_alone
is_receiver s n p (input t m q) e = subst (Receives s n p) (sym e) receives_alone
is_receiver s n p (choice q r) e = subst (λ (x : Process). Receives s n p (choice x r)) (sym e) (receives_in_choice r)
is_receiver s n p (parallel q r) e = subst (Receives s n p) (sym e) receives_alone
is_receiver s n p (restriction t q) e = subst (Receives s n p) (sym e) receives_alone
is_receiver s n p (replication q) e = subst (Receives s n p) (sym e) receives_alone

pub communicates_communicated : {p q : Process} → Communicates p q → communicated p ≡ Some q
unfolding communicated and_then only parts_of output_of input_of
communicates_communicated (communicates s os p q {sender} {receiver} a b) =
    rw (sender_is a, receiver_is b, (Decides-eqb s s).1 refl, (Decides-eqb (length os) (length os)).1 refl) refl

pub communicated_communicates : (t u : Process) → communicated t ≡ Some u → Communicates t u
unfolding communicated
communicated_communicates t u e =
    let (x, is, go) = went_on (parts_of t) _ u e in
    let (y, was, on) = went_on (output_of (actor x.0)) _ u go in
    let (z, with, end) = went_on (input_of (actor x.1)) _ u on in
    let (tests, last) = only_is (eqb z.0 y.0 && eqb z.1 (length y.1)) (parallel y.2 (sent y.1 z.2)) u end in
    let subject : z.0 ≡ y.0 = (Decides-eqb z.0 y.0).0 (both_left _ _ tests) in
    let count : z.1 ≡ length y.1 = (Decides-eqb z.1 (length y.1)).0 (both_right (eqb z.0 y.0) (eqb z.1 (length y.1)) tests) in
    let receiver : actor x.1 ≡ input y.0 (length y.1) z.2 = has_input (actor x.1) z with ∙ ap₂ (λ (s n : ℕ). input s n z.2) subject count in
    subst₂ Communicates (sym (has_parts t x is)) last
    (communicates y.0 y.1 y.2 z.2 (is_sender y.0 y.1 y.2 x.0 (has_output (actor x.0) y was)) (is_receiver y.0 (length y.1) z.2 x.1 receiver))

-- a step is what its label plays, and only that
pub step_played : {label : Label} {p q : Process} → Step label p q → played label p ≡ Some q
unfolding played and_then
step_played (law_step c {p} {q} l) = rw (node_at-fill c p, lawful_applied l) refl
step_played (communication_step c a {p} {q} l) = rw (node_at-fill c p, a, communicates_communicated l) refl

or_none : {A : Type 0} (b : Bool) (o : Option A) (x : A) → cond b o None ≡ Some x → (b ≡ true) × (o ≡ Some x)
or_none true o x e = (refl, e)
or_none false o x e = absurd (none_some x e)

pub played_step : (label : Label) (t u : Process) → played label t ≡ Some u → Step label t u
unfolding played
played_step (law_at law direction n) t u e =
    let (x, is, go) = went_on (node_at n t) _ u e in
    let (q, was, end) = went_on (applied law direction x.1) _ u go in
    let (whole, at) = node_at_finds n t x is in
    subst (λ (k : ℕ). Step (law_at law direction k) t u) at
    (subst₂ (Step (law_at law direction (place x.0))) whole (some_is _ _ end) (law_step x.0 (applied_lawful law direction x.1 q was)))
played_step (communication_at n) t u e =
    let (x, is, go) = went_on (node_at n t) _ u e in
    let (open_place, on) = or_none (active x.0) _ u go in
    let (q, was, end) = went_on (communicated x.1) _ u on in
    let (whole, at) = node_at_finds n t x is in
    subst (λ (k : ℕ). Step (communication_at k) t u) at
    (subst₂ (Step (communication_at (place x.0))) whole (some_is _ _ end) (communication_step x.0 open_place (communicated_communicates x.1 q was)))

pub steps_played : {labels : List Label} {p q : Process} → Steps labels p q → played_all labels p ≡ Some q
unfolding played_all and_then
steps_played no_step = refl
steps_played (one_step s rest) = rw (step_played s) (steps_played rest)

pub played_steps : (labels : List Label) (t u : Process) → played_all labels t ≡ Some u → Steps labels t u
unfolding played_all
played_steps [] t u e = subst (Steps [] t) (some_is t u e) no_step
played_steps (label ∷ labels) t u e =
    let (s, is, rest) = went_on (played label t) (played_all labels) u e in
    one_step (played_step label t s is) (played_steps labels s u rest)

-- a law's step turned back at its place
pub turned_back : (law : Law) (at : ℕ) (p q : Process) → Step (law_at law forth at) p q → (lost : Option ℕ) × (played (law_at law (back lost) at) q ≡ Some p)
turned_back law at p q (law_step c (read_forth {lost = lost} i)) = (lost, step_played (law_step c (read_back i)))

pub turned_forth : (law : Law) (lost : Option ℕ) (at : ℕ) (p q : Process) → Step (law_at law (back lost) at) q p → played (law_at law forth at) p ≡ Some q
turned_forth law lost at p q (law_step c (read_back i)) = step_played (law_step c (read_forth i))

-- the place of a communication is active
pub communication_active : (c : Context) (p q : Process) → Step (communication_at (place c)) (fill c p) q → active c ≡ true
unfolding played and_then
communication_active c p q s =
    let found : and_then (Some (c, p)) (λ (x : Context × Process). cond (active x.0) (and_then (communicated x.1) (λ r. Some (fill x.0 r))) None) ≡ Some q
    = rw (node_at-fill c p) at (step_played s) in
    (or_none (active c) _ q found).0
