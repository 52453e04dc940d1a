-- Reductions are steps: what reduces in k reductions is reached by a list of single steps with k communications.
use Rattle.std.proofs.Common.{◌≡◌, ℕ, suc, ◌+◌, true, List, [], ◌∷◌, ◌++◌, refl, ap, ◌∙◌, subst₂, arith}
use Rattle.calculus.specs.Trees.{Process, parallel, output, input, choice, restriction, replication}
use Rattle.calculus.specs.Laws.{Law}
use Rattle.calculus.specs.Congruence.{Congruent, by_law, same, turned, joined, outputs, inputs, choices, parallels, restrictions, replications}
use Rattle.calculus.specs.Reduction.{Communicates, Reduces, by_communication, beside, under_restriction, up_to_congruence, InReductions, in_none, in_one_more}
use Rattle.calculus.specs.Contexts.{Context, hole, below_output, below_input, in_left_arm, in_right_arm, in_left_part, in_right_part, below_restriction, below_replication, fill, active, place}
use Rattle.calculus.specs.Steps.{Direction, Lawful, read_forth, read_back, Label, law_at, communication_at, Step, law_step, communication_step, Steps, no_step, one_step, communications}

-- a context in the hole of another
pub within : Context → Context → Context
within hole d = d
within (below_output s os c) d = below_output s os (within c d)
within (below_input s n c) d = below_input s n (within c d)
within (in_left_arm c r) d = in_left_arm (within c d) r
within (in_right_arm r c) d = in_right_arm r (within c d)
within (in_left_part c r) d = in_left_part (within c d) r
within (in_right_part r c) d = in_right_part r (within c d)
within (below_restriction s c) d = below_restriction s (within c d)
within (below_replication c) d = below_replication (within c d)

pub fill_within : (c d : Context) (p : Process) → fill (within c d) p ≡ fill c (fill d p)
unfolding within fill
fill_within hole d p = refl
fill_within (below_output s os c) d p = ap (output s os) (fill_within c d p)
fill_within (below_input s n c) d p = ap (input s n) (fill_within c d p)
fill_within (in_left_arm c r) d p = ap (λ (t : Process). choice t r) (fill_within c d p)
fill_within (in_right_arm r c) d p = ap (choice r) (fill_within c d p)
fill_within (in_left_part c r) d p = ap (λ (t : Process). parallel t r) (fill_within c d p)
fill_within (in_right_part r c) d p = ap (parallel r) (fill_within c d p)
fill_within (below_restriction s c) d p = ap (restriction s) (fill_within c d p)
fill_within (below_replication c) d p = ap replication (fill_within c d p)

pub active_within : (c d : Context) → active c ≡ true → active d ≡ true → active (within c d) ≡ true
unfolding within active
active_within hole d a b = b
active_within (below_output s os c) d a b = a
active_within (below_input s n c) d a b = a
active_within (in_left_arm c r) d a b = a
active_within (in_right_arm r c) d a b = a
active_within (in_left_part c r) d a b = active_within c d a b
active_within (in_right_part r c) d a b = active_within c d a b
active_within (below_restriction s c) d a b = active_within c d a b
active_within (below_replication c) d a b = a

-- reached by some list of steps with so many communications
abbrev pub Reached : ℕ → Process → Process → Type 0
Reached k p q = (labels : List Label) × Steps labels p q × (communications labels ≡ k)

pub steps_join : {one two : List Label} {p q r : Process} → Steps one p q → Steps two q r → Steps (one ++ two) p r
steps_join no_step rest = rest
steps_join (one_step s more) rest = one_step s (steps_join more rest)

pub communications_join : (one two : List Label) → communications (one ++ two) ≡ communications one + communications two
unfolding communications
communications_join [] two = omega arith
communications_join (law_at l d p ∷ one) two = communications_join one two
communications_join (communication_at p ∷ one) two = omega (arith, communications_join one two)

pub reached_join : {j k : ℕ} {p q r : Process} → Reached j p q → Reached k q r → Reached (j + k) p r
reached_join (one, s, e) (two, t, f) = (one ++ two, steps_join s t, omega (arith, communications_join one two))

-- a law's step turned back
pub step_back : {law : Law} {direction : Direction} (c : Context) {p q : Process} → Lawful law direction p q → Reached 0 (fill c q) (fill c p)
unfolding communications
step_back c (read_forth i) = (_, one_step (law_step c (read_back i)) no_step, refl)
step_back c (read_back i) = (_, one_step (law_step c (read_forth i)) no_step, refl)

pub reached_back : {labels : List Label} {p q : Process} → Steps labels p q → communications labels ≡ 0 → Reached 0 q p
unfolding communications
reached_back no_step e = ([], no_step, refl)
reached_back (one_step (law_step c l) rest) e = reached_join (reached_back rest e) (step_back c l)
reached_back (one_step (communication_step c a d) rest) e = absurd (omega arith)

-- steps below a context: laws below any, communications below an active one
pub law_within : (c d : Context) {law : Law} {direction : Direction} {p q : Process} → Lawful law direction p q → Step (law_at law direction (place (within c d))) (fill c (fill d p)) (fill c (fill d q))
law_within c d {law} {direction} {p} {q} l = subst₂ (Step (law_at law direction (place (within c d)))) (fill_within c d p) (fill_within c d q) (law_step (within c d) l)

pub communication_within : (c d : Context) → active c ≡ true → active d ≡ true → {p q : Process} → Communicates p q → Step (communication_at (place (within c d))) (fill c (fill d p)) (fill c (fill d q))
communication_within c d a b {p} {q} l = subst₂ (Step (communication_at (place (within c d)))) (fill_within c d p) (fill_within c d q) (communication_step (within c d) (active_within c d a b) l)

pub laws_within : (c : Context) {labels : List Label} {p q : Process} → Steps labels p q → communications labels ≡ 0 → Reached 0 (fill c p) (fill c q)
unfolding communications
laws_within c no_step e = ([], no_step, refl)
laws_within c (one_step (law_step d l) rest) e =
    let (labels, steps, f) = laws_within c rest e in
    (_ ∷ labels, one_step (law_within c d l) steps, f)
laws_within c (one_step (communication_step d a l) rest) e = absurd (omega arith)

pub steps_within : (c : Context) → active c ≡ true → {labels : List Label} {p q : Process} → Steps labels p q → Reached (communications labels) (fill c p) (fill c q)
unfolding communications
steps_within c a no_step = ([], no_step, refl)
steps_within c a (one_step (law_step d l) rest) =
    let (labels, steps, f) = steps_within c a rest in
    (_ ∷ labels, one_step (law_within c d l) steps, f)
steps_within c a (one_step (communication_step d b l) rest) =
    let (labels, steps, f) = steps_within c a rest in
    (_ ∷ labels, one_step (communication_within c d a b l) steps, ap suc f)

under : (c : Context) {p q : Process} → Reached 0 p q → Reached 0 (fill c p) (fill c q)
under c (labels, steps, e) = laws_within c steps e

under_active : (c : Context) → active c ≡ true → {k : ℕ} {p q : Process} → Reached k p q → Reached k (fill c p) (fill c q)
under_active c a (labels, steps, e) =
    let (more, chain, f) = steps_within c a steps in
    (more, chain, f ∙ e)

pub congruent_reached : {p q : Process} → Congruent p q → Reached 0 p q
unfolding fill communications
congruent_reached (by_law i) = (_ ∷ [], one_step (law_step hole (read_forth i)) no_step, refl)
congruent_reached same = ([], no_step, refl)
congruent_reached (turned c) = let (labels, steps, e) = congruent_reached c in reached_back steps e
congruent_reached (joined c d) = reached_join (congruent_reached c) (congruent_reached d)
congruent_reached (outputs {subject = s} {objects = os} c) = under (below_output s os hole) (congruent_reached c)
congruent_reached (inputs {subject = s} {count = n} c) = under (below_input s n hole) (congruent_reached c)
congruent_reached (choices {q = q} {r = r} c d) = reached_join (under (in_left_arm hole r) (congruent_reached c)) (under (in_right_arm q hole) (congruent_reached d))
congruent_reached (parallels {q = q} {r = r} c d) = reached_join (under (in_left_part hole r) (congruent_reached c)) (under (in_right_part q hole) (congruent_reached d))
congruent_reached (restrictions {sort = s} c) = under (below_restriction s hole) (congruent_reached c)
congruent_reached (replications c) = under (below_replication hole) (congruent_reached c)

pub reduction_reached : {p q : Process} → Reduces p q → Reached 1 p q
unfolding fill communications active
reduction_reached (by_communication c) = (_ ∷ [], one_step (communication_step hole refl c) no_step, refl)
reduction_reached (beside {r = r} d) = under_active (in_left_part hole r) refl (reduction_reached d)
reduction_reached (under_restriction {sort = s} d) = under_active (below_restriction s hole) refl (reduction_reached d)
reduction_reached (up_to_congruence c d e) = reached_join (congruent_reached c) (reached_join (reduction_reached d) (congruent_reached e))

pub reductions_reached : {k : ℕ} {p q : Process} → InReductions k p q → Reached k p q
reductions_reached (in_none c) = congruent_reached c
reductions_reached (in_one_more {k = k} d rest) =
    let (labels, steps, e) = reached_join (reduction_reached d) (reductions_reached rest) in
    (labels, steps, omega arith)
