-- Steps are reductions: a list of single steps with k communications reduces its first term to its last in k.
use Rattle.std.proofs.Common.{◌≡◌, ℕ, true, List}
use mathlib.Core.Bool.{false≢true}
use Rattle.calculus.specs.Trees.{Process}
use Rattle.calculus.specs.Laws.{Law, commuting_parts}
use Rattle.calculus.specs.Congruence.{Congruent, by_law, same, turned, joined, outputs, inputs, choices, parallels, restrictions, replications}
use Rattle.calculus.specs.Reduction.{Reduces, by_communication, beside, under_restriction, up_to_congruence, InReductions, in_none, in_one_more}
use Rattle.calculus.specs.Contexts.{Context, hole, below_output, below_input, in_left_arm, in_right_arm, in_left_part, in_right_part, below_restriction, below_replication, fill, active}
use Rattle.calculus.specs.Steps.{Direction, Lawful, read_forth, read_back, Label, law_step, communication_step, Steps, no_step, one_step, communications}

pub lawful_congruent : {law : Law} {direction : Direction} {p q : Process} → Lawful law direction p q → Congruent p q
lawful_congruent (read_forth i) = by_law i
lawful_congruent (read_back i) = turned (by_law i)

pub fill_congruent : (c : Context) {p q : Process} → Congruent p q → Congruent (fill c p) (fill c q)
unfolding fill
fill_congruent hole e = e
fill_congruent (below_output s os c) e = outputs (fill_congruent c e)
fill_congruent (below_input s n c) e = inputs (fill_congruent c e)
fill_congruent (in_left_arm c r) e = choices (fill_congruent c e) same
fill_congruent (in_right_arm r c) e = choices same (fill_congruent c e)
fill_congruent (in_left_part c r) e = parallels (fill_congruent c e) same
fill_congruent (in_right_part r c) e = parallels same (fill_congruent c e)
fill_congruent (below_restriction s c) e = restrictions (fill_congruent c e)
fill_congruent (below_replication c) e = replications (fill_congruent c e)

-- a communication in a right part is one in a left part, up to congruence
pub fill_reduces : (c : Context) → active c ≡ true → {p q : Process} → Reduces p q → Reduces (fill c p) (fill c q)
unfolding fill active
fill_reduces hole a d = d
fill_reduces (below_output s os c) a d = absurd (false≢true a)
fill_reduces (below_input s n c) a d = absurd (false≢true a)
fill_reduces (in_left_arm c r) a d = absurd (false≢true a)
fill_reduces (in_right_arm r c) a d = absurd (false≢true a)
fill_reduces (in_left_part c r) a d = beside (fill_reduces c a d)
fill_reduces (in_right_part r c) a d =
    up_to_congruence (by_law (commuting_parts _ _)) (beside (fill_reduces c a d)) (by_law (commuting_parts _ _))
fill_reduces (below_restriction s c) a d = under_restriction (fill_reduces c a d)
fill_reduces (below_replication c) a d = absurd (false≢true a)

-- a congruence in front of so many reductions
pub congruent_first : {k : ℕ} {p q r : Process} → Congruent p q → InReductions k q r → InReductions k p r
congruent_first c (in_none d) = in_none (joined c d)
congruent_first c (in_one_more d rest) = in_one_more (up_to_congruence c d same) rest

pub steps_reduce : {labels : List Label} {p q : Process} → Steps labels p q → InReductions (communications labels) p q
unfolding communications
steps_reduce no_step = in_none same
steps_reduce (one_step (law_step c l) rest) = congruent_first (fill_congruent c (lawful_congruent l)) (steps_reduce rest)
steps_reduce (one_step (communication_step c a d) rest) = in_one_more (fill_reduces c a (by_communication d)) (steps_reduce rest)
