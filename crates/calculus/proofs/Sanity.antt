-- Small truths that the definitions have to give: an unused restriction, two senders, places that are not active.
use Rattle.std.proofs.Common.{◌≡◌, ℕ, zero, suc, Bool, true, false, List, [], ◌∷◌, Some, None, Option, sym, refl, ◌∙◌, subst, true≢false}
use mathlib.Core.Bool.{false≢true}
use Rattle.calculus.specs.Trees.{Process, terminated, output, input, choice, parallel, restriction, replication, write}
use Rattle.calculus.specs.Names.{rename, raise, lower, exchange, send, among, free, raised, lowered}
use Rattle.calculus.specs.Laws.{parallel_commutes, parallel_regroups, part_of_nothing, restricting_nothing, extruding}
use Rattle.calculus.specs.Congruence.{Congruent, by_law, same, turned, joined, parallels, restrictions}
use Rattle.calculus.specs.Reduction.{Communicates, communicates, InReductions}
use Rattle.calculus.specs.Contexts.{Context, hole, below_output, below_input, in_left_arm, in_right_arm, in_left_part, in_right_part, below_restriction, below_replication, fill, active}
use Rattle.calculus.specs.Steps.{forth, back, Label, law_at, communication_at, Step, law_step, communication_step, communications}
use Rattle.calculus.specs.Sorts.{Sorting, sort_of, carried_by, is_sort, have_sorts, carries_so, respects}
use Rattle.calculus.specs.Playing.{and_then, only, nothing, parts_of, arms_of, restricted_of, replicated_of, output_of, input_of, actor, same_numbers, same_process, result_forth, result_back, result_back_told, applied, communicated, below, node_at, played, played_all}
use Rattle.calculus.specs.Examples.{two_senders, first_sent, second_sent}
use Rattle.calculus.proofs.Renamed.{raised-lowered}
use Rattle.calculus.proofs.Preserved.{congruent_respects}
use Rattle.calculus.proofs.Sound.{steps_reduce}
use Rattle.calculus.proofs.Played.{played_steps}

-- ν(P raised) ≅ ν(P raised ∣ 0) ≅ P ∣ ν0 ≅ P ∣ 0 ≅ P
restricted_raised : (s : ℕ) (p : Process) → Congruent (restriction s (raised p)) p
restricted_raised s p =
    joined (restrictions (turned (by_law (part_of_nothing (raised p)))))
    (joined (turned (by_law (extruding s p terminated))) (joined (parallels same (by_law (restricting_nothing s))) (by_law (part_of_nothing p))))

pub unused_vanishes : (s : ℕ) (p : Process) → free 0 p ≡ false → Congruent (restriction s p) (lowered p)
unused_vanishes s p e = subst (λ (q : Process). Congruent (restriction s q) (lowered p)) (raised-lowered 0 p e) (restricted_raised s (lowered p))

-- playing a list of labels, by evaluation
unfoldable pub plays : List Label → Process → Option Process
unfolding played_all played and_then only below node_at applied result_forth result_back result_back_told nothing parts_of arms_of restricted_of replicated_of communicated output_of input_of actor same_numbers same_process active fill write rename raise lower exchange send among free
plays labels t = played_all labels t

-- the first sender stands beside the receiver
via_first : List Label
via_first = communication_at 1 ∷ []

first_played : played_all via_first two_senders ≡ Some first_sent
unfolding plays via_first
first_played = refl

pub first_arrives : InReductions 1 two_senders first_sent
unfolding communications via_first
first_arrives = steps_reduce (played_steps via_first two_senders first_sent first_played)

-- the second is brought beside it, on its left, and the ends are put back
via_second : List Label
via_second =
    law_at parallel_regroups (back None) 0 ∷ law_at parallel_commutes forth 6 ∷ communication_at 6 ∷ law_at parallel_commutes forth 6 ∷ law_at parallel_regroups forth 0 ∷ []

second_played : played_all via_second two_senders ≡ Some second_sent
unfolding plays via_second
second_played = refl

pub second_arrives : InReductions 1 two_senders second_sent
unfolding communications via_second
second_arrives = steps_reduce (played_steps via_second two_senders second_sent second_played)

-- a sorting tells the two ends apart: x carries the sort of z only
telling : Sorting
telling zero = Some (2 ∷ [])
telling (suc zero) = Some (3 ∷ [])
telling (suc (suc n)) = None

four_names : List ℕ
four_names = 0 ∷ 1 ∷ 2 ∷ 3 ∷ []

first_respects : respects telling four_names first_sent ≡ true
unfolding respects carries_so carried_by have_sorts is_sort sort_of telling four_names
first_respects = refl

second_fails : respects telling four_names second_sent ≡ false
unfolding respects carries_so carried_by have_sorts is_sort sort_of telling four_names
second_fails = refl

pub ends_apart : Congruent first_sent second_sent → ⊥
ends_apart c = true≢false (sym first_respects ∙ congruent_respects telling c four_names ∙ second_fails)

-- the root of a term with a communication in it
joining : Process → Bool
joining terminated = false
joining (output s os p) = false
joining (input s n p) = false
joining (choice p q) = false
joining (parallel p q) = true
joining (restriction s p) = true
joining (replication p) = false

communicating_root : {p q : Process} → Communicates p q → joining p ≡ true
unfolding joining
communicating_root (communicates s os p q a b) = refl

filled_root : (c : Context) → active c ≡ true → (p : Process) → joining p ≡ true → joining (fill c p) ≡ true
unfolding fill active joining
filled_root hole a p e = e
filled_root (below_output s os c) a p e = a
filled_root (below_input s n c) a p e = a
filled_root (in_left_arm c q) a p e = a
filled_root (in_right_arm q c) a p e = a
filled_root (in_left_part c q) a p e = refl
filled_root (in_right_part q c) a p e = refl
filled_root (below_restriction s c) a p e = refl
filled_root (below_replication c) a p e = a

step_root : (label : Label) (n : ℕ) (p q : Process) → label ≡ communication_at n → Step label p q → joining p ≡ true
step_root label n p q e (law_step c l) = cc
step_root label n p q e (communication_step c a {p = r} l) = filled_root c a r (communicating_root l)

-- so nothing is sent below a prefix, in an arm or below a replication
pub none_below_output : (s : ℕ) (os : List ℕ) (p q : Process) (n : ℕ) → Step (communication_at n) (output s os p) q → ⊥
unfolding joining
none_below_output s os p q n step = false≢true (step_root (communication_at n) n (output s os p) q refl step)

pub none_below_input : (s k : ℕ) (p q : Process) (n : ℕ) → Step (communication_at n) (input s k p) q → ⊥
unfolding joining
none_below_input s k p q n step = false≢true (step_root (communication_at n) n (input s k p) q refl step)

pub none_in_arms : (p q r : Process) (n : ℕ) → Step (communication_at n) (choice p q) r → ⊥
unfolding joining
none_in_arms p q r n step = false≢true (step_root (communication_at n) n (choice p q) r refl step)

pub none_below_replication : (p q : Process) (n : ℕ) → Step (communication_at n) (replication p) q → ⊥
unfolding joining
none_below_replication p q n step = false≢true (step_root (communication_at n) n (replication p) q refl step)
