-- Single steps as functions: what a label makes of a process, where it makes anything of it. Nothing here has to be
-- believed: `labels_decide_steps` says that it agrees with the definition of a single step.
use Rattle.std.specs.Prelude.{ℕ, zero, suc, ◌+◌, ◌-◌, Bool, true, false, cond, ◌&&◌, List, [], ◌∷◌, length, Some, None, Option, ◌==◌, nat_lt}
use Rattle.calculus.specs.Trees.{Process, terminated, output, input, choice, parallel, restriction, replication, write}
use Rattle.calculus.specs.Names.{raised, lowered, exchanged, sent, free}
use Rattle.calculus.specs.Laws.{Law, parallel_commutes, parallel_regroups, parallel_with_nothing, choice_commutes, choice_regroups, choice_with_nothing, restrictions_trade_places, restriction_of_nothing, replication_unfolds, scope_extrudes}
use Rattle.calculus.specs.Contexts.{Context, hole, below_output, below_input, in_left_arm, in_right_arm, in_left_part, in_right_part, below_restriction, below_replication, fill, active}
use Rattle.calculus.specs.Steps.{Direction, forth, back, Label, law_at, communication_at}

-- go on with what there is
unfoldable pub and_then : {A B : Type 0} → Option A → (A → Option B) → Option B
and_then None go = None
and_then (Some a) go = go a

-- what is found, where a test passes
unfoldable pub only : {A : Type 0} → Bool → A → Option A
only true a = Some a
only false a = None

-- The shapes that steps ask for.
unfoldable pub nothing : Process → Bool
nothing terminated = true
nothing (output subject objects p) = false
nothing (input subject count p) = false
nothing (choice p q) = false
nothing (parallel p q) = false
nothing (restriction sort p) = false
nothing (replication p) = false

unfoldable pub parts_of : Process → Option (Process × Process)
parts_of terminated = None
parts_of (output subject objects p) = None
parts_of (input subject count p) = None
parts_of (choice p q) = None
parts_of (parallel p q) = Some (p, q)
parts_of (restriction sort p) = None
parts_of (replication p) = None

unfoldable pub arms_of : Process → Option (Process × Process)
arms_of terminated = None
arms_of (output subject objects p) = None
arms_of (input subject count p) = None
arms_of (choice p q) = Some (p, q)
arms_of (parallel p q) = None
arms_of (restriction sort p) = None
arms_of (replication p) = None

unfoldable pub restricted_of : Process → Option (ℕ × Process)
restricted_of terminated = None
restricted_of (output subject objects p) = None
restricted_of (input subject count p) = None
restricted_of (choice p q) = None
restricted_of (parallel p q) = None
restricted_of (restriction sort p) = Some (sort, p)
restricted_of (replication p) = None

unfoldable pub replicated_of : Process → Option Process
replicated_of terminated = None
replicated_of (output subject objects p) = None
replicated_of (input subject count p) = None
replicated_of (choice p q) = None
replicated_of (parallel p q) = None
replicated_of (restriction sort p) = None
replicated_of (replication p) = Some p

unfoldable pub output_of : Process → Option (ℕ × List ℕ × Process)
output_of terminated = None
output_of (output subject objects p) = Some (subject, objects, p)
output_of (input subject count p) = None
output_of (choice p q) = None
output_of (parallel p q) = None
output_of (restriction sort p) = None
output_of (replication p) = None

unfoldable pub input_of : Process → Option (ℕ × ℕ × Process)
input_of terminated = None
input_of (output subject objects p) = None
input_of (input subject count p) = Some (subject, count, p)
input_of (choice p q) = None
input_of (parallel p q) = None
input_of (restriction sort p) = None
input_of (replication p) = None

-- the one that can act: the process itself, or the left arm of a choice
unfoldable pub actor : Process → Process
actor terminated = terminated
actor (output subject objects p) = output subject objects p
actor (input subject count p) = input subject count p
actor (choice p q) = p
actor (parallel p q) = parallel p q
actor (restriction sort p) = restriction sort p
actor (replication p) = replication p

unfoldable pub same_numbers : List ℕ → List ℕ → Bool
same_numbers [] [] = true
same_numbers [] (n ∷ ns) = false
same_numbers (m ∷ ms) [] = false
same_numbers (m ∷ ms) (n ∷ ns) = m == n && same_numbers ms ns

-- two processes are the same when they are written the same
unfoldable pub same_process : Process → Process → Bool
same_process p q = same_numbers (write p) (write q)

-- a law read left to right
unfoldable pub result_forth : Law → Process → Option Process
result_forth parallel_commutes t = and_then (parts_of t) (λ (p, q). Some (parallel q p))
result_forth parallel_regroups t = and_then (parts_of t) (λ (p, x). and_then (parts_of x) (λ (q, r). Some (parallel (parallel p q) r)))
result_forth parallel_with_nothing t = and_then (parts_of t) (λ (p, x). only (nothing x) p)
result_forth choice_commutes t = and_then (arms_of t) (λ (p, q). Some (choice q p))
result_forth choice_regroups t = and_then (arms_of t) (λ (p, x). and_then (arms_of x) (λ (q, r). Some (choice (choice p q) r)))
result_forth choice_with_nothing t = and_then (arms_of t) (λ (p, x). only (nothing x) p)
result_forth restrictions_trade_places t = and_then (restricted_of t) (λ (s, x). and_then (restricted_of x) (λ (u, p). Some (restriction u (restriction s (exchanged p)))))
result_forth restriction_of_nothing t = and_then (restricted_of t) (λ (s, x). only (nothing x) terminated)
result_forth replication_unfolds t = and_then (replicated_of t) (λ p. Some (parallel p t))
result_forth scope_extrudes t = and_then (parts_of t) (λ (p, x). and_then (restricted_of x) (λ (s, q). Some (restriction s (parallel (raised p) q))))

-- a law read right to left, where nothing is told
unfoldable pub result_back : Law → Process → Option Process
result_back parallel_commutes t = and_then (parts_of t) (λ (q, p). Some (parallel p q))
result_back parallel_regroups t = and_then (parts_of t) (λ (x, r). and_then (parts_of x) (λ (p, q). Some (parallel p (parallel q r))))
result_back parallel_with_nothing t = Some (parallel t terminated)
result_back choice_commutes t = and_then (arms_of t) (λ (q, p). Some (choice p q))
result_back choice_regroups t = and_then (arms_of t) (λ (x, r). and_then (arms_of x) (λ (p, q). Some (choice p (choice q r))))
result_back choice_with_nothing t = Some (choice t terminated)
result_back restrictions_trade_places t = and_then (restricted_of t) (λ (u, x). and_then (restricted_of x) (λ (s, p). Some (restriction s (restriction u (exchanged p)))))
result_back restriction_of_nothing t = None
result_back replication_unfolds t = and_then (parts_of t) (λ (p, x). and_then (replicated_of x) (λ q. only (same_process p q) x))
result_back scope_extrudes t = and_then (restricted_of t) (λ (s, x). and_then (parts_of x) (λ (p, q). cond (free 0 p) None (Some (parallel (lowered p) (restriction s q)))))

-- and where a sort is told: only the restriction of nothing takes one
unfoldable pub result_back_told : Law → ℕ → Process → Option Process
result_back_told parallel_commutes s t = None
result_back_told parallel_regroups s t = None
result_back_told parallel_with_nothing s t = None
result_back_told choice_commutes s t = None
result_back_told choice_regroups s t = None
result_back_told choice_with_nothing s t = None
result_back_told restrictions_trade_places s t = None
result_back_told restriction_of_nothing s t = only (nothing t) (restriction s terminated)
result_back_told replication_unfolds s t = None
result_back_told scope_extrudes s t = None

unfoldable pub applied : Law → Direction → Process → Option Process
applied law forth t = result_forth law t
applied law (back None) t = result_back law t
applied law (back (Some sort)) t = result_back_told law sort t

-- one communication of the two parts of a parallel
unfoldable pub communicated : Process → Option Process
communicated t =
    and_then (parts_of t) (λ (a, b).
    and_then (output_of (actor a)) (λ (subject, objects, p).
    and_then (input_of (actor b)) (λ (other, count, q).
    only (other == subject && count == length objects) (parallel p (sent objects q)))))

-- below one more node: the context found there gets the node above it
unfoldable pub below : (Context → Context) → Option (Context × Process) → Option (Context × Process)
below above found = and_then found (λ (c, p). Some (above c, p))

-- the node at a place of the writing, with its context
unfoldable pub node_at : ℕ → Process → Option (Context × Process)
node_at zero t = Some (hole, t)
node_at (suc n) terminated = None
node_at (suc n) (output subject objects p) = cond (nat_lt n (2 + length objects)) None (below (below_output subject objects) (node_at (n - (2 + length objects)) p))
node_at (suc n) (input subject count p) = cond (nat_lt n 2) None (below (below_input subject count) (node_at (n - 2) p))
node_at (suc n) (choice p q) = cond (nat_lt n (length (write p))) (below (λ c. in_left_arm c q) (node_at n p)) (below (in_right_arm p) (node_at (n - length (write p)) q))
node_at (suc n) (parallel p q) = cond (nat_lt n (length (write p))) (below (λ c. in_left_part c q) (node_at n p)) (below (in_right_part p) (node_at (n - length (write p)) q))
node_at (suc n) (restriction sort p) = cond (nat_lt n 1) None (below (below_restriction sort) (node_at (n - 1) p))
node_at (suc n) (replication p) = below below_replication (node_at n p)

-- what a label makes of a process
unfoldable pub played : Label → Process → Option Process
played (law_at law direction n) t = and_then (node_at n t) (λ (c, p). and_then (applied law direction p) (λ q. Some (fill c q)))
played (communication_at n) t = and_then (node_at n t) (λ (c, p). cond (active c) (and_then (communicated p) (λ q. Some (fill c q))) None)

-- and a list of labels
unfoldable pub played_all : List Label → Process → Option Process
played_all [] t = Some t
played_all (label ∷ labels) t = and_then (played label t) (played_all labels)
