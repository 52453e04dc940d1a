-- Contexts: a process with a hole where one node, with its parts, stands.
use Rattle.std.specs.Prelude.{ℕ, Bool, true, false, List, [], ◌∷◌, ◌++◌, length}
use Rattle.calculus.specs.Trees.{Process, output, input, choice, parallel, restriction, replication, write}

pub data Context : Type 0 where
  hole : Context
  below_output : ℕ → List ℕ → Context → Context
  below_input : ℕ → ℕ → Context → Context
  in_left_arm : Context → Process → Context
  in_right_arm : Process → Context → Context
  in_left_part : Context → Process → Context
  in_right_part : Process → Context → Context
  below_restriction : ℕ → Context → Context
  below_replication : Context → Context

-- the process with that one in the hole
unfoldable pub fill : Context → Process → Process
fill hole p = p
fill (below_output subject objects c) p = output subject objects (fill c p)
fill (below_input subject count c) p = input subject count (fill c p)
fill (in_left_arm c q) p = choice (fill c p) q
fill (in_right_arm q c) p = choice q (fill c p)
fill (in_left_part c q) p = parallel (fill c p) q
fill (in_right_part q c) p = parallel q (fill c p)
fill (below_restriction sort c) p = restriction sort (fill c p)
fill (below_replication c) p = replication (fill c p)

-- what is written before the hole, and what after it
unfoldable pub before : Context → List ℕ
before hole = []
before (below_output subject objects c) = 1 ∷ subject ∷ length objects ∷ (objects ++ before c)
before (below_input subject count c) = 2 ∷ subject ∷ count ∷ before c
before (in_left_arm c q) = 3 ∷ before c
before (in_right_arm q c) = 3 ∷ (write q ++ before c)
before (in_left_part c q) = 4 ∷ before c
before (in_right_part q c) = 4 ∷ (write q ++ before c)
before (below_restriction sort c) = 5 ∷ sort ∷ before c
before (below_replication c) = 6 ∷ before c

unfoldable pub after : Context → List ℕ
after hole = []
after (below_output subject objects c) = after c
after (below_input subject count c) = after c
after (in_left_arm c q) = after c ++ write q
after (in_right_arm q c) = after c
after (in_left_part c q) = after c ++ write q
after (in_right_part q c) = after c
after (below_restriction sort c) = after c
after (below_replication c) = after c

-- the place of a node: how many numbers are written before it
abbrev pub place : Context → ℕ
place c = length (before c)

-- active: only parallel and restriction stand above the hole
unfoldable pub active : Context → Bool
active hole = true
active (below_output subject objects c) = false
active (below_input subject count c) = false
active (in_left_arm c q) = false
active (in_right_arm q c) = false
active (in_left_part c q) = active c
active (in_right_part q c) = active c
active (below_restriction sort c) = active c
active (below_replication c) = false
