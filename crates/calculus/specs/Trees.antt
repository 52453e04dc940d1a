-- Processes as trees, and the numbers that write them.
use Rattle.std.specs.Prelude.{ℕ, List, [], ◌∷◌, ◌++◌, length}

-- pointers, counts and sorts are natural numbers of any size
pub data Process : Type 0 where
  terminated : Process
  -- subject, objects, continuation
  output : ℕ → List ℕ → Process → Process
  -- subject, how many names it binds, continuation
  input : ℕ → ℕ → Process → Process
  choice : Process → Process → Process
  parallel : Process → Process → Process
  -- the sort of the name that it binds, body
  restriction : ℕ → Process → Process
  replication : Process → Process

-- node by node, each node before its parts
unfoldable pub write : Process → List ℕ
write terminated = 0 ∷ []
write (output subject objects p) = 1 ∷ subject ∷ length objects ∷ (objects ++ write p)
write (input subject count p) = 2 ∷ subject ∷ count ∷ write p
write (choice p q) = 3 ∷ (write p ++ write q)
write (parallel p q) = 4 ∷ (write p ++ write q)
write (restriction sort p) = 5 ∷ sort ∷ write p
write (replication p) = 6 ∷ write p
