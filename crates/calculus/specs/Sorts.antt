-- Sortings, and when a process respects one.
use Rattle.std.specs.Prelude.{ℕ, zero, suc, Bool, true, false, ◌&&◌, List, [], ◌∷◌, ◌++◌, length, Some, None, Option, ◌==◌}
use Rattle.calculus.specs.Trees.{Process, terminated, output, input, choice, parallel, restriction, replication}

-- a sort carries nothing, or a list of sorts
abbrev pub Sorting : Type 0
Sorting = ℕ → Option (List ℕ)

-- the sort of a pointer under a list of name sorts: none past the list
unfoldable pub sort_of : List ℕ → ℕ → Option ℕ
sort_of [] pointer = None
sort_of (s ∷ sorts) zero = Some s
sort_of (s ∷ sorts) (suc pointer) = sort_of sorts pointer

-- what a pointer's sort carries
unfoldable pub carried_by : Sorting → Option ℕ → Option (List ℕ)
carried_by sorting None = None
carried_by sorting (Some sort) = sorting sort

unfoldable pub is_sort : ℕ → Option ℕ → Bool
is_sort sort None = false
is_sort sort (Some other) = other == sort

-- as many objects as sorts, each object of the sort at its index
unfoldable pub have_sorts : List ℕ → List ℕ → List ℕ → Bool
have_sorts names [] [] = true
have_sorts names [] (s ∷ sorts) = false
have_sorts names (o ∷ objects) [] = false
have_sorts names (o ∷ objects) (s ∷ sorts) = is_sort s (sort_of names o) && have_sorts names objects sorts

-- a list is carried, and it passes the test
unfoldable pub carries_so : (List ℕ → Bool) → Option (List ℕ) → Bool
carries_so test None = false
carries_so test (Some carried) = test carried

-- Each subject's sort carries as many sorts as the prefix has names, an output's objects have those sorts, an input's
-- continuation is read with them in front of the list, and a restriction's body with its sort in front.
unfoldable pub respects : Sorting → List ℕ → Process → Bool
respects sorting names terminated = true
respects sorting names (output subject objects p) = carries_so (have_sorts names objects) (carried_by sorting (sort_of names subject)) && respects sorting names p
respects sorting names (input subject count p) = carries_so (λ carried. (length carried == count) && respects sorting (carried ++ names) p) (carried_by sorting (sort_of names subject))
respects sorting names (choice p q) = respects sorting names p && respects sorting names q
respects sorting names (parallel p q) = respects sorting names p && respects sorting names q
respects sorting names (restriction sort p) = respects sorting (sort ∷ names) p
respects sorting names (replication p) = respects sorting names p
