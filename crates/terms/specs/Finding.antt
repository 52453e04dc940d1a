-- The node at an offset of a term, and what stands around it.
use Rattle.std.specs.Prelude.{◌≡◌, ℕ, suc, ◌+◌, ◌-◌, Bool, true, cond, ◌&&◌, List, ◌++◌, length, take, drop, Some, None, Option, ◌≢◌, nat_lt}
use Rattle.std.specs.declared.ops.ControlFlow.{ControlFlow}
use Rattle.std.specs.declared.ops.ControlFlow.TheVariants.{Continue, Break}
use Rattle.calculus.specs.Trees.{Process, write}
use Rattle.calculus.specs.Contexts.{Context, hole, below_output, below_input, in_left_arm, in_right_arm, in_left_part, in_right_part, below_restriction, below_replication, fill, before, after, place, active}
use Rattle.calculus.specs.Playing.{node_at}
use Rattle.terms.specs.Reading.{is_term}
use Rattle.terms.specs.declared.finding.Place.{Place}
use Rattle.terms.specs.declared.finding.Found.{Found}

-- how many names are bound above the hole: in the node there, the pointers below that number
unfoldable pub bound_above : Context → ℕ
bound_above hole = 0
bound_above (below_output subject objects c) = bound_above c
bound_above (below_input subject count c) = count + bound_above c
bound_above (in_left_arm c q) = bound_above c
bound_above (in_right_arm q c) = bound_above c
bound_above (in_left_part c q) = bound_above c
bound_above (in_right_part q c) = bound_above c
bound_above (below_restriction sort c) = suc (bound_above c)
bound_above (below_replication c) = bound_above c

-- a node in its context: its first byte, the end of its bytes, the names bound above it, and whether it is active
unfoldable pub place_of : Context → Process → Place
place_of c p = record { from = place c; end = place c + length (write p); bound = bound_above c; active = active c }

unfoldable pub placed : Option (Context × Process) → Option Place
placed None = None
placed (Some (c, p)) = Some (place_of c p)

-- What is found at an offset of a term: nothing, where no context has its hole there; else the place of the one node that has.
-- Then the bytes are what stands before it, its own, and what stands after it; with another node's bytes in the middle
-- they are the term with that node in its place.
abbrev pub StandsAt : Process → ℕ → Option Place → Type 0
StandsAt t offset None = (c : Context) (p : Process) → fill c p ≡ t → place c ≢ offset
StandsAt t offset (Some found) =
    (c : Context) × (p : Process) × (fill c p ≡ t) × (place c ≡ offset) × (found ≡ place_of c p)
    × (take found.from (write t) ≡ before c) × (drop found.end (write t) ≡ after c)
    × (take (found.end - found.from) (drop found.from (write t)) ≡ write p)
    × (write t ≡ before c ++ (write p ++ after c))
    × ((q : Process) → take found.from (write t) ++ (write q ++ drop found.end (write t)) ≡ write (fill c q))

-- the bytes of the node that is found are a term themselves
abbrev pub PartOf : List ℕ → Option Place → Type 0
PartOf bytes None = Unit {0}
PartOf bytes (Some found) = is_term (take (found.end - found.from) (drop found.from bytes)) ≡ true

-- the node that a walk comes to, if there is one, below so many names bound
unfoldable pub found_under : ℕ → Bool → Option (Context × Process) → Option Found
found_under bound open_above None = None
found_under bound open_above (Some (c, p)) = Some (record { size = length (write p); bound = bound + bound_above c; active = open_above && active c })

-- the walk breaks off with the node there, or with none, and goes on past a process that ends before the offset
unfoldable pub located_in : ℕ → ℕ → Bool → Process → ControlFlow (Option Found) ℕ
located_in offset bound open_above t = cond (nat_lt offset (length (write t))) (Break (found_under bound open_above (node_at offset t))) (Continue (length (write t)))
