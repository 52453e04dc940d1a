-- The definitions tried by evaluation, on terms as they are written: every law in both directions, communications,
-- what is no step, and the sorting question.
use Rattle.std.proofs.Common.{◌≡◌, ℕ, zero, suc, Bool, true, false, List, [], ◌∷◌, map, length, Some, None, Option, refl}
use Rattle.calculus.specs.Trees.{Process, write}
use Rattle.calculus.specs.Laws.{parallel_commutes, parallel_regroups, parallel_with_nothing, choice_commutes, choice_regroups, choice_with_nothing, restrictions_trade_places, restriction_of_nothing, replication_unfolds, scope_extrudes}
use Rattle.calculus.specs.Contexts.{Context}
use Rattle.calculus.specs.Steps.{forth, back, Label, law_at, communication_at}
use Rattle.calculus.specs.Sorts.{Sorting, sort_of, carried_by, is_sort, have_sorts, carries_so, respects}
use Rattle.calculus.specs.Playing.{and_then, node_at, played}
use Rattle.calculus.proofs.Written.{read_writing}
use Rattle.calculus.proofs.Sanity.{plays}

process : List ℕ → Process
process ns = (read_writing (length ns) ns).0

-- a label, a term, and what the label makes of it
abbrev Row : Type 0
Row = Label × List ℕ × Option (List ℕ)

-- law by law, forth and back
laws : List Row
laws =
    (law_at parallel_commutes forth 0, 4 ∷ 1 ∷ 0 ∷ 0 ∷ 0 ∷ 6 ∷ 0 ∷ [], Some (4 ∷ 6 ∷ 0 ∷ 1 ∷ 0 ∷ 0 ∷ 0 ∷ []))
    ∷ (law_at parallel_commutes (back None) 0, 4 ∷ 6 ∷ 0 ∷ 1 ∷ 0 ∷ 0 ∷ 0 ∷ [], Some (4 ∷ 1 ∷ 0 ∷ 0 ∷ 0 ∷ 6 ∷ 0 ∷ []))
    ∷ (law_at parallel_regroups forth 0, 4 ∷ 1 ∷ 0 ∷ 0 ∷ 0 ∷ 4 ∷ 6 ∷ 0 ∷ 0 ∷ [], Some (4 ∷ 4 ∷ 1 ∷ 0 ∷ 0 ∷ 0 ∷ 6 ∷ 0 ∷ 0 ∷ []))
    ∷ (law_at parallel_regroups (back None) 0, 4 ∷ 4 ∷ 1 ∷ 0 ∷ 0 ∷ 0 ∷ 6 ∷ 0 ∷ 0 ∷ [], Some (4 ∷ 1 ∷ 0 ∷ 0 ∷ 0 ∷ 4 ∷ 6 ∷ 0 ∷ 0 ∷ []))
    ∷ (law_at parallel_with_nothing forth 0, 4 ∷ 6 ∷ 0 ∷ 0 ∷ [], Some (6 ∷ 0 ∷ []))
    ∷ (law_at parallel_with_nothing (back None) 0, 6 ∷ 0 ∷ [], Some (4 ∷ 6 ∷ 0 ∷ 0 ∷ []))
    ∷ (law_at choice_commutes forth 0, 3 ∷ 1 ∷ 0 ∷ 0 ∷ 0 ∷ 2 ∷ 0 ∷ 0 ∷ 0 ∷ [], Some (3 ∷ 2 ∷ 0 ∷ 0 ∷ 0 ∷ 1 ∷ 0 ∷ 0 ∷ 0 ∷ []))
    ∷ (law_at choice_commutes (back None) 0, 3 ∷ 2 ∷ 0 ∷ 0 ∷ 0 ∷ 1 ∷ 0 ∷ 0 ∷ 0 ∷ [], Some (3 ∷ 1 ∷ 0 ∷ 0 ∷ 0 ∷ 2 ∷ 0 ∷ 0 ∷ 0 ∷ []))
    ∷ (law_at choice_regroups forth 0, 3 ∷ 1 ∷ 0 ∷ 0 ∷ 0 ∷ 3 ∷ 6 ∷ 0 ∷ 0 ∷ [], Some (3 ∷ 3 ∷ 1 ∷ 0 ∷ 0 ∷ 0 ∷ 6 ∷ 0 ∷ 0 ∷ []))
    ∷ (law_at choice_regroups (back None) 0, 3 ∷ 3 ∷ 1 ∷ 0 ∷ 0 ∷ 0 ∷ 6 ∷ 0 ∷ 0 ∷ [], Some (3 ∷ 1 ∷ 0 ∷ 0 ∷ 0 ∷ 3 ∷ 6 ∷ 0 ∷ 0 ∷ []))
    ∷ (law_at choice_with_nothing forth 0, 3 ∷ 6 ∷ 0 ∷ 0 ∷ [], Some (6 ∷ 0 ∷ []))
    ∷ (law_at choice_with_nothing (back None) 0, 6 ∷ 0 ∷ [], Some (3 ∷ 6 ∷ 0 ∷ 0 ∷ []))
    ∷ (law_at restrictions_trade_places forth 0, 5 ∷ 1 ∷ 5 ∷ 2 ∷ 1 ∷ 0 ∷ 1 ∷ 1 ∷ 0 ∷ [], Some (5 ∷ 2 ∷ 5 ∷ 1 ∷ 1 ∷ 1 ∷ 1 ∷ 0 ∷ 0 ∷ []))
    ∷ (law_at restrictions_trade_places (back None) 0, 5 ∷ 2 ∷ 5 ∷ 1 ∷ 1 ∷ 1 ∷ 1 ∷ 0 ∷ 0 ∷ [], Some (5 ∷ 1 ∷ 5 ∷ 2 ∷ 1 ∷ 0 ∷ 1 ∷ 1 ∷ 0 ∷ []))
    ∷ (law_at restriction_of_nothing forth 0, 5 ∷ 9 ∷ 0 ∷ [], Some (0 ∷ []))
    ∷ (law_at restriction_of_nothing (back (Some 9)) 0, 0 ∷ [], Some (5 ∷ 9 ∷ 0 ∷ []))
    ∷ (law_at replication_unfolds forth 0, 6 ∷ 0 ∷ [], Some (4 ∷ 0 ∷ 6 ∷ 0 ∷ []))
    ∷ (law_at replication_unfolds (back None) 0, 4 ∷ 0 ∷ 6 ∷ 0 ∷ [], Some (6 ∷ 0 ∷ []))
    ∷ (law_at scope_extrudes forth 0, 4 ∷ 1 ∷ 0 ∷ 0 ∷ 0 ∷ 5 ∷ 3 ∷ 2 ∷ 0 ∷ 0 ∷ 0 ∷ [], Some (5 ∷ 3 ∷ 4 ∷ 1 ∷ 1 ∷ 0 ∷ 0 ∷ 2 ∷ 0 ∷ 0 ∷ 0 ∷ []))
    ∷ (law_at scope_extrudes (back None) 0, 5 ∷ 3 ∷ 4 ∷ 1 ∷ 1 ∷ 0 ∷ 0 ∷ 2 ∷ 0 ∷ 0 ∷ 0 ∷ [], Some (4 ∷ 1 ∷ 0 ∷ 0 ∷ 0 ∷ 5 ∷ 3 ∷ 2 ∷ 0 ∷ 0 ∷ 0 ∷ []))
    ∷ []

-- pointers below binders: x(u).ūx raised, and two restrictions over an input traded
depths : List Row
depths =
    (law_at scope_extrudes forth 0, 4 ∷ 2 ∷ 0 ∷ 1 ∷ 1 ∷ 0 ∷ 1 ∷ 1 ∷ 0 ∷ 5 ∷ 7 ∷ 0 ∷ [], Some (5 ∷ 7 ∷ 4 ∷ 2 ∷ 1 ∷ 1 ∷ 1 ∷ 0 ∷ 1 ∷ 2 ∷ 0 ∷ 0 ∷ []))
    ∷ (law_at restrictions_trade_places forth 0, 5 ∷ 1 ∷ 5 ∷ 2 ∷ 2 ∷ 0 ∷ 2 ∷ 1 ∷ 2 ∷ 3 ∷ 0 ∷ 3 ∷ 4 ∷ 0 ∷ [], Some (5 ∷ 2 ∷ 5 ∷ 1 ∷ 2 ∷ 1 ∷ 2 ∷ 1 ∷ 3 ∷ 3 ∷ 0 ∷ 2 ∷ 4 ∷ 0 ∷ []))
    ∷ []

-- communications: alone, below a restriction, from the left arms of two choices, with an object that goes below a
-- binder, with two objects
communicating : List Row
communicating =
    (communication_at 0, 4 ∷ 1 ∷ 0 ∷ 1 ∷ 1 ∷ 0 ∷ 2 ∷ 0 ∷ 1 ∷ 0 ∷ [], Some (4 ∷ 0 ∷ 0 ∷ []))
    ∷ (communication_at 2, 5 ∷ 7 ∷ 4 ∷ 1 ∷ 0 ∷ 1 ∷ 1 ∷ 0 ∷ 2 ∷ 0 ∷ 1 ∷ 0 ∷ [], Some (5 ∷ 7 ∷ 4 ∷ 0 ∷ 0 ∷ []))
    ∷ (communication_at 0, 4 ∷ 3 ∷ 1 ∷ 0 ∷ 0 ∷ 0 ∷ 6 ∷ 0 ∷ 3 ∷ 2 ∷ 0 ∷ 0 ∷ 6 ∷ 0 ∷ 0 ∷ [], Some (4 ∷ 0 ∷ 6 ∷ 0 ∷ []))
    ∷ (communication_at 0, 4 ∷ 1 ∷ 0 ∷ 1 ∷ 1 ∷ 0 ∷ 2 ∷ 0 ∷ 1 ∷ 5 ∷ 7 ∷ 1 ∷ 1 ∷ 0 ∷ 0 ∷ [], Some (4 ∷ 0 ∷ 5 ∷ 7 ∷ 1 ∷ 2 ∷ 0 ∷ 0 ∷ []))
    ∷ (communication_at 0, 4 ∷ 1 ∷ 0 ∷ 2 ∷ 8 ∷ 9 ∷ 0 ∷ 2 ∷ 0 ∷ 2 ∷ 1 ∷ 1 ∷ 2 ∷ 0 ∷ 2 ∷ 0 ∷ [], Some (4 ∷ 0 ∷ 1 ∷ 9 ∷ 2 ∷ 8 ∷ 0 ∷ 0 ∷ []))
    ∷ []

-- no steps: the name is in use; copies differ; a sort too many, or none; subjects or counts differ; the input is on the
-- left; the output is a right arm; below a prefix, a choice, a replication; no node there
declined : List Row
declined =
    (law_at scope_extrudes (back None) 0, 5 ∷ 3 ∷ 4 ∷ 1 ∷ 0 ∷ 0 ∷ 0 ∷ 0 ∷ [], None)
    ∷ (law_at replication_unfolds (back None) 0, 4 ∷ 1 ∷ 0 ∷ 0 ∷ 0 ∷ 6 ∷ 1 ∷ 1 ∷ 0 ∷ 0 ∷ [], None)
    ∷ (law_at parallel_commutes (back (Some 0)) 0, 4 ∷ 0 ∷ 0 ∷ [], None)
    ∷ (law_at restriction_of_nothing (back None) 0, 0 ∷ [], None)
    ∷ (communication_at 0, 4 ∷ 1 ∷ 0 ∷ 1 ∷ 1 ∷ 0 ∷ 2 ∷ 3 ∷ 1 ∷ 0 ∷ [], None)
    ∷ (communication_at 0, 4 ∷ 1 ∷ 0 ∷ 1 ∷ 1 ∷ 0 ∷ 2 ∷ 0 ∷ 0 ∷ 0 ∷ [], None)
    ∷ (communication_at 0, 4 ∷ 2 ∷ 0 ∷ 1 ∷ 0 ∷ 1 ∷ 0 ∷ 1 ∷ 1 ∷ 0 ∷ [], None)
    ∷ (communication_at 0, 4 ∷ 3 ∷ 0 ∷ 1 ∷ 0 ∷ 0 ∷ 0 ∷ 2 ∷ 0 ∷ 0 ∷ 0 ∷ [], None)
    ∷ (communication_at 3, 1 ∷ 5 ∷ 0 ∷ 4 ∷ 1 ∷ 0 ∷ 1 ∷ 1 ∷ 0 ∷ 2 ∷ 0 ∷ 1 ∷ 0 ∷ [], None)
    ∷ (communication_at 1, 3 ∷ 4 ∷ 1 ∷ 0 ∷ 0 ∷ 0 ∷ 2 ∷ 0 ∷ 0 ∷ 0 ∷ 0 ∷ [], None)
    ∷ (communication_at 1, 6 ∷ 4 ∷ 1 ∷ 0 ∷ 0 ∷ 0 ∷ 2 ∷ 0 ∷ 0 ∷ 0 ∷ [], None)
    ∷ (communication_at 2, 4 ∷ 1 ∷ 0 ∷ 1 ∷ 1 ∷ 0 ∷ 2 ∷ 0 ∷ 1 ∷ 0 ∷ [], None)
    ∷ []

found : Row → List ℕ × Option (List ℕ)
found r = (write (process r.1), and_then (played r.0 (process r.1)) (λ q. Some (write q)))

told : Row → List ℕ × Option (List ℕ)
told r = (r.1, r.2)

-- every term is one, and every label makes of it what the table says
check_laws : map found laws ≡ map told laws
unfolding laws found told process read_writing plays
check_laws = refl

check_depths : map found depths ≡ map told depths
unfolding depths found told process read_writing plays
check_depths = refl

check_communicating : map found communicating ≡ map told communicating
unfolding communicating found told process read_writing plays
check_communicating = refl

check_declined : map found declined ≡ map told declined
unfolding declined found told process read_writing plays
check_declined = refl

-- where the nodes of a term begin
is_node : Option (Context × Process) → Bool
is_node None = false
is_node (Some found) = true

nodes_of : List ℕ → List Bool
nodes_of ns = map (λ n. is_node (node_at n (process ns))) (0 ∷ 1 ∷ 2 ∷ 3 ∷ 4 ∷ 5 ∷ 6 ∷ 7 ∷ 8 ∷ 9 ∷ 10 ∷ [])

check_nodes : nodes_of (4 ∷ 1 ∷ 0 ∷ 1 ∷ 1 ∷ 0 ∷ 2 ∷ 0 ∷ 1 ∷ 0 ∷ []) ≡ true ∷ true ∷ false ∷ false ∷ false ∷ true ∷ true ∷ false ∷ false ∷ true ∷ false ∷ []
unfolding nodes_of is_node process read_writing plays
check_nodes = refl

-- a sorting in which sort 0 carries one 0 and all others nothing; sort 3 carries two
simple : Sorting
simple zero = Some (0 ∷ [])
simple (suc zero) = None
simple (suc (suc zero)) = None
simple (suc (suc (suc n))) = Some (0 ∷ 1 ∷ [])

asked : List (List ℕ × List ℕ × Bool)
asked =
    (0 ∷ 0 ∷ [], 4 ∷ 1 ∷ 0 ∷ 1 ∷ 1 ∷ 0 ∷ 2 ∷ 0 ∷ 1 ∷ 0 ∷ [], true)
    ∷ (0 ∷ [], 4 ∷ 1 ∷ 0 ∷ 1 ∷ 1 ∷ 0 ∷ 2 ∷ 0 ∷ 1 ∷ 0 ∷ [], false)
    ∷ ([], 5 ∷ 3 ∷ 2 ∷ 0 ∷ 2 ∷ 1 ∷ 0 ∷ 1 ∷ 0 ∷ 0 ∷ [], true)
    ∷ ([], 5 ∷ 3 ∷ 2 ∷ 0 ∷ 2 ∷ 1 ∷ 0 ∷ 1 ∷ 1 ∷ 0 ∷ [], false)
    ∷ ([], 5 ∷ 3 ∷ 2 ∷ 0 ∷ 1 ∷ 0 ∷ [], false)
    ∷ (1 ∷ [], 2 ∷ 0 ∷ 0 ∷ 0 ∷ [], false)
    ∷ ([], 6 ∷ 0 ∷ [], true)
    ∷ []

check_asked : map (λ (a : List ℕ × List ℕ × Bool). respects simple a.0 (process a.1)) asked ≡ map (λ (a : List ℕ × List ℕ × Bool). a.2) asked
unfolding asked simple process read_writing respects carries_so carried_by have_sorts is_sort sort_of
check_asked = refl
