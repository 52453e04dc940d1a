-- The definitions tried by evaluation: terms and bytes that are none, nodes at each offset, names.
use Rattle.std.proofs.Common.{◌≡◌, ℕ, Bool, true, false, List, [], ◌∷◌, map, Some, None, Ok, Err, Option, Result, refl}
use Rattle.calculus.specs.Trees.{Process, terminated, output, input, parallel, write}
use Rattle.calculus.specs.Contexts.{active, before}
use Rattle.calculus.specs.Names.{rename, raise, exchange, send}
use Rattle.calculus.specs.Playing.{and_then, below, node_at}
use Rattle.refusal.specs.declared.Fault.{Fault}
use Rattle.refusal.specs.declared.Refusal.TheVariants.{PointerOverflow, NotOneTerm}
use Rattle.refusal.specs.Writes.{fault}
use Rattle.terms.specs.declared.finding.Place.{Place}
use Rattle.terms.specs.Fitting.{are_bytes}
use Rattle.terms.specs.Finding.{bound_above, place_of, placed}
use Rattle.terms.specs.Heads.{built, output_head, input_head, restriction_head, head_of, objects_in}
use Rattle.terms.specs.Pointers.{renamed}
use Rattle.terms.specs.Reading.{wrapped, secondly, grown, onward, scan_with, scan, alone, reading, tree_of, process_in}

abbrev sample : List ℕ
sample = 4 ∷ 1 ∷ 0 ∷ 1 ∷ 1 ∷ 0 ∷ 2 ∷ 0 ∷ 1 ∷ 0 ∷ []

-- a term is read as its tree
sample_read : reading sample ≡ Ok (parallel (output 0 (1 ∷ []) terminated) (input 0 1 terminated))
unfolding wrapped secondly grown onward scan_with scan alone reading are_bytes built output_head input_head head_of objects_in
sample_read = refl

-- bytes, and the place where they go wrong
abbrev wrongs : List (List ℕ × ℕ)
wrongs =
    ([], 0) ∷ (7 ∷ [], 0) ∷ (1 ∷ [], 1) ∷ (1 ∷ 0 ∷ [], 2) ∷ (1 ∷ 0 ∷ 9 ∷ [], 2) ∷ (1 ∷ 0 ∷ 2 ∷ 9 ∷ [], 4) ∷ (1 ∷ 0 ∷ 1 ∷ 7 ∷ 7 ∷ [], 4) ∷ (2 ∷ [], 1)
    ∷ (2 ∷ 0 ∷ 9 ∷ 0 ∷ [], 2) ∷ (2 ∷ 0 ∷ 8 ∷ [], 3) ∷ (3 ∷ 0 ∷ 9 ∷ [], 2) ∷ (4 ∷ 0 ∷ [], 2) ∷ (5 ∷ [], 1) ∷ (5 ∷ 9 ∷ 9 ∷ [], 2) ∷ (6 ∷ [], 1) ∷ (0 ∷ 0 ∷ [], 1) ∷ (4 ∷ 0 ∷ 0 ∷ 0 ∷ [], 3) ∷ []

answers : List (Result Process Fault)
answers = map (λ (row : List ℕ × ℕ). reading row.0) wrongs

places : List (Result Process Fault)
places = map (λ (row : List ℕ × ℕ). Err (fault NotOneTerm row.1)) wrongs

wrong_where_told : answers ≡ places
unfolding answers places wrapped secondly grown onward scan_with scan alone reading are_bytes built output_head input_head restriction_head head_of objects_in
wrong_where_told = refl

-- nodes: first byte, end, names bound above, whether active
at : ℕ → ℕ → ℕ → Bool → Option Place
at from end bound active = Some (record { from = from; end = end; bound = bound; active = active })

sample_nodes : map (λ n. placed (node_at n (tree_of sample))) (0 ∷ 1 ∷ 2 ∷ 3 ∷ 4 ∷ 5 ∷ 6 ∷ 7 ∷ 8 ∷ 9 ∷ 10 ∷ [])
    ≡ at 0 10 0 true ∷ at 1 6 0 true ∷ None ∷ None ∷ None ∷ at 5 6 0 false ∷ at 6 10 0 true ∷ None ∷ None ∷ at 9 10 1 false ∷ None ∷ []
unfolding at placed place_of bound_above active before write node_at below and_then tree_of process_in wrapped secondly grown onward scan_with scan built output_head input_head head_of objects_in
sample_nodes = refl

-- names: one more than 255 is declined
abbrev renames : (ℕ → ℕ → ℕ) → List ℕ → Result (List ℕ) Fault
renames f ns = renamed f (tree_of ns)

renaming_rows :
    renames raise (2 ∷ 0 ∷ 1 ∷ 1 ∷ 0 ∷ 1 ∷ 1 ∷ 0 ∷ [])
    ∷ renames raise (1 ∷ 254 ∷ 0 ∷ 0 ∷ []) ∷ renames raise (1 ∷ 255 ∷ 0 ∷ 0 ∷ []) ∷ renames raise (5 ∷ 0 ∷ 1 ∷ 255 ∷ 0 ∷ 0 ∷ [])
    ∷ renames exchange (2 ∷ 0 ∷ 2 ∷ 1 ∷ 2 ∷ 3 ∷ 0 ∷ 3 ∷ 4 ∷ 0 ∷ []) ∷ renames (send (1 ∷ [])) (5 ∷ 7 ∷ 1 ∷ 1 ∷ 0 ∷ 0 ∷ []) ∷ renames (send (255 ∷ [])) (5 ∷ 7 ∷ 1 ∷ 1 ∷ 0 ∷ 0 ∷ []) ∷ []
    ≡ Ok (2 ∷ 1 ∷ 1 ∷ 1 ∷ 0 ∷ 1 ∷ 2 ∷ 0 ∷ [])
    ∷ Ok (1 ∷ 255 ∷ 0 ∷ 0 ∷ []) ∷ Err (fault PointerOverflow 0) ∷ Err (fault PointerOverflow 0)
    ∷ Ok (2 ∷ 1 ∷ 2 ∷ 1 ∷ 3 ∷ 3 ∷ 0 ∷ 2 ∷ 4 ∷ 0 ∷ []) ∷ Ok (5 ∷ 7 ∷ 1 ∷ 2 ∷ 0 ∷ 0 ∷ []) ∷ Err (fault PointerOverflow 0) ∷ []
unfolding renamed are_bytes rename raise exchange send write tree_of process_in wrapped secondly grown onward scan_with scan built output_head input_head restriction_head head_of objects_in
renaming_rows = refl
