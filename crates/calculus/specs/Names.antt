-- Names as pointers that count bound names outwards, and what is done to them.
use Rattle.std.specs.Prelude.{ℕ, suc, ◌+◌, ◌-◌, Bool, false, cond, ◌||◌, List, [], ◌∷◌, map, length, ◌==◌, nat_lt, slice_index}
use Rattle.calculus.specs.Trees.{Process, terminated, output, input, choice, parallel, restriction, replication}

-- Every pointer of a tree is put through a function of its depth and itself. The depth is the number of names bound
-- between the pointer and the top: an input adds its count, a restriction one.
unfoldable pub rename : (ℕ → ℕ → ℕ) → ℕ → Process → Process
rename f depth terminated = terminated
rename f depth (output subject objects p) = output (f depth subject) (map (f depth) objects) (rename f depth p)
rename f depth (input subject count p) = input (f depth subject) count (rename f (depth + count) p)
rename f depth (choice p q) = choice (rename f depth p) (rename f depth q)
rename f depth (parallel p q) = parallel (rename f depth p) (rename f depth q)
rename f depth (restriction sort p) = restriction sort (rename f (suc depth) p)
rename f depth (replication p) = replication (rename f depth p)

-- free pointers rise by one
unfoldable pub raise : ℕ → ℕ → ℕ
raise depth pointer = cond (nat_lt pointer depth) pointer (suc pointer)

-- free pointers fall by one
unfoldable pub lower : ℕ → ℕ → ℕ
lower depth pointer = cond (nat_lt pointer depth) pointer (pointer - 1)

-- the first two free pointers trade places
unfoldable pub exchange : ℕ → ℕ → ℕ
exchange depth pointer = cond (pointer == depth) (suc depth) (cond (pointer == suc depth) depth pointer)

-- the objects are put for as many of the first free pointers; those beyond fall by that number
unfoldable pub send : List ℕ → ℕ → ℕ → ℕ
send objects depth pointer =
    cond (nat_lt pointer depth) pointer (cond (nat_lt pointer (depth + length objects)) (slice_index objects (pointer - depth) + depth) (pointer - length objects))

unfoldable pub among : ℕ → List ℕ → Bool
among pointer [] = false
among pointer (o ∷ os) = o == pointer || among pointer os

-- whether a pointer, as the top counts it, occurs free: the same name is a larger pointer below what binds others
unfoldable pub free : ℕ → Process → Bool
free pointer terminated = false
free pointer (output subject objects p) = subject == pointer || (among pointer objects || free pointer p)
free pointer (input subject count p) = subject == pointer || free (pointer + count) p
free pointer (choice p q) = free pointer p || free pointer q
free pointer (parallel p q) = free pointer p || free pointer q
free pointer (restriction sort p) = free (suc pointer) p
free pointer (replication p) = free pointer p

abbrev pub raised : Process → Process
raised = rename raise 0

abbrev pub lowered : Process → Process
lowered = rename lower 0

abbrev pub exchanged : Process → Process
exchanged = rename exchange 0

-- the continuation of an input, with the objects for the names that the input bound
abbrev pub sent : List ℕ → Process → Process
sent objects = rename (send objects) 0
