-- What the parts of an answer stand for.
use Rattle.std.specs.Prelude.{ℕ, List, length, Ok, Err, Result}
use Rattle.calculus.specs.Trees.{Process, terminated, output, input, choice, parallel, restriction, replication}
use Rattle.refusal.specs.declared.Fault.{Fault}
use Rattle.terms.specs.declared.term.Term.{Term}
use Rattle.terms.specs.declared.node.Node.{Node}
use Rattle.terms.specs.declared.node.Node.TheVariants.{Terminated, Output, Input, Choice, Parallel, Restriction, Replication}
use Rattle.terms.specs.Reading.{tree_of}

-- the bytes of a term, and its tree
abbrev pub bytes_of : Term → List ℕ
bytes_of term = term.bytes.now

abbrev pub tree : Term → Process
tree term = tree_of (bytes_of term)

-- whether reading accepts
unfoldable pub outcome_of : Result Process Fault → Result (Unit {0}) Fault
outcome_of (Ok p) = Ok tt
outcome_of (Err f) = Err f

-- the tree of the term that was read, or the fault
unfoldable pub read_as : Result Term Fault → Result Process Fault
read_as (Ok term) = Ok (tree term)
read_as (Err f) = Err f

-- the process of a node
unfoldable pub process_of : Node → Process
process_of Terminated = terminated
process_of (Output subject objects continuation) = output subject objects.now (tree continuation)
process_of (Input subject count continuation) = input subject count (tree continuation)
process_of (Choice left right) = choice (tree left) (tree right)
process_of (Parallel left right) = parallel (tree left) (tree right)
process_of (Restriction sort body) = restriction sort (tree body)
process_of (Replication body) = replication (tree body)

-- how many names it sends or binds as a prefix
unfoldable pub count_of : Node → ℕ
count_of Terminated = 0
count_of (Output subject objects continuation) = length objects.now
count_of (Input subject count continuation) = count
count_of (Choice left right) = 0
count_of (Parallel left right) = 0
count_of (Restriction sort body) = 0
count_of (Replication body) = 0
