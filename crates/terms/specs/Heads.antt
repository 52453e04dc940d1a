-- The head of a node: its tag and what stands before its parts.
use Rattle.std.specs.Prelude.{◌≡◌, ℕ, zero, suc, ◌+◌, ◌≤◌, Bool, true, false, cond, List, [], ◌∷◌, ◌++◌, map, length, take, drop, Ok, Err, Result, nat_lt}
use Rattle.calculus.specs.Trees.{Process}
use Rattle.calculus.specs.Trees as trees
use Rattle.terms.specs.declared.head.Head.{Head}
use Rattle.terms.specs.declared.head.Head.TheVariants.{Terminated, Output, Input, Choice, Parallel, Restriction, Replication}
use Rattle.terms.specs.declared.head.Parts.{Parts}
use Rattle.terms.specs.declared.head.Parts.TheVariants.{Zero, One, Two}

-- the process with that head, those objects and those parts; a head leaves aside what it has no use for
unfoldable pub built : Head → List ℕ → Process → Process → Process
built Terminated objects p q = trees.terminated
built (Output subject count) objects p q = trees.output subject objects p
built (Input subject count) objects p q = trees.input subject count p
built Choice objects p q = trees.choice p q
built Parallel objects p q = trees.parallel p q
built (Restriction sort) objects p q = trees.restriction sort p
built Replication objects p q = trees.replication p

-- how many bytes it takes, with its objects
abbrev pub size_of : Head → ℕ
size_of Terminated = 1
size_of (Output subject count) = 3 + count
size_of (Input subject count) = 3
size_of Choice = 1
size_of Parallel = 1
size_of (Restriction sort) = 2
size_of Replication = 1

-- how many of them are subjects (the byte after the tag), and how many are objects (its last bytes)
abbrev pub subjects_of : Head → ℕ
subjects_of Terminated = 0
subjects_of (Output subject count) = 1
subjects_of (Input subject count) = 1
subjects_of Choice = 0
subjects_of Parallel = 0
subjects_of (Restriction sort) = 0
subjects_of Replication = 0

abbrev pub objects_of : Head → ℕ
objects_of Terminated = 0
objects_of (Output subject count) = count
objects_of (Input subject count) = 0
objects_of Choice = 0
objects_of Parallel = 0
objects_of (Restriction sort) = 0
objects_of Replication = 0

-- the subject itself, in a list
unfoldable pub subject_in : Head → List ℕ
subject_in Terminated = []
subject_in (Output subject count) = subject ∷ []
subject_in (Input subject count) = subject ∷ []
subject_in Choice = []
subject_in Parallel = []
subject_in (Restriction sort) = []
subject_in Replication = []

-- how many names it binds in its parts
abbrev pub binds_of : Head → ℕ
binds_of Terminated = 0
binds_of (Output subject count) = 0
binds_of (Input subject count) = count
binds_of Choice = 0
binds_of Parallel = 0
binds_of (Restriction sort) = 1
binds_of Replication = 0

-- whether a part below it is active where it is
abbrev pub active_below : Head → Bool
active_below Terminated = false
active_below (Output subject count) = false
active_below (Input subject count) = false
active_below Choice = false
active_below Parallel = true
active_below (Restriction sort) = true
active_below Replication = false

abbrev pub parts_of : Head → Parts
parts_of Terminated = Zero
parts_of (Output subject count) = One
parts_of (Input subject count) = One
parts_of Choice = Two
parts_of Parallel = Two
parts_of (Restriction sort) = One
parts_of Replication = One

-- after the tag of an output, with count at most 8 and as many objects
unfoldable pub output_head : List ℕ → Result Head ℕ
output_head [] = Err 1
output_head (subject ∷ []) = Err 2
output_head (subject ∷ count ∷ ns) = cond (nat_lt 8 count) (Err 2) (cond (nat_lt (length ns) count) (Err (3 + length ns)) (Ok (Output subject count)))

-- after the tag of an input
unfoldable pub input_head : List ℕ → Result Head ℕ
input_head [] = Err 1
input_head (subject ∷ []) = Err 2
input_head (subject ∷ count ∷ ns) = cond (nat_lt 8 count) (Err 2) (Ok (Input subject count))

-- after the tag of a restriction
unfoldable pub restriction_head : List ℕ → Result Head ℕ
restriction_head [] = Err 1
restriction_head (sort ∷ ns) = Ok (Restriction sort)

-- the head at the start of bytes, or the place of the first byte that cannot stand in one
unfoldable pub head_of : List ℕ → Result Head ℕ
head_of [] = Err 0
head_of (zero ∷ ns) = Ok Terminated
head_of (suc zero ∷ ns) = output_head ns
head_of (suc (suc zero) ∷ ns) = input_head ns
head_of (suc (suc (suc zero)) ∷ ns) = Ok Choice
head_of (suc (suc (suc (suc zero))) ∷ ns) = Ok Parallel
head_of (suc (suc (suc (suc (suc zero)))) ∷ ns) = restriction_head ns
head_of (suc (suc (suc (suc (suc (suc zero))))) ∷ ns) = Ok Replication
head_of (suc (suc (suc (suc (suc (suc (suc n)))))) ∷ ns) = Err 0

-- the objects of a head at the start of bytes
unfoldable pub objects_in : Head → List ℕ → List ℕ
objects_in Terminated ns = []
objects_in (Output subject count) ns = take count (drop 3 ns)
objects_in (Input subject count) ns = []
objects_in Choice ns = []
objects_in Parallel ns = []
objects_in (Restriction sort) ns = []
objects_in Replication ns = []

-- a head as it is written, with its objects
abbrev pub front : Head → List ℕ → List ℕ
front Terminated objects = 0 ∷ []
front (Output subject count) objects = 1 ∷ subject ∷ count ∷ objects
front (Input subject count) objects = 2 ∷ subject ∷ count ∷ []
front Choice objects = 3 ∷ []
front Parallel objects = 4 ∷ []
front (Restriction sort) objects = 5 ∷ sort ∷ []
front Replication objects = 6 ∷ []

-- bytes that begin with a head as it is written, of a count of at most 8
abbrev pub OpensWith : Head → List ℕ → Type 0
OpensWith head ns =
    (ns ≡ front head (objects_in head ns) ++ drop (size_of head) ns) × (length (objects_in head ns) ≡ objects_of head) × (objects_of head ≤ 8) × (binds_of head ≤ 8)

-- a head with its subject renamed
unfoldable pub renamed_head : (ℕ → ℕ) → Head → Head
renamed_head f Terminated = Terminated
renamed_head f (Output s n) = Output (f s) n
renamed_head f (Input s n) = Input (f s) n
renamed_head f Choice = Choice
renamed_head f Parallel = Parallel
renamed_head f (Restriction s) = Restriction s
renamed_head f Replication = Replication

-- bytes that begin with a head, with its subject and its objects renamed
abbrev pub head_renamed : (ℕ → ℕ) → Head → List ℕ → List ℕ
head_renamed f head ns = front (renamed_head f head) (map f (objects_in head ns)) ++ drop (size_of head) ns
