-- Reading as a function. Nothing here has to be believed: the contract of `read` says of trees and what they are written
-- as which bytes are a term and where others go wrong.
use Rattle.std.specs.Prelude.{◌≡◌, ℕ, zero, suc, ◌-◌, Bool, true, cond, List, [], ◌∷◌, length, take, drop, is_ok, Some, None, Ok, Err, Option, Result, nat_lt}
use Rattle.std.specs.Borrow.{Bor}
use Rattle.calculus.specs.Trees.{Process, terminated, write}
use Rattle.refusal.specs.declared.Fault.{Fault}
use Rattle.refusal.specs.declared.Refusal.TheVariants.{TermTooLong, NotOneTerm}
use Rattle.refusal.specs.Writes.{fault}
use Rattle.terms.specs.declared.head.Head.{Head}
use Rattle.terms.specs.declared.head.Parts.{Parts}
use Rattle.terms.specs.declared.head.Parts.TheVariants.{Zero, One, Two}
use Rattle.terms.specs.Heads.{built, size_of, parts_of, head_of, objects_in}
use Rattle.terms.specs.Fitting.{are_bytes}

-- what stands at the start of bytes: a process and the bytes after it, or no process and the bytes from the first that
-- cannot stand
pub data Scanned : Type 0 where
  whole : Process → List ℕ → Scanned
  stuck : List ℕ → Scanned

-- a process below a node
unfoldable pub wrapped : (Process → Process) → Scanned → Scanned
wrapped node (whole p ns) = whole (node p) ns
wrapped node (stuck ns) = stuck ns

-- a second process, after the first
unfoldable pub secondly : (List ℕ → Scanned) → (Process → Process → Process) → Scanned → Scanned
secondly go node (whole p ns) = wrapped (node p) (go ns)
secondly go node (stuck ns) = stuck ns

-- the parts of a node, one after the other
unfoldable pub grown : (List ℕ → Scanned) → (Process → Process → Process) → Parts → List ℕ → Scanned
grown go node Zero ns = whole (node terminated terminated) ns
grown go node One ns = wrapped (λ p. node p terminated) (go ns)
grown go node Two ns = secondly go node (go ns)

-- one node
unfoldable pub onward : (List ℕ → Scanned) → List ℕ → Result Head ℕ → Scanned
onward go ns (Ok head) = grown go (built head (objects_in head ns)) (parts_of head) (drop (size_of head) ns)
onward go ns (Err place) = stuck (drop place ns)

-- node by node, as deep as the first number allows
unfoldable pub scan_with : ℕ → List ℕ → Scanned
scan_with zero ns = stuck ns
scan_with (suc deep) ns = onward (scan_with deep) ns (head_of ns)

-- as deep as the bytes can go
unfoldable pub scan : List ℕ → Scanned
scan ns = scan_with (suc (length ns)) ns

-- the process alone, or the place where bytes go wrong
unfoldable pub alone : List ℕ → Scanned → Result Process Fault
alone bytes (whole p []) = Ok p
alone bytes (whole p (n ∷ ns)) = Err (fault NotOneTerm (length bytes - length (n ∷ ns)))
alone bytes (stuck ns) = Err (fault NotOneTerm (length bytes - length ns))

-- the term that bytes are, or the fault for which they are declined (numbers past 255 never come from bytes)
unfoldable pub reading : List ℕ → Result Process Fault
reading bytes = cond (nat_lt 4096 (length bytes)) (Err (fault TermTooLong 0)) (cond (are_bytes bytes) (alone bytes (scan bytes)) (Err (fault NotOneTerm 0)))

unfoldable pub is_term : List ℕ → Bool
is_term bytes = is_ok (reading bytes)

unfoldable pub process_in : Scanned → Process
process_in (whole p ns) = p
process_in (stuck ns) = terminated

-- the tree of a term's bytes; of other bytes, some tree
unfoldable pub tree_of : List ℕ → Process
tree_of bytes = process_in (scan bytes)

-- the bytes after a process, or from the first that cannot stand
unfoldable pub rest_of : Scanned → Result (List ℕ) (List ℕ)
rest_of (whole p ns) = Ok ns
rest_of (stuck ns) = Err ns

-- the length of the process, where there is one
unfoldable pub size_in : Scanned → Option ℕ
size_in (whole p ns) = Some (length (write p))
size_in (stuck ns) = None

-- two terms, one after the other
abbrev pub AreTwo : List ℕ → Type 0
AreTwo ns = (n : ℕ) × (Some n ≡ size_in (scan ns)) × (is_term (take n ns) ≡ true) × (is_term (drop n ns) ≡ true)

-- the bytes that an answer points to
unfoldable pub seen : Result (Bor (List ℕ)) (Bor (List ℕ)) → Result (List ℕ) (List ℕ)
seen (Ok ns) = Ok ns.now
seen (Err ns) = Err ns.now
