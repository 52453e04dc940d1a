-- Pointers of a term: what tests and renamings make of them, node by node.
use Rattle.std.proofs.Common.{◌≡◌, ℕ, suc, ◌+◌, Bool, true, false, not, ◌&&◌, ◌||◌, eqb, ltb, leb, List, [], ◌∷◌, ◌++◌, map, length, sym, refl, ap, ◌∙◌, ap₂, add-zero, add-one, arith}
use Rattle.std.proofs.lemmas.List.{length-append, length-map, nil_from_length}
use Rattle.std.proofs.Math.Bool.{not-not, or_assoc}
use Rattle.std.proofs.lemmas.Bool.{and_parts}
use Rattle.std.proofs.lemmas.Bool.Decides.{nat_tests}
use Rattle.calculus.specs.Trees.{Process, terminated, output, input, choice, parallel, restriction, replication, write}
use Rattle.calculus.specs.Names.{rename, among, free}
use Rattle.terms.specs.declared.head.Head.{Head}
use Rattle.terms.specs.declared.head.Head.TheVariants.{Terminated, Output, Input, Choice, Parallel, Restriction, Replication}
use Rattle.terms.specs.declared.head.Parts.{Parts}
use Rattle.terms.specs.declared.head.Parts.TheVariants.{Zero, One, Two}
use Rattle.terms.specs.declared.names.Renaming.{Renaming}
use Rattle.terms.specs.Fitting.{counts_fit, are_bytes}
use Rattle.terms.specs.Heads.{built, size_of, objects_of, binds_of, parts_of, subject_in, renamed_head}
use Rattle.terms.specs.Pointers.{function_of, any_of, any_pointer, passes_255}
use Rattle.terms.proofs.Numbers.{bytes_append}

-- the pointer is the one that the top counts so
unfoldable pub is_counted : ℕ → ℕ → ℕ → Bool
is_counted top depth pointer = eqb pointer (top + depth)

-- A pointer that the top counts so is free where some pointer is that one at its depth.
among_any : (top d : ℕ) (os : List ℕ) → among (top + d) os ≡ any_of (is_counted top d) os
unfolding among any_of is_counted
among_any top d [] = refl
among_any top d (o ∷ os) = ap (◌||◌ (eqb o (top + d))) (among_any top d os)

pub free_at : (top d : ℕ) (t : Process) → free (top + d) t ≡ any_pointer (is_counted top) d t
unfolding free any_pointer is_counted
free_at top d terminated = refl
free_at top d (output s os p) = ap (◌||◌ (eqb s (top + d))) (ap₂ ◌||◌ (among_any top d os) (free_at top d p))
free_at top d (input s n p) =
    let sum : top + d + n ≡ top + (d + n) = omega arith in
    ap (◌||◌ (eqb s (top + d))) (ap (λ (k : ℕ). free k p) sum ∙ free_at top (d + n) p)
free_at top d (choice p q) = ap₂ ◌||◌ (free_at top d p) (free_at top d q)
free_at top d (parallel p q) = ap₂ ◌||◌ (free_at top d p) (free_at top d q)
free_at top d (restriction s p) =
    let sum : suc (top + d) ≡ top + suc d = omega arith in
    ap (λ (k : ℕ). free k p) sum ∙ free_at top (suc d) p
free_at top d (replication p) = free_at top d p

pub free_any : (top : ℕ) (t : Process) → free top t ≡ any_pointer (is_counted top) 0 t
free_any top t = ap (λ (k : ℕ). free k t) (sym (add-zero top)) ∙ free_at top 0 t

-- A renaming keeps the length and the counts.
pub length-renamed : (f : ℕ → ℕ → ℕ) (d : ℕ) (t : Process) → length (write (rename f d t)) ≡ length (write t)
unfolding rename write
length-renamed f d terminated = refl
length-renamed f d (output s os p) =
    let inner = length-renamed f d p in
    omega (arith, length-append (map (f d) os) (write (rename f d p)), length-append os (write p), length-map os (f d))
length-renamed f d (input s n p) = ap (λ (k : ℕ). suc (suc (suc k))) (length-renamed f (d + n) p)
length-renamed f d (choice p q) =
    let left = length-renamed f d p in
    let right = length-renamed f d q in
    omega (arith, length-append (write (rename f d p)) (write (rename f d q)), length-append (write p) (write q))
length-renamed f d (parallel p q) =
    let left = length-renamed f d p in
    let right = length-renamed f d q in
    omega (arith, length-append (write (rename f d p)) (write (rename f d q)), length-append (write p) (write q))
length-renamed f d (restriction s p) = ap (λ (k : ℕ). suc (suc k)) (length-renamed f (suc d) p)
length-renamed f d (replication p) = ap suc (length-renamed f d p)

pub counts_renamed : (f : ℕ → ℕ → ℕ) (d : ℕ) (t : Process) → counts_fit (rename f d t) ≡ counts_fit t
unfolding rename counts_fit
counts_renamed f d terminated = refl
counts_renamed f d (output s os p) = ap₂ (λ (k : ℕ) (b : Bool). leb k 8 && b) (length-map os (f d)) (counts_renamed f d p)
counts_renamed f d (input s n p) = ap (◌&&◌ (leb n 8)) (counts_renamed f (d + n) p)
counts_renamed f d (choice p q) = ap₂ ◌&&◌ (counts_renamed f d p) (counts_renamed f d q)
counts_renamed f d (parallel p q) = ap₂ ◌&&◌ (counts_renamed f d p) (counts_renamed f d q)
counts_renamed f d (restriction s p) = counts_renamed f (suc d) p
counts_renamed f d (replication p) = counts_renamed f d p

-- Tests on bytes, over lists that stand one after the other.
neither_not : (a b : Bool) → (not a && not b) ≡ not (a || b)
neither_not true b = refl
neither_not false b = refl

pub byte_not : (n : ℕ) → leb n 255 ≡ not (ltb 255 n)
byte_not n = grind (arith, nat_tests)

pub bytes_map : (f : ℕ → ℕ) (os : List ℕ) → are_bytes (map f os) ≡ not (any_of (λ p. ltb 255 (f p)) os)
unfolding are_bytes any_of
bytes_map f [] = refl
bytes_map f (o ∷ os) = ap₂ ◌&&◌ (byte_not (f o)) (bytes_map f os) ∙ neither_not (ltb 255 (f o)) (any_of (λ p. ltb 255 (f p)) os)

-- The bytes of a term, renamed, are bytes unless some pointer passes 255.
pub bytes_renamed : (f : ℕ → ℕ → ℕ) (d : ℕ) (t : Process) → are_bytes (write t) ≡ true → are_bytes (write (rename f d t)) ≡ not (any_pointer (λ e p. ltb 255 (f e p)) d t)
unfolding are_bytes write rename any_pointer
bytes_renamed f d terminated e = refl
bytes_renamed f d (output s os p) e =
    let (subject, rest) = and_parts (leb s 255) (leb (length os) 255 && are_bytes (os ++ write p)) e in
    let (count, last) = and_parts (leb (length os) 255) (are_bytes (os ++ write p)) rest in
    let (objects, inner) = and_parts (are_bytes os) (are_bytes (write p)) (sym (bytes_append os (write p)) ∙ last) in
    ap₂ ◌&&◌ (byte_not (f d s)) (ap₂ ◌&&◌ (ap (λ (k : ℕ). leb k 255) (length-map os (f d)) ∙ count)
    (bytes_append (map (f d) os) (write (rename f d p)) ∙ ap₂ ◌&&◌ (bytes_map (f d) os) (bytes_renamed f d p inner) ∙ neither_not (any_of (λ o. ltb 255 (f d o)) os) (any_pointer (λ x y. ltb 255 (f x y)) d p)))
    ∙ neither_not (ltb 255 (f d s)) (any_of (λ o. ltb 255 (f d o)) os || any_pointer (λ x y. ltb 255 (f x y)) d p)
bytes_renamed f d (input s n p) e =
    let (subject, rest) = and_parts (leb s 255) (leb n 255 && are_bytes (write p)) e in
    let (count, inner) = and_parts (leb n 255) (are_bytes (write p)) rest in
    ap₂ ◌&&◌ (byte_not (f d s)) (ap₂ ◌&&◌ count (bytes_renamed f (d + n) p inner)) ∙ neither_not (ltb 255 (f d s)) (any_pointer (λ x y. ltb 255 (f x y)) (d + n) p)
bytes_renamed f d (choice p q) e =
    let (left, right) = and_parts (are_bytes (write p)) (are_bytes (write q)) (sym (bytes_append (write p) (write q)) ∙ e) in
    bytes_append (write (rename f d p)) (write (rename f d q)) ∙ ap₂ ◌&&◌ (bytes_renamed f d p left) (bytes_renamed f d q right)
    ∙ neither_not (any_pointer (λ x y. ltb 255 (f x y)) d p) (any_pointer (λ x y. ltb 255 (f x y)) d q)
bytes_renamed f d (parallel p q) e =
    let (left, right) = and_parts (are_bytes (write p)) (are_bytes (write q)) (sym (bytes_append (write p) (write q)) ∙ e) in
    bytes_append (write (rename f d p)) (write (rename f d q)) ∙ ap₂ ◌&&◌ (bytes_renamed f d p left) (bytes_renamed f d q right)
    ∙ neither_not (any_pointer (λ x y. ltb 255 (f x y)) d p) (any_pointer (λ x y. ltb 255 (f x y)) d q)
bytes_renamed f d (restriction s p) e =
    let (sort, inner) = and_parts (leb s 255) (are_bytes (write p)) e in
    ap₂ ◌&&◌ sort (bytes_renamed f (suc d) p inner)
bytes_renamed f d (replication p) e = bytes_renamed f d p e

pub overflow_any : (r : Renaming) (t : Process) → are_bytes (write t) ≡ true → any_pointer (passes_255 r) 0 t ≡ not (are_bytes (write (rename (function_of r) 0 t)))
unfolding passes_255
overflow_any r t e = sym (ap not (bytes_renamed (function_of r) 0 t e) ∙ not-not (any_pointer (passes_255 r) 0 t))

-- how many parts is told apart
pub zero_one : {A : Type 0} → ◌≡◌ {A = Parts} Zero One → A
zero_one e = let z : ◌≡◌ {A = ℕ} 0 1 = cc in absurd (omega arith)

pub zero_two : {A : Type 0} → ◌≡◌ {A = Parts} Zero Two → A
zero_two e = let z : ◌≡◌ {A = ℕ} 0 1 = cc in absurd (omega arith)

pub one_two : {A : Type 0} → ◌≡◌ {A = Parts} One Two → A
one_two e = let z : ◌≡◌ {A = ℕ} 0 1 = cc in absurd (omega arith)

-- without objects, none passes a test
pub any_none : (test : ℕ → Bool) (os : List ℕ) → length os ≡ 0 → any_of test os ≡ false
unfolding any_of
any_none test os e = ap (any_of test) (nil_from_length os e)

pub any_alone : (test : ℕ → Bool) (s : ℕ) → any_of test (s ∷ []) ≡ test s
unfolding any_of
any_alone test s = go (test s)
  where
    go : (b : Bool) → (b || false) ≡ b
    go true = refl
    go false = refl

-- The pointers of a node: its subject, its objects, and those of its parts.
abbrev pub any_part : Parts → Bool → Bool → Bool
any_part Zero first second = false
any_part One first second = first
any_part Two first second = first || second

pub any_built : (test : ℕ → ℕ → Bool) (d : ℕ) (h : Head) (os : List ℕ) (p q : Process) → length os ≡ objects_of h →
    any_pointer test d (built h os p q)
    ≡ ((any_of (test d) (subject_in h) || any_of (test d) os) || any_part (parts_of h) (any_pointer test (d + binds_of h) p) (any_pointer test (d + binds_of h) q))
unfolding any_pointer built subject_in any_of
any_built test d Terminated os p q e = rw (any_none (test d) os e) refl
any_built test d (Output s n) os p q e = rw (any_alone (test d) s, or_assoc, add-zero d) refl
any_built test d (Input s n) os p q e = rw (any_alone (test d) s, or_assoc, any_none (test d) os e) refl
any_built test d Choice os p q e = rw (any_none (test d) os e, add-zero d) refl
any_built test d Parallel os p q e = rw (any_none (test d) os e, add-zero d) refl
any_built test d (Restriction s) os p q e = rw (any_none (test d) os e, add-one d) refl
any_built test d Replication os p q e = rw (any_none (test d) os e, add-zero d) refl

-- A node renamed.
pub rename-built : (f : ℕ → ℕ → ℕ) (d : ℕ) (h : Head) (os : List ℕ) (p q : Process) →
    rename f d (built h os p q) ≡ built (renamed_head (f d) h) (map (f d) os) (rename f (d + binds_of h) p) (rename f (d + binds_of h) q)
unfolding rename built renamed_head
rename-built f d Terminated os p q = refl
rename-built f d (Output s n) os p q = rw (add-zero d) refl
rename-built f d (Input s n) os p q = refl
rename-built f d Choice os p q = rw (add-zero d) refl
rename-built f d Parallel os p q = rw (add-zero d) refl
rename-built f d (Restriction s) os p q = rw (add-one d) refl
rename-built f d Replication os p q = rw (add-zero d) refl

pub shape_renamed : (f : ℕ → ℕ) (h : Head) → (parts_of (renamed_head f h) ≡ parts_of h) × (objects_of (renamed_head f h) ≡ objects_of h) × (size_of (renamed_head f h) ≡ size_of h)
unfolding renamed_head
shape_renamed f Terminated = (refl, refl, refl)
shape_renamed f (Output s n) = (refl, refl, refl)
shape_renamed f (Input s n) = (refl, refl, refl)
shape_renamed f Choice = (refl, refl, refl)
shape_renamed f Parallel = (refl, refl, refl)
shape_renamed f (Restriction s) = (refl, refl, refl)
shape_renamed f Replication = (refl, refl, refl)
