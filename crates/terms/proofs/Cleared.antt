-- A walk that looks for a pointer, node by node.
use Rattle.std.proofs.Common.{◌≡◌, ℕ, ◌+◌, ◌-◌, ◌≤◌, Bool, true, false, cond, not, ◌||◌, ◌⊎◌, inl, inr, List, [], ◌∷◌, length, drop, is_some, is_err, Some, None, Ok, Err, Option, Result, sym, refl, ap, ◌∙◌, ap₂, arith}
use Rattle.std.proofs.Math.Bool.{or_assoc, or-false}
use Rattle.std.proofs.lemmas.Bool.{false≢true, not-true, not-false}
use Rattle.std.proofs.lemmas.List.{length-drop}
use Rattle.std.specs.Option.{IsSome, option_map, option_and_then}
use Rattle.std.specs.Result.{IsErr}
use Rattle.calculus.specs.Trees.{Process, terminated, write}
use Rattle.terms.specs.declared.head.Head.{Head}
use Rattle.terms.specs.declared.head.Head.TheVariants.{Terminated, Choice, Parallel, Restriction, Replication}
use Rattle.terms.specs.declared.head.Parts.{Parts}
use Rattle.terms.specs.declared.head.Parts.TheVariants.{Zero, One, Two}
use Rattle.terms.specs.Heads.{built, size_of, objects_of, binds_of, parts_of, head_of, objects_in, subject_in}
use Rattle.terms.specs.Reading.{Scanned, whole, stuck, wrapped, secondly, grown, scan, is_term, tree_of}
use Rattle.terms.specs.Pointers.{any_of, any_pointer, clear_of, left_of}
use Rattle.terms.proofs.Found.{length_zero, length_one, length_two}
use Rattle.terms.proofs.Parted.{after_whole, whole_length}
use Rattle.terms.proofs.Pointed.{any_part, any_built}
use Rattle.terms.proofs.Readings.{term_scan}
use Rattle.terms.proofs.Scanned.{head_opens, scan_head, scan_none}

-- the pointers of a head are asked one after the other: the subject, and then the objects
module _ (test : ℕ → Bool) (subject : ℕ) (first : Bool) (asked : first ≡ test subject) where
  pub subject_passes : (rest : Bool) → first ≡ true → first ≡ (any_of test (subject ∷ []) || rest)
  unfolding any_of
  subject_passes rest e = e ∙ ap (λ (b : Bool). (b || false) || rest) (sym e ∙ asked)

  pub objects_asked : (rest : Bool) → first ≡ false → (second : Bool) → second ≡ rest → second ≡ (any_of test (subject ∷ []) || rest)
  unfolding any_of
  objects_asked rest e second then = then ∙ ap (λ (b : Bool). (b || false) || rest) (sym e ∙ asked)

  pub subject_alone : first ≡ (any_of test (subject ∷ []) || any_of test [])
  unfolding any_of
  subject_alone = asked ∙ by_test (test subject)
    where
      by_test : (b : Bool) → b ≡ ((b || false) || false)
      by_test true = refl
      by_test false = refl

-- a head that has neither
pub none_asked : (test : ℕ → Bool) (ns : List ℕ) (h : Head) →
    (h ≡ Terminated) ⊎ ((h ≡ Choice) ⊎ ((h ≡ Parallel) ⊎ (((sort : ℕ) × (h ≡ Restriction sort)) ⊎ (h ≡ Replication)))) →
    false ≡ (any_of test (subject_in h) || any_of test (objects_in h ns))
unfolding any_of subject_in objects_in
none_asked test ns h (inl e) = rw e
none_asked test ns h (inr (inl e)) = rw e
none_asked test ns h (inr (inr (inl e))) = rw e
none_asked test ns h (inr (inr (inr (inl (sort, e))))) = rw e
none_asked test ns h (inr (inr (inr (inr e)))) = rw e

-- a node that is clear of a test, or not, by its own pointers and its parts
module _ (test : ℕ → ℕ → Bool) (d below : ℕ) where
  wrapped_clear : (own : Bool) (size : ℕ) (node : Process → Process) → ((p : Process) → any_pointer test d (node p) ≡ (own || any_pointer test below p)) →
      ((p : Process) → length (write (node p)) ≡ size + length (write p)) → (s : Scanned) →
      clear_of test d (wrapped node s) ≡ cond own None (option_map (λ n. size + n) (clear_of test below s))
  unfolding clear_of wrapped
  wrapped_clear true size node any long (stuck ns) = refl
  wrapped_clear false size node any long (stuck ns) = refl
  wrapped_clear own size node any long (whole p ns) =
      ap₂ (λ (b : Bool) (n : ℕ). cond b None (Some n)) (any p) (long p) ∙ by_tests own (any_pointer test below p)
    where
      by_tests : (a b : Bool) → cond (a || b) None (Some (size + length (write p))) ≡ cond a None (option_map (λ n. size + n) (cond b None (Some (length (write p)))))
      by_tests true b = refl
      by_tests false true = refl
      by_tests false false = refl

  secondly_clear : (own : Bool) (size : ℕ) (node : Process → Process → Process) → ((p q : Process) → any_pointer test d (node p q) ≡ (own || (any_pointer test below p || any_pointer test below q))) →
      ((p q : Process) → length (write (node p q)) ≡ size + length (write p) + length (write q)) → (ns : List ℕ) →
      clear_of test d (secondly scan node (scan ns))
      ≡ cond own None (option_and_then (λ n. option_map (λ m. size + n + m) (clear_of test below (scan (drop n ns)))) (clear_of test below (scan ns)))
  unfolding clear_of secondly
  secondly_clear own size node any long ns = by_first (scan ns) refl
    where
      go : ℕ → Option ℕ
      go n = option_map (λ m. size + n + m) (clear_of test below (scan (drop n ns)))

      by_none : (a : Bool) → ◌≡◌ {A = Option ℕ} None (cond a None None)
      by_none true = refl
      by_none false = refl

      by_tests : (a b : Bool) (n : ℕ) → cond (a || b) None (go n) ≡ cond a None (option_and_then go (cond b None (Some n)))
      by_tests true b n = refl
      by_tests false true n = refl
      by_tests false false n = refl

      by_first : (s : Scanned) → scan ns ≡ s → clear_of test d (secondly scan node s) ≡ cond own None (option_and_then go (clear_of test below s))
      by_first (stuck q) is = by_none own
      by_first (whole p q) is =
          wrapped_clear (own || any_pointer test below p) (size + length (write p)) (node p)
          (λ r. any p r ∙ sym (or_assoc own (any_pointer test below p) (any_pointer test below r))) (long p) (scan q)
          ∙ ap (λ (ms : List ℕ). cond (own || any_pointer test below p) None (option_map (λ m. size + length (write p) + m) (clear_of test below (scan ms)))) (sym (after_whole ns q p is))
          ∙ by_tests own (any_pointer test below p) (length (write p))

-- the size of a node that is clear, by its parts, which stand so many bytes after its head
abbrev pub parts_clear : Parts → ℕ → (ℕ → Option ℕ) → Option ℕ
parts_clear Zero size go = Some size
parts_clear One size go = option_map (λ n. size + n) (go 0)
parts_clear Two size go = option_and_then (λ n. option_map (λ m. size + n + m) (go n)) (go 0)

pub clear_node : (test : ℕ → ℕ → Bool) (d : ℕ) (ns : List ℕ) (h : Head) (own : Bool) → head_of ns ≡ Ok h → own ≡ (any_of (test d) (subject_in h) || any_of (test d) (objects_in h ns)) →
    clear_of test d (scan ns) ≡ cond own None (parts_clear (parts_of h) (size_of h) (λ n. clear_of test (d + binds_of h) (scan (drop n (drop (size_of h) ns)))))
unfolding clear_of grown
clear_node test d ns h own head own_is = ap (clear_of test d) (scan_head ns h head) ∙ by_parts (parts_of h) refl
  where
    count : length (objects_in h ns) ≡ objects_of h
    count = (head_opens ns h head).count

    any : (parts : Parts) → parts_of h ≡ parts → (p q : Process) →
        any_pointer test d (built h (objects_in h ns) p q) ≡ (own || any_part parts (any_pointer test (d + binds_of h) p) (any_pointer test (d + binds_of h) q))
    any parts z p q =
        any_built test d h (objects_in h ns) p q count
        ∙ ap₂ (λ (b : Bool) (k : Parts). b || any_part k (any_pointer test (d + binds_of h) p) (any_pointer test (d + binds_of h) q)) (sym own_is) z

    by_parts : (parts : Parts) → parts_of h ≡ parts → clear_of test d (grown scan (built h (objects_in h ns)) parts (drop (size_of h) ns))
        ≡ cond own None (parts_clear parts (size_of h) (λ n. clear_of test (d + binds_of h) (scan (drop n (drop (size_of h) ns)))))
    by_parts Zero z =
        ap₂ (λ (b : Bool) (n : ℕ). cond b None (Some n)) (any Zero z terminated terminated ∙ or-false own) (length_zero h (objects_in h ns) terminated terminated z count)
    by_parts One z =
        wrapped_clear test d (d + binds_of h) own (size_of h) (λ p. built h (objects_in h ns) p terminated) (λ p. any One z p terminated)
        (λ p. length_one h (objects_in h ns) p terminated z count) (scan (drop (size_of h) ns))
    by_parts Two z =
        secondly_clear test d (d + binds_of h) own (size_of h) (built h (objects_in h ns)) (any Two z)
        (λ p q. length_two h (objects_in h ns) p q z count) (drop (size_of h) ns)

pub clear_none : (test : ℕ → ℕ → Bool) (d : ℕ) (ns : List ℕ) → IsErr (head_of ns) → clear_of test d (scan ns) ≡ None
unfolding clear_of
clear_none test d ns e = by_head (head_of ns) refl e
  where
    by_head : (r : Result Head ℕ) → head_of ns ≡ r → IsErr r → clear_of test d (scan ns) ≡ None
    by_head (Ok h) is e = absurd (false≢true e)
    by_head (Err k) is e = ap (clear_of test d) (scan_none ns k is)

-- where there is an answer
pub headed_clear : (test : ℕ → ℕ → Bool) (d : ℕ) (ns : List ℕ) (k : ℕ) → Err k ≡ head_of ns → IsSome (clear_of test d (scan ns)) → ⊥
headed_clear test d ns k none some = false≢true (sym (ap is_some (clear_none test d ns (ap is_err (sym none)))) ∙ some)

pub own_clear : (test : ℕ → ℕ → Bool) (d : ℕ) (ns : List ℕ) (h : Head) → head_of ns ≡ Ok h → IsSome (clear_of test d (scan ns)) → (any_of (test d) (subject_in h) || any_of (test d) (objects_in h ns)) ≡ false
own_clear test d ns h head some = by_own (any_of (test d) (subject_in h) || any_of (test d) (objects_in h ns)) refl
  where
    by_own : (b : Bool) → (any_of (test d) (subject_in h) || any_of (test d) (objects_in h ns)) ≡ b → (any_of (test d) (subject_in h) || any_of (test d) (objects_in h ns)) ≡ false
    by_own true is = absurd (false≢true (sym (ap is_some (clear_node test d ns h true head (sym is))) ∙ some))
    by_own false is = is

-- the process whose size is answered, and what stands after it
pub record Sized (s : Scanned) (n : ℕ) : Type 0 where
  pub process : Process
  pub rest : List ℕ
  pub is : s ≡ whole process rest
  pub long : n ≡ length (write process)

pub clear_some : (test : ℕ → ℕ → Bool) (d : ℕ) (s : Scanned) (n : ℕ) → Some n ≡ clear_of test d s → Sized s n
unfolding clear_of
clear_some test d (stuck q) n e = absurd (false≢true (sym (ap is_some e)))
clear_some test d (whole p q) n e = by_test (any_pointer test d p) e
  where
    by_test : (b : Bool) → Some n ≡ cond b None (Some (length (write p))) → Sized (whole p q) n
    by_test true h = absurd (false≢true (sym (ap is_some h)))
    by_test false h = record { process = p; rest = q; is = refl; long = cc }

-- what is left after a node that is clear, by its parts, which stand behind its head
abbrev pub parts_left : (ℕ → ℕ → Bool) → ℕ → Parts → List ℕ → Option ℕ
parts_left test d Zero ms = Some (length ms)
parts_left test d One ms = left_of test d ms
parts_left test d Two ms = option_and_then (λ left. left_of test d (drop (length ms - left) ms)) (left_of test d ms)

module _ (test : ℕ → ℕ → Bool) (d size total : ℕ) (ms : List ℕ) (long : length ms ≡ total - size) where
  abbrev go : ℕ → Option ℕ
  go n = clear_of test d (scan (drop n ms))

  left_parts : (parts : Parts) → option_map (λ n. total - n) (parts_clear parts size go) ≡ parts_left test d parts ms
  unfolding left_of
  left_parts Zero = ap Some (sym long)
  left_parts One = by_rest (go 0)
    where
      by_rest : (x : Option ℕ) → option_map (λ n. total - n) (option_map (λ n. size + n) x) ≡ option_map (λ n. length ms - n) x
      by_rest None = refl
      by_rest (Some n) = ap Some (omega (arith, long))
  left_parts Two = by_first (go 0) refl
    where
      by_second : (n : ℕ) → n ≤ length ms → (y : Option ℕ) → option_map (λ n. total - n) (option_map (λ m. size + n + m) y) ≡ option_map (λ m. length (drop n ms) - m) y
      by_second n room None = refl
      by_second n room (Some m) = ap Some (omega (arith, long, length-drop n ms))

      by_first : (x : Option ℕ) → x ≡ go 0 → option_map (λ n. total - n) (option_and_then (λ n. option_map (λ m. size + n + m) (go n)) x)
          ≡ option_and_then (λ left. left_of test d (drop (length ms - left) ms)) (option_map (λ n. length ms - n) x)
      by_first None is = refl
      by_first (Some n) is =
          let first = clear_some test d (scan ms) n is in
          let room : n ≤ length ms = omega (arith, first.long, whole_length ms first.rest first.process first.is) in
          let back : n ≡ length ms - (length ms - n) = omega (arith, room) in
          by_second n room (go n) ∙ ap (λ (k : ℕ). left_of test d (drop k ms)) back

pub left_node : (test : ℕ → ℕ → Bool) (d : ℕ) (ns : List ℕ) (h : Head) (own : Bool) → head_of ns ≡ Ok h → own ≡ (any_of (test d) (subject_in h) || any_of (test d) (objects_in h ns)) →
    left_of test d ns ≡ cond own None (parts_left test (d + binds_of h) (parts_of h) (drop (size_of h) ns))
unfolding left_of
left_node test d ns h own head own_is = ap (option_map (λ n. length ns - n)) (clear_node test d ns h own head own_is) ∙ by_own own
  where
    by_own : (b : Bool) → option_map (λ n. length ns - n) (cond b None (parts_clear (parts_of h) (size_of h) (λ n. clear_of test (d + binds_of h) (scan (drop n (drop (size_of h) ns))))))
        ≡ cond b None (parts_left test (d + binds_of h) (parts_of h) (drop (size_of h) ns))
    by_own true = refl
    by_own false = left_parts test (d + binds_of h) (size_of h) (length ns) (drop (size_of h) ns) (length-drop (size_of h) ns) (parts_of h)

pub left_none : (test : ℕ → ℕ → Bool) (d : ℕ) (ns : List ℕ) → IsErr (head_of ns) → left_of test d ns ≡ None
unfolding left_of
left_none test d ns e = ap (option_map (λ n. length ns - n)) (clear_none test d ns e)

-- what is told of a whole term
pub clear_told : (test : ℕ → ℕ → Bool) (ns : List ℕ) (o : Option ℕ) (r : Bool) → is_term ns ≡ true → o ≡ left_of test 0 ns → is_some o ≡ not r → r ≡ any_pointer test 0 (tree_of ns)
unfolding left_of clear_of
clear_told test ns o r term e told = by_test (any_pointer test 0 (tree_of ns)) (sym told ∙ ap (λ (x : Option ℕ). is_some x) (e ∙ ap (λ (x : Scanned). option_map (λ n. length ns - n) (clear_of test 0 x)) (term_scan ns term)))
  where
    by_test : (b : Bool) → not r ≡ is_some (option_map (λ n. length ns - n) (cond b None (Some (length (write (tree_of ns)))))) → r ≡ b
    by_test true h = not-false r h
    by_test false h = not-true r h
