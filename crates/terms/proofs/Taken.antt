-- What the code makes of a term, by the head at its start.
use Rattle.std.proofs.Common.{◌≡◌, ℕ, ◌-◌, ◌≤◌, true, List, length, take, drop, Some, Ok, sym, ap, ◌∙◌, subst, ap₂, arith}
use Rattle.std.proofs.lemmas.List.{length-take}
use Rattle.calculus.specs.Trees.{terminated}
use Rattle.calculus.specs.Trees as trees
use Rattle.terms.specs.declared.head.Head.{Head}
use Rattle.terms.specs.declared.head.Head.TheVariants.{Terminated, Output, Input, Choice, Parallel, Restriction, Replication}
use Rattle.terms.specs.declared.head.Parts.TheVariants.{One, Two}
use Rattle.terms.specs.Heads.{built, size_of, objects_of, binds_of, parts_of, head_of, objects_in}
use Rattle.terms.specs.Reading.{scan, is_term, tree_of, size_in, AreTwo}
use Rattle.terms.proofs.Nodes.{zero_made, one_term, one_made, two_terms, parts_made}
use Rattle.terms.proofs.Passed.{rest_is}
use Rattle.terms.proofs.Scanned.{head_opens}

module _ (ns : List ℕ) (term : is_term ns ≡ true) (h : Head) (is : Ok h ≡ head_of ns) (size : ℕ) (long : size ≡ size_of h) where
  -- what stands below is a term, or two
  pub below_term : One ≡ parts_of h → is_term (take (length ns - size) (drop size ns)) ≡ true
  below_term one = ap is_term (rest_is ns h is size long) ∙ one_term ns term h is one

  pub below_two : Two ≡ parts_of h → AreTwo (take (length ns - size) (drop size ns))
  below_two two = subst AreTwo (sym (rest_is ns h is size long)) (two_terms ns term h is two)

  below_made : One ≡ parts_of h → (bs : List ℕ) → bs ≡ take (length ns - size) (drop size ns) → tree_of ns ≡ built h (objects_in h ns) (tree_of bs) terminated
  below_made one bs e =
      one_made ns term h is one ∙ ap (λ (x : List ℕ). built h (objects_in h ns) (tree_of x) terminated) (sym (e ∙ rest_is ns h is size long))

  both_made : Two ≡ parts_of h → (ls bs : List ℕ) →
      ((n : ℕ) → Some n ≡ size_in (scan (take (length ns - size) (drop size ns))) → (ls ≡ take n (take (length ns - size) (drop size ns))) × (bs ≡ drop n (take (length ns - size) (drop size ns)))) →
      tree_of ns ≡ built h (objects_in h ns) (tree_of ls) (tree_of bs)
  both_made two ls bs cut =
      let rest = rest_is ns h is size long in
      let (n, first, left, right) = two_terms ns term h is two in
      let parts = cut n (first ∙ ap (λ (x : List ℕ). size_in (scan x)) (sym rest)) in
      parts_made ns term h is two n first
      ∙ ap₂ (λ (x y : List ℕ). built h (objects_in h ns) (tree_of x) (tree_of y)) (sym (parts.0 ∙ ap (take n) rest)) (sym (parts.1 ∙ ap (drop n) rest))

  pub terminated_is : h ≡ Terminated → trees.terminated ≡ tree_of ns
  unfolding built objects_in
  terminated_is e =
      sym (zero_made ns term h is (sym (ap parts_of e)) ∙ ap (λ (k : Head). built k (objects_in k ns) terminated terminated) e)

  module _ (s n : ℕ) (e : h ≡ Output s n) where
    objects_cut : size - 3 ≡ n
    objects_cut = omega (arith, long ∙ ap size_of e)

    pub output_is : (bs : List ℕ) → bs ≡ take (length ns - size) (drop size ns) → trees.output s (take (size - 3) (drop 3 ns)) (tree_of bs) ≡ tree_of ns
    unfolding built objects_in
    output_is bs below =
        ap (λ (k : ℕ). trees.output s (take k (drop 3 ns)) (tree_of bs)) objects_cut
        ∙ sym (below_made (sym (ap parts_of e)) bs below ∙ ap (λ (k : Head). built k (objects_in k ns) (tree_of bs) terminated) e)

    pub output_few : length (take (size - 3) (drop 3 ns)) ≤ 8
    output_few =
        let few : n ≤ 8 = subst (λ (k : Head). objects_of k ≤ 8) e (head_opens ns h (sym is)).few in
        simp length-take (omega (arith, objects_cut))

  module _ (s n : ℕ) (e : h ≡ Input s n) where
    pub input_is : (bs : List ℕ) → bs ≡ take (length ns - size) (drop size ns) → trees.input s n (tree_of bs) ≡ tree_of ns
    unfolding built objects_in
    input_is bs below =
        sym (below_made (sym (ap parts_of e)) bs below ∙ ap (λ (k : Head). built k (objects_in k ns) (tree_of bs) terminated) e)

    pub input_few : n ≤ 8
    input_few = subst (λ (k : Head). binds_of k ≤ 8) e (head_opens ns h (sym is)).binds

  pub restriction_is : (s : ℕ) → h ≡ Restriction s → (bs : List ℕ) → bs ≡ take (length ns - size) (drop size ns) → trees.restriction s (tree_of bs) ≡ tree_of ns
  unfolding built objects_in
  restriction_is s e bs below =
      sym (below_made (sym (ap parts_of e)) bs below ∙ ap (λ (k : Head). built k (objects_in k ns) (tree_of bs) terminated) e)

  pub replication_is : h ≡ Replication → (bs : List ℕ) → bs ≡ take (length ns - size) (drop size ns) → trees.replication (tree_of bs) ≡ tree_of ns
  unfolding built objects_in
  replication_is e bs below =
      sym (below_made (sym (ap parts_of e)) bs below ∙ ap (λ (k : Head). built k (objects_in k ns) (tree_of bs) terminated) e)

  module _ (ls bs : List ℕ) (cut : (n : ℕ) → Some n ≡ size_in (scan (take (length ns - size) (drop size ns))) → (ls ≡ take n (take (length ns - size) (drop size ns))) × (bs ≡ drop n (take (length ns - size) (drop size ns)))) where
    pub choice_is : h ≡ Choice → trees.choice (tree_of ls) (tree_of bs) ≡ tree_of ns
    unfolding built objects_in
    choice_is e = sym (both_made (sym (ap parts_of e)) ls bs cut ∙ ap (λ (k : Head). built k (objects_in k ns) (tree_of ls) (tree_of bs)) e)

    pub parallel_is : h ≡ Parallel → trees.parallel (tree_of ls) (tree_of bs) ≡ tree_of ns
    unfolding built objects_in
    parallel_is e = sym (both_made (sym (ap parts_of e)) ls bs cut ∙ ap (λ (k : Head). built k (objects_in k ns) (tree_of ls) (tree_of bs)) e)
