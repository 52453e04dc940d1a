-- Places: the writing around a node, and that a place in the writing belongs to one node only.
use Rattle.std.proofs.Common.{◌≡◌, ℕ, zero, suc, ◌+◌, ◌-◌, ◌<◌, Bool, true, false, cond, ltb, List, ◌∷◌, ◌++◌, length, Some, None, Option, sym, refl, ap, ◌∙◌, ap₂, arith}
use Rattle.std.proofs.lemmas.List.{append_assoc, append-nil, length-append}
use Rattle.std.proofs.lemmas.Bool.Decides.{nat_tests}
use Rattle.calculus.specs.Trees.{Process, terminated, output, input, choice, parallel, restriction, replication, write}
use Rattle.calculus.specs.Contexts.{Context, hole, below_output, below_input, in_left_arm, in_right_arm, in_left_part, in_right_part, below_restriction, below_replication, fill, before, after, place}
use Rattle.calculus.specs.Playing.{and_then, below, node_at}
use Rattle.calculus.proofs.Written.{written_some}

followed : (b w a r f : List ℕ) → f ≡ b ++ (w ++ a) → f ++ r ≡ b ++ (w ++ (a ++ r))
followed b w a r f e = ap (λ (ns : List ℕ). ns ++ r) e ∙ append_assoc b (w ++ a) r ∙ ap (◌++◌ b) (append_assoc w a r)

-- a node's own writing stands between what is before it and what is after it
pub write-fill : (c : Context) (p : Process) → write (fill c p) ≡ before c ++ (write p ++ after c)
unfolding write fill before after
write-fill hole p = sym (append-nil (write p))
write-fill (below_output s os c) p = ap (λ (ns : List ℕ). 1 ∷ s ∷ length os ∷ ns) (ap (◌++◌ os) (write-fill c p) ∙ sym (append_assoc os (before c) (write p ++ after c)))
write-fill (below_input s n c) p = ap (λ (ns : List ℕ). 2 ∷ s ∷ n ∷ ns) (write-fill c p)
write-fill (in_left_arm c q) p = ap (◌∷◌ 3) (followed (before c) (write p) (after c) (write q) (write (fill c p)) (write-fill c p))
write-fill (in_right_arm q c) p = ap (◌∷◌ 3) (ap (◌++◌ (write q)) (write-fill c p) ∙ sym (append_assoc (write q) (before c) (write p ++ after c)))
write-fill (in_left_part c q) p = ap (◌∷◌ 4) (followed (before c) (write p) (after c) (write q) (write (fill c p)) (write-fill c p))
write-fill (in_right_part q c) p = ap (◌∷◌ 4) (ap (◌++◌ (write q)) (write-fill c p) ∙ sym (append_assoc (write q) (before c) (write p ++ after c)))
write-fill (below_restriction s c) p = ap (λ (ns : List ℕ). 5 ∷ s ∷ ns) (write-fill c p)
write-fill (below_replication c) p = ap (◌∷◌ 6) (write-fill c p)

-- a place is within the writing
pub place_within : (c : Context) (p : Process) → place c < length (write (fill c p))
place_within c p =
    let whole : length (write (fill c p)) ≡ length (before c ++ (write p ++ after c)) = ap length (write-fill c p) in
    omega (arith, length-append (before c) (write p ++ after c), length-append (write p) (after c), written_some p)

below_is : (above : Context → Context) (found : Option (Context × Process)) (c : Context) (p : Process) → found ≡ Some (c, p) → below above found ≡ Some (above c, p)
unfolding below and_then
below_is above found c p e = ap (λ (o : Option (Context × Process)). and_then o (λ (x : Context × Process). Some (above x.0, x.1))) e

-- a test that a choice of values hangs on
when_true : {A : Type 0} (b : Bool) (x y : A) → b ≡ true → cond b x y ≡ x
when_true b x y e = ap (λ (t : Bool). cond t x y) e

when_false : {A : Type 0} (b : Bool) (x y : A) → b ≡ false → cond b x y ≡ y
when_false b x y e = ap (λ (t : Bool). cond t x y) e

-- a node is found at its place
pub node_at-fill : (c : Context) (p : Process) → node_at (place c) (fill c p) ≡ Some (c, p)
unfolding node_at fill before
node_at-fill hole p = refl
node_at-fill (below_output s os c) p =
    let sum : length (os ++ before c) ≡ length os + length (before c) = length-append os (before c) in
    let far : ltb (suc (suc (length (os ++ before c)))) (2 + length os) ≡ false = grind (arith, nat_tests) in
    let rest : suc (suc (length (os ++ before c))) - (2 + length os) ≡ length (before c) = omega arith in
    when_false _ _ _ far ∙ below_is (below_output s os) _ c p (ap (λ (k : ℕ). node_at k (fill c p)) rest ∙ node_at-fill c p)
node_at-fill (below_input s n c) p =
    let far : ltb (suc (suc (length (before c)))) 2 ≡ false = grind (arith, nat_tests) in
    let rest : suc (suc (length (before c))) - 2 ≡ length (before c) = omega arith in
    when_false _ _ _ far ∙ below_is (below_input s n) _ c p (ap (λ (k : ℕ). node_at k (fill c p)) rest ∙ node_at-fill c p)
node_at-fill (in_left_arm c q) p =
    let near : ltb (length (before c)) (length (write (fill c p))) ≡ true = grind (arith, nat_tests, place_within c p) in
    when_true _ _ _ near ∙ below_is (λ d. in_left_arm d q) _ c p (node_at-fill c p)
node_at-fill (in_right_arm q c) p =
    let sum : length (write q ++ before c) ≡ length (write q) + length (before c) = length-append (write q) (before c) in
    let far : ltb (length (write q ++ before c)) (length (write q)) ≡ false = grind (arith, nat_tests) in
    let rest : length (write q ++ before c) - length (write q) ≡ length (before c) = omega arith in
    when_false _ _ _ far ∙ below_is (in_right_arm q) _ c p (ap (λ (k : ℕ). node_at k (fill c p)) rest ∙ node_at-fill c p)
node_at-fill (in_left_part c q) p =
    let near : ltb (length (before c)) (length (write (fill c p))) ≡ true = grind (arith, nat_tests, place_within c p) in
    when_true _ _ _ near ∙ below_is (λ d. in_left_part d q) _ c p (node_at-fill c p)
node_at-fill (in_right_part q c) p =
    let sum : length (write q ++ before c) ≡ length (write q) + length (before c) = length-append (write q) (before c) in
    let far : ltb (length (write q ++ before c)) (length (write q)) ≡ false = grind (arith, nat_tests) in
    let rest : length (write q ++ before c) - length (write q) ≡ length (before c) = omega arith in
    when_false _ _ _ far ∙ below_is (in_right_part q) _ c p (ap (λ (k : ℕ). node_at k (fill c p)) rest ∙ node_at-fill c p)
node_at-fill (below_restriction s c) p =
    let far : ltb (suc (length (before c))) 1 ≡ false = grind (arith, nat_tests) in
    let rest : suc (length (before c)) - 1 ≡ length (before c) = omega arith in
    when_false _ _ _ far ∙ below_is (below_restriction s) _ c p (ap (λ (k : ℕ). node_at k (fill c p)) rest ∙ node_at-fill c p)
node_at-fill (below_replication c) p = below_is below_replication _ c p (node_at-fill c p)

pub some_is : {A : Type 0} (a b : A) → ◌≡◌ {A = Option A} (Some a) (Some b) → a ≡ b
some_is a b e = cc

pub none_some : {A : Type 0} (a : A) → ◌≡◌ {A = Option A} None (Some a) → ⊥
none_some a e = let z : ◌≡◌ {A = ℕ} 0 1 = cc in absurd (omega arith)

-- one place, one node
pub one_node : (c d : Context) (p q : Process) → fill c p ≡ fill d q → place c ≡ place d → ◌≡◌ {A = Context × Process} (c, p) (d, q)
one_node c d p q e at = some_is _ _ (sym (node_at-fill c p) ∙ ap₂ node_at at e ∙ node_at-fill d q)

pub one_place : (c d : Context) (p q : Process) → fill c p ≡ fill d q → place c ≡ place d → (c ≡ d) × (p ≡ q)
one_place c d p q e at =
    let both = one_node c d p q e at in
    (ap (λ (x : Context × Process). x.0) both, ap (λ (x : Context × Process). x.1) both)

-- what is found at a place stands there
abbrev pub Stands : ℕ → Process → Context × Process → Type 0
Stands n t x = (fill x.0 x.1 ≡ t) × (place x.0 ≡ n)

found_below : (above : Context → Context) (found : Option (Context × Process)) (x : Context × Process) → below above found ≡ Some x → (d : Context) × (found ≡ Some (d, x.1)) × (above d ≡ x.0)
unfolding below and_then
found_below above None x e = absurd (none_some x e)
found_below above (Some (d, q)) x e =
    let is : ◌≡◌ {A = Context × Process} (above d, q) x = some_is _ _ e in
    (d, ap (λ (y : Context × Process). Some (d, y.1)) is, ap (λ (y : Context × Process). y.0) is)

pub none_or : {A : Type 0} (b : Bool) (o : Option A) (x : A) → cond b None o ≡ Some x → (b ≡ false) × (o ≡ Some x)
none_or true o x e = absurd (none_some x e)
none_or false o x e = (refl, e)

-- through one more node, whose own writing takes w numbers
stands_below : (above : Context → Context) (wrap : Process → Process) (w n m : ℕ) (p : Process) → ((d : Context) (q : Process) → fill (above d) q ≡ wrap (fill d q)) →
    ((d : Context) → place (above d) ≡ w + place d) → w + m ≡ n → ((y : Context × Process) → node_at m p ≡ Some y → Stands m p y) →
    (x : Context × Process) → below above (node_at m p) ≡ Some x → Stands n (wrap p) x
stands_below above wrap w n m p filled placed sum inner x e =
    let (d, found, is) = found_below above (node_at m p) x e in
    let (same, at) = inner (d, x.1) found in
    (ap (λ (c : Context). fill c x.1) (sym is) ∙ filled d x.1 ∙ ap wrap same, ap place (sym is) ∙ placed d ∙ ap (λ (k : ℕ). w + k) at ∙ sum)

-- in one of two parts, of which the first takes as many numbers as it is written with
in_parts : (node : Process → Process → Process) (left : Context → Process → Context) (right : Process → Context → Context) (n : ℕ) (p q : Process) →
    ((d : Context) (r : Process) → fill (left d q) r ≡ node (fill d r) q) → ((d : Context) (r : Process) → fill (right p d) r ≡ node p (fill d r)) →
    ((d : Context) → place (left d q) ≡ 1 + place d) → ((d : Context) → place (right p d) ≡ suc (length (write p)) + place d) →
    ((y : Context × Process) → node_at n p ≡ Some y → Stands n p y) → ((y : Context × Process) → node_at (n - length (write p)) q ≡ Some y → Stands (n - length (write p)) q y) →
    (x : Context × Process) (b : Bool) → ltb n (length (write p)) ≡ b → cond b (below (λ d. left d q) (node_at n p)) (below (right p) (node_at (n - length (write p)) q)) ≡ Some x → Stands (suc n) (node p q) x
in_parts node left right n p q filled_left filled_right placed_left placed_right in_left in_right x true near e =
    stands_below (λ d. left d q) (λ t. node t q) 1 (suc n) n p filled_left placed_left (omega arith) in_left x e
in_parts node left right n p q filled_left filled_right placed_left placed_right in_left in_right x false far e =
    let sum : suc (length (write p)) + (n - length (write p)) ≡ suc n = grind (arith, nat_tests) in
    stands_below (right p) (node p) (suc (length (write p))) (suc n) (n - length (write p)) q filled_right placed_right sum in_right x e

pub node_at_finds : (n : ℕ) (t : Process) (x : Context × Process) → node_at n t ≡ Some x → Stands n t x
unfolding node_at fill before
node_at_finds zero t x e = top (some_is _ _ e)
  where
    top : ◌≡◌ {A = Context × Process} (hole, t) x → Stands zero t x
    top is = (ap (λ (y : Context × Process). fill y.0 y.1) (sym is), ap (λ (y : Context × Process). place y.0) (sym is))
node_at_finds (suc n) terminated x e = absurd (none_some x e)
node_at_finds (suc n) (output s os p) x e =
    let (far, inner) = none_or (ltb n (2 + length os)) _ x e in
    let sum : 3 + length os + (n - (2 + length os)) ≡ suc n = grind (arith, nat_tests) in
    stands_below (below_output s os) (output s os) (3 + length os) (suc n) (n - (2 + length os)) p (λ d q. refl) (λ d. omega (arith, length-append os (before d))) sum
    (λ y f. node_at_finds (n - (2 + length os)) p y f) x inner
node_at_finds (suc n) (input s k p) x e =
    let (far, inner) = none_or (ltb n 2) _ x e in
    let sum : 3 + (n - 2) ≡ suc n = grind (arith, nat_tests) in
    stands_below (below_input s k) (input s k) 3 (suc n) (n - 2) p (λ d q. refl) (λ d. omega arith) sum (λ y f. node_at_finds (n - 2) p y f) x inner
node_at_finds (suc n) (choice p q) x e =
    in_parts choice in_left_arm in_right_arm n p q (λ d s. refl) (λ d s. refl) (λ d. omega arith) (λ d. omega (arith, length-append (write p) (before d)))
    (λ y f. node_at_finds n p y f) (λ y f. node_at_finds (n - length (write p)) q y f) x (ltb n (length (write p))) refl e
node_at_finds (suc n) (parallel p q) x e =
    in_parts parallel in_left_part in_right_part n p q (λ d s. refl) (λ d s. refl) (λ d. omega arith) (λ d. omega (arith, length-append (write p) (before d)))
    (λ y f. node_at_finds n p y f) (λ y f. node_at_finds (n - length (write p)) q y f) x (ltb n (length (write p))) refl e
node_at_finds (suc n) (restriction s p) x e =
    let (far, inner) = none_or (ltb n 1) _ x e in
    let sum : 2 + (n - 1) ≡ suc n = grind (arith, nat_tests) in
    stands_below (below_restriction s) (restriction s) 2 (suc n) (n - 1) p (λ d q. refl) (λ d. omega arith) sum (λ y f. node_at_finds (n - 1) p y f) x inner
node_at_finds (suc n) (replication p) x e = stands_below below_replication replication 1 (suc n) n p (λ d q. refl) (λ d. omega arith) (omega arith) (λ y f. node_at_finds n p y f) x e
