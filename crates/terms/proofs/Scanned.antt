-- What scanning finds: a process that is written there with its counts in range, or a start that goes on to such a
-- process, before a number that cannot stand.
use Rattle.std.proofs.Common.{◌≡◌, ℕ, zero, suc, ◌+◌, ◌-◌, ◌<◌, ◌≤◌, Bool, true, false, cond, ◌&&◌, ltb, leb, List, [], ◌∷◌, ◌++◌, length, take, drop, replicate, Ok, Err, Result, sym, refl, ap, ◌∙◌, subst, ap₂, arith}
use Rattle.std.proofs.lemmas.List.{append_assoc, length-append, length-drop, length-take-le, length-replicate, take-append-drop, take_at, take_all, drop_at, drop_all}
use Rattle.std.proofs.lemmas.Bool.{and_parts, and_from, ltb-true, ltb-false, le-ltb, le-leb, leb-true}
use Rattle.calculus.specs.Trees.{Process, write}
use Rattle.calculus.specs.Trees as trees
use Rattle.terms.specs.declared.head.Head.{Head}
use Rattle.terms.specs.declared.head.Head.TheVariants.{Terminated, Output, Input, Choice, Parallel, Restriction, Replication}
use Rattle.terms.specs.declared.head.Parts.{Parts}
use Rattle.terms.specs.declared.head.Parts.TheVariants.{Zero, One, Two}
use Rattle.terms.specs.Fitting.{counts_fit, are_bytes}
use Rattle.terms.specs.Heads.{built, size_of, subjects_of, objects_of, binds_of, parts_of, output_head, input_head, restriction_head, head_of, objects_in, front, OpensWith}
use Rattle.terms.specs.Reading.{Scanned, whole, stuck, wrapped, secondly, grown, onward, scan_with, scan}
use Rattle.terms.proofs.Numbers.{bytes_both, bytes_zeros}

-- the parts of a node as they are written, and whether their counts fit
abbrev pub parts_written : Parts → Process → Process → List ℕ
parts_written Zero p q = []
parts_written One p q = write p
parts_written Two p q = write p ++ write q

abbrev pub parts_fit : Parts → Process → Process → Bool
parts_fit Zero p q = true
parts_fit One p q = counts_fit p
parts_fit Two p q = counts_fit p && counts_fit q

pub length_front : (h : Head) (os : List ℕ) → length os ≡ objects_of h → length (front h os) ≡ size_of h
length_front Terminated os e = refl
length_front (Output subject count) os e = omega arith
length_front (Input subject count) os e = refl
length_front Choice os e = refl
length_front Parallel os e = refl
length_front (Restriction sort) os e = refl
length_front Replication os e = refl

pub write-built : (h : Head) (os : List ℕ) (p q : Process) → length os ≡ objects_of h → write (built h os p q) ≡ front h os ++ parts_written (parts_of h) p q
unfolding write built
write-built Terminated os p q e = refl
write-built (Output subject count) os p q e = ap (λ (n : ℕ). 1 ∷ subject ∷ n ∷ (os ++ write p)) e
write-built (Input subject count) os p q e = refl
write-built Choice os p q e = refl
write-built Parallel os p q e = refl
write-built (Restriction sort) os p q e = refl
write-built Replication os p q e = refl

pub fit_built : (h : Head) (os : List ℕ) (p q : Process) → length os ≡ objects_of h → objects_of h ≤ 8 → binds_of h ≤ 8 → parts_fit (parts_of h) p q ≡ true →
    counts_fit (built h os p q) ≡ true
unfolding counts_fit built
fit_built Terminated os p q e few binds fit = refl
fit_built (Output subject count) os p q e few binds fit = and_from (leb (length os) 8) (counts_fit p) (le-leb (length os) 8 (omega arith)) fit
fit_built (Input subject count) os p q e few binds fit = and_from (leb count 8) (counts_fit p) (le-leb count 8 binds) fit
fit_built Choice os p q e few binds fit = fit
fit_built Parallel os p q e few binds fit = fit
fit_built (Restriction sort) os p q e few binds fit = fit
fit_built Replication os p q e few binds fit = fit

-- a head that stands at the start of numbers
pub record Opens (ns : List ℕ) (h : Head) : Type 0 where
  pub cut : ns ≡ front h (objects_in h ns) ++ drop (size_of h) ns
  pub count : length (objects_in h ns) ≡ objects_of h
  pub few : objects_of h ≤ 8
  pub binds : binds_of h ≤ 8

pub ok_is : {A B : Type 0} (a b : A) → ◌≡◌ {A = Result A B} (Ok a) (Ok b) → a ≡ b
ok_is a b e = cc

err_is : {A B : Type 0} (a b : B) → ◌≡◌ {A = Result A B} (Err a) (Err b) → a ≡ b
err_is a b e = cc

pub err_ok : {A B : Type 0} (a : A) (b : B) → ◌≡◌ {A = Result A B} (Err b) (Ok a) → ⊥
err_ok a b e = let z : ◌≡◌ {A = ℕ} 0 1 = cc in omega arith

pub stuck_whole : (p : Process) (q r : List ℕ) → stuck r ≡ whole p q → ⊥
stuck_whole p q r e = let z : ◌≡◌ {A = ℕ} 0 1 = cc in omega arith

module _ (s c : ℕ) (ns : List ℕ) where
  output_opens : (h : Head) (b d : Bool) → ltb 8 c ≡ b → ltb (length ns) c ≡ d → cond b (Err 2) (cond d (Err (3 + length ns)) (Ok (Output s c))) ≡ Ok h →
      Opens (1 ∷ s ∷ c ∷ ns) h
  unfolding objects_in
  output_opens h true d small long e = absurd (err_ok _ _ e)
  output_opens h false true small long e = absurd (err_ok _ _ e)
  output_opens h false false small long e =
      let few : c ≤ 8 = ltb-false 8 c small in
      let enough : c ≤ length ns = ltb-false (length ns) c long in
      let three : suc (suc (suc c)) ≡ 3 + c = omega arith in
      subst (Opens (1 ∷ s ∷ c ∷ ns)) (ok_is _ _ e)
      (record { cut = ap (λ (r : List ℕ). 1 ∷ s ∷ c ∷ r) (sym (take-append-drop c ns)) ∙ ap (λ (k : ℕ). 1 ∷ s ∷ c ∷ (take c ns ++ drop k (1 ∷ s ∷ c ∷ ns))) three; count = length-take-le c ns enough; few = few; binds = omega arith })

  input_opens : (h : Head) (b : Bool) → ltb 8 c ≡ b → cond {A = Result Head ℕ} b (Err 2) (Ok (Input s c)) ≡ Ok h → Opens (2 ∷ s ∷ c ∷ ns) h
  unfolding objects_in
  input_opens h true small e = absurd (err_ok _ _ e)
  input_opens h false small e =
      let few : c ≤ 8 = ltb-false 8 c small in
      subst (Opens (2 ∷ s ∷ c ∷ ns)) (ok_is _ _ e) (record { cut = refl; count = refl; few = omega arith; binds = few })

pub head_opens : (ns : List ℕ) (h : Head) → head_of ns ≡ Ok h → Opens ns h
unfolding head_of output_head input_head restriction_head objects_in
head_opens [] h e = absurd (err_ok _ _ e)
head_opens (zero ∷ ns) h e = subst (Opens (0 ∷ ns)) (ok_is _ _ e) (record { cut = refl; count = refl; few = omega arith; binds = omega arith })
head_opens (suc zero ∷ []) h e = absurd (err_ok _ _ e)
head_opens (suc zero ∷ s ∷ []) h e = absurd (err_ok _ _ e)
head_opens (suc zero ∷ s ∷ c ∷ ns) h e = output_opens s c ns h (ltb 8 c) (ltb (length ns) c) refl refl e
head_opens (suc (suc zero) ∷ []) h e = absurd (err_ok _ _ e)
head_opens (suc (suc zero) ∷ s ∷ []) h e = absurd (err_ok _ _ e)
head_opens (suc (suc zero) ∷ s ∷ c ∷ ns) h e = input_opens s c ns h (ltb 8 c) refl e
head_opens (suc (suc (suc zero)) ∷ ns) h e = subst (Opens (3 ∷ ns)) (ok_is _ _ e) (record { cut = refl; count = refl; few = omega arith; binds = omega arith })
head_opens (suc (suc (suc (suc zero))) ∷ ns) h e = subst (Opens (4 ∷ ns)) (ok_is _ _ e) (record { cut = refl; count = refl; few = omega arith; binds = omega arith })
head_opens (suc (suc (suc (suc (suc zero)))) ∷ []) h e = absurd (err_ok _ _ e)
head_opens (suc (suc (suc (suc (suc zero)))) ∷ s ∷ ns) h e = subst (Opens (5 ∷ s ∷ ns)) (ok_is _ _ e) (record { cut = refl; count = refl; few = omega arith; binds = omega arith })
head_opens (suc (suc (suc (suc (suc (suc zero))))) ∷ ns) h e = subst (Opens (6 ∷ ns)) (ok_is _ _ e) (record { cut = refl; count = refl; few = omega arith; binds = omega arith })
head_opens (suc (suc (suc (suc (suc (suc (suc n)))))) ∷ ns) h e = absurd (err_ok _ _ e)

size_sum : (h : Head) → (0 < size_of h) × (1 + subjects_of h + objects_of h ≤ size_of h)
size_sum Terminated = omega arith
size_sum (Output subject count) = omega arith
size_sum (Input subject count) = omega arith
size_sum Choice = omega arith
size_sum Parallel = omega arith
size_sum (Restriction sort) = omega arith
size_sum Replication = omega arith

pub opens_with : (ns : List ℕ) (h : Head) → Ok h ≡ head_of ns → OpensWith h ns
opens_with ns h e = let held = head_opens ns h (sym e) in (held.cut, held.count, held.few, held.binds)

pub head_size : (ns : List ℕ) (h : Head) → head_of ns ≡ Ok h → (0 < size_of h) × (size_of h ≤ length ns) × (1 + subjects_of h + objects_of h ≤ size_of h) × (binds_of h ≤ 8)
head_size ns h e =
    let o = head_opens ns h e in
    let sum = size_sum h in
    let here : length (front h (objects_in h ns)) ≡ size_of h = length_front h (objects_in h ns) o.count in
    let long : length ns ≡ length (front h (objects_in h ns)) + length (drop (size_of h) ns) = ap length o.cut ∙ length-append (front h (objects_in h ns)) (drop (size_of h) ns) in
    (sum.0, omega arith, sum.1, o.binds)

-- what is left after a head is shorter
pub head_shorter : (ns : List ℕ) (h : Head) → head_of ns ≡ Ok h → length (drop (size_of h) ns) < length ns
head_shorter ns h e =
    let size = head_size ns h e in
    let left : length (drop (size_of h) ns) ≡ length ns - size_of h = length-drop (size_of h) ns in
    omega arith

-- a head that was written is read back
pub head_front : (h : Head) (os ns : List ℕ) → length os ≡ objects_of h → objects_of h ≤ 8 → binds_of h ≤ 8 → head_of (front h os ++ ns) ≡ Ok h
unfolding head_of output_head input_head restriction_head
head_front Terminated os ns e few binds = refl
head_front (Output subject count) os ns e few binds =
    let small : ltb 8 count ≡ false = le-ltb 8 count few in
    let long : ltb (length (os ++ ns)) count ≡ false = le-ltb (length (os ++ ns)) count (omega (arith, length-append os ns)) in
    rw (small, long)
head_front (Input subject count) os ns e few binds =
    let small : ltb 8 count ≡ false = le-ltb 8 count binds in
    rw small
head_front Choice os ns e few binds = refl
head_front Parallel os ns e few binds = refl
head_front (Restriction sort) os ns e few binds = refl
head_front Replication os ns e few binds = refl

pub objects_front : (h : Head) (os ns : List ℕ) → length os ≡ objects_of h → built h (objects_in h (front h os ++ ns)) ≡ built h os
unfolding objects_in built
objects_front Terminated os ns e = refl
objects_front (Output subject count) os ns e = ap (built (Output subject count)) (take_at os ns count e)
objects_front (Input subject count) os ns e = refl
objects_front Choice os ns e = refl
objects_front Parallel os ns e = refl
objects_front (Restriction sort) os ns e = refl
objects_front Replication os ns e = refl

pub rest_front : (h : Head) (os ns : List ℕ) → length os ≡ objects_of h → drop (size_of h) (front h os ++ ns) ≡ ns
rest_front h os ns e = drop_at (front h os) ns (size_of h) (length_front h os e)

-- what a part's scan must have been
pub wrapped_whole : (node : Process → Process) (s : Scanned) (p : Process) (q : List ℕ) → wrapped node s ≡ whole p q → (t : Process) × (s ≡ whole t q) × (p ≡ node t)
unfolding wrapped
wrapped_whole node (whole t r) p q e = (t, cc, cc)
wrapped_whole node (stuck r) p q e = absurd (stuck_whole p q r e)

pub secondly_whole : (go : List ℕ → Scanned) (node : Process → Process → Process) (s : Scanned) (p : Process) (q : List ℕ) → secondly go node s ≡ whole p q →
    (t u : Process) × (r : List ℕ) × (s ≡ whole t r) × (go r ≡ whole u q) × (p ≡ node t u)
unfolding secondly
secondly_whole go node (whole t r) p q e =
    let (u, f, g) = wrapped_whole (node t) (go r) p q e in
    (t, u, r, refl, f, g)
secondly_whole go node (stuck r) p q e = absurd (stuck_whole p q r e)

wrapped_stuck : (node : Process → Process) (s : Scanned) (q : List ℕ) → wrapped node s ≡ stuck q → s ≡ stuck q
unfolding wrapped
wrapped_stuck node (whole t r) q e = absurd (stuck_whole (node t) r q (sym e))
wrapped_stuck node (stuck r) q e = e

-- what a scan leaves is no longer than what it was given
abbrev Shortens : (List ℕ → Scanned) → Type 0
Shortens go = (ns : List ℕ) (p : Process) (q : List ℕ) → go ns ≡ whole p q → length q ≤ length ns

grown_shortens : (go : List ℕ → Scanned) → Shortens go → (node : Process → Process → Process) (parts : Parts) (ns : List ℕ) (p : Process) (q : List ℕ) →
    grown go node parts ns ≡ whole p q → length q ≤ length ns
unfolding grown
grown_shortens go below node Zero ns p q e =
    let same : ns ≡ q = cc in
    omega (arith, ap length same)
grown_shortens go below node One ns p q e =
    let (t, f, g) = wrapped_whole (λ p. node p trees.terminated) (go ns) p q e in
    below ns t q f
grown_shortens go below node Two ns p q e =
    let (t, u, r, f, g, h) = secondly_whole go node (go ns) p q e in
    let one : length r ≤ length ns = below ns t r f in
    let two : length q ≤ length r = below r u q g in
    omega arith

onward_shortens : (go : List ℕ → Scanned) → Shortens go → (ns : List ℕ) (p : Process) (q : List ℕ) (r : Result Head ℕ) → head_of ns ≡ r → onward go ns r ≡ whole p q → length q ≤ length ns
unfolding onward
onward_shortens go below ns p q (Ok h) o e =
    let short = head_shorter ns h o in
    let left : length q ≤ length (drop (size_of h) ns) = grown_shortens go below (built h (objects_in h ns)) (parts_of h) (drop (size_of h) ns) p q e in
    omega arith
onward_shortens go below ns p q (Err k) o e = absurd (stuck_whole p q (drop k ns) e)

pub with_shortens : (k : ℕ) (ns : List ℕ) (p : Process) (q : List ℕ) → scan_with k ns ≡ whole p q → length q ≤ length ns
unfolding scan_with
with_shortens zero ns p q e = absurd (stuck_whole p q ns e)
with_shortens (suc k) ns p q e = onward_shortens (scan_with k) (with_shortens k) ns p q (head_of ns) refl e

-- two scans that agree on shorter lists
module _ (f g : List ℕ → Scanned) (n : ℕ) (short : Shortens f) (same : (ns : List ℕ) → length ns < n → f ns ≡ g ns) where
  secondly_same : (node : Process → Process → Process) (ns : List ℕ) → length ns < n → (s : Scanned) → f ns ≡ s → secondly f node s ≡ secondly g node s
  unfolding secondly
  secondly_same node ns l (whole p q) e =
      let less : length q ≤ length ns = short ns p q e in
      ap (wrapped (node p)) (same q (omega arith))
  secondly_same node ns l (stuck q) e = refl

  grown_same : (node : Process → Process → Process) (parts : Parts) (ns : List ℕ) → length ns < n → grown f node parts ns ≡ grown g node parts ns
  unfolding grown
  grown_same node Zero ns l = refl
  grown_same node One ns l = ap (wrapped (λ p. node p trees.terminated)) (same ns l)
  grown_same node Two ns l = secondly_same node ns l (f ns) refl ∙ ap (secondly g node) (same ns l)

  onward_same : (ns : List ℕ) → length ns ≤ n → (r : Result Head ℕ) → head_of ns ≡ r → onward f ns r ≡ onward g ns r
  unfolding onward
  onward_same ns l (Ok h) o =
      let less = head_shorter ns h o in
      grown_same (built h (objects_in h ns)) (parts_of h) (drop (size_of h) ns) (omega arith)
  onward_same ns l (Err k) o = refl

-- how deep it may go does not matter, past the length
fuels_agree : (j k : ℕ) (ns : List ℕ) → length ns < j → length ns < k → scan_with j ns ≡ scan_with k ns
unfolding scan_with
fuels_agree zero k ns l m = absurd (omega arith)
fuels_agree (suc j) zero ns l m = absurd (omega arith)
fuels_agree (suc j) (suc k) ns l m =
    onward_same (scan_with j) (scan_with k) (length ns) (with_shortens j) (λ ms less. fuels_agree j k ms (omega arith) (omega arith)) ns (omega arith) (head_of ns) refl

pub fuel_enough : (k : ℕ) (ns : List ℕ) → length ns < k → scan_with k ns ≡ scan ns
unfolding scan
fuel_enough k ns l = fuels_agree k (suc (length ns)) ns l (omega arith)

pub scan_step : (ns : List ℕ) → scan ns ≡ onward scan ns (head_of ns)
unfolding scan scan_with
scan_step ns = onward_same (scan_with (length ns)) scan (length ns) (with_shortens (length ns)) (λ ms less. fuel_enough (length ns) ms less) ns (omega arith) (head_of ns) refl

pub scan_shortens : (ns : List ℕ) (p : Process) (q : List ℕ) → scan ns ≡ whole p q → length q ≤ length ns
unfolding scan
scan_shortens ns p q e = with_shortens (suc (length ns)) ns p q e

-- one step of a scan, where the head is known
pub scan_head : (ns : List ℕ) (h : Head) → head_of ns ≡ Ok h → scan ns ≡ grown scan (built h (objects_in h ns)) (parts_of h) (drop (size_of h) ns)
unfolding onward
scan_head ns h e = scan_step ns ∙ ap (onward scan ns) e

pub scan_none : (ns : List ℕ) (k : ℕ) → head_of ns ≡ Err k → scan ns ≡ stuck (drop k ns)
unfolding onward
scan_none ns k e = scan_step ns ∙ ap (onward scan ns) e

-- a head, with what it opens
pub scan_front : (h : Head) (os ns : List ℕ) → length os ≡ objects_of h → objects_of h ≤ 8 → binds_of h ≤ 8 → scan (front h os ++ ns) ≡ grown scan (built h os) (parts_of h) ns
scan_front h os ns e few binds =
    scan_head (front h os ++ ns) h (head_front h os ns e few binds)
    ∙ ap₂ (λ (node : Process → Process → Process) (r : List ℕ). grown scan node (parts_of h) r) (objects_front h os ns e) (rest_front h os ns e)

-- what was scanned was written there
abbrev Sound : ℕ → Type 0
Sound n = (ns : List ℕ) (p : Process) (q : List ℕ) → length ns < n → scan ns ≡ whole p q → (ns ≡ write p ++ q) × (counts_fit p ≡ true)

grown_sound : (n : ℕ) → Sound n → (node : Process → Process → Process) (parts : Parts) (ns : List ℕ) (p : Process) (q : List ℕ) → length ns < n → grown scan node parts ns ≡ whole p q →
    (t u : Process) × (p ≡ node t u) × (ns ≡ parts_written parts t u ++ q) × (parts_fit parts t u ≡ true)
unfolding grown
grown_sound n below node Zero ns p q l e = (trees.terminated, trees.terminated, cc, cc, refl)
grown_sound n below node One ns p q l e =
    let (t, f, g) = wrapped_whole (λ p. node p trees.terminated) (scan ns) p q e in
    let (w, c) = below ns t q l f in
    (t, trees.terminated, g, w, c)
grown_sound n below node Two ns p q l e =
    let (t, u, r, f, g, h) = secondly_whole scan node (scan ns) p q e in
    let less : length r ≤ length ns = scan_shortens ns t r f in
    let (w, c) = below ns t r l f in
    let (v, d) = below r u q (omega arith) g in
    (t, u, h, w ∙ ap (◌++◌ (write t)) v ∙ sym (append_assoc (write t) (write u) q), and_from (counts_fit t) (counts_fit u) c d)

onward_sound : (n : ℕ) → Sound n → (ns : List ℕ) (p : Process) (q : List ℕ) → length ns ≤ n → (r : Result Head ℕ) → head_of ns ≡ r → onward scan ns r ≡ whole p q →
    (ns ≡ write p ++ q) × (counts_fit p ≡ true)
unfolding onward
onward_sound n below ns p q l (Ok h) o e =
    let less = head_shorter ns h o in
    let opens = head_opens ns h o in
    let os : List ℕ = objects_in h ns in
    let (t, u, f, g, c) = grown_sound n below (built h os) (parts_of h) (drop (size_of h) ns) p q (omega arith) e in
    let w : write p ≡ front h os ++ parts_written (parts_of h) t u = ap write f ∙ write-built h os t u opens.count in (
      opens.cut ∙ ap (◌++◌ (front h os)) g ∙ sym (append_assoc (front h os) (parts_written (parts_of h) t u) q) ∙ ap (λ (r : List ℕ). r ++ q) (sym w),
      ap counts_fit f ∙ fit_built h os t u opens.count opens.few opens.binds c,
    )
onward_sound n below ns p q l (Err k) o e = absurd (stuck_whole p q (drop k ns) e)

sound_under : (n : ℕ) → Sound n
sound_under zero ns p q l e = absurd (omega arith)
sound_under (suc n) ns p q l e = onward_sound n (sound_under n) ns p q (omega arith) (head_of ns) refl (sym (scan_step ns) ∙ e)

pub scan_sound : (ns : List ℕ) (p : Process) (q : List ℕ) → scan ns ≡ whole p q → (ns ≡ write p ++ q) × (counts_fit p ≡ true)
scan_sound ns p q e = sound_under (suc (length ns)) ns p q (omega arith) e

-- and what was written is scanned
pub scan_complete : (p : Process) (q : List ℕ) → counts_fit p ≡ true → scan (write p ++ q) ≡ whole p q
unfolding write counts_fit grown wrapped secondly built
scan_complete trees.terminated q c = scan_front Terminated [] q refl (omega arith) (omega arith)
scan_complete (trees.output s os p) q c =
    let (few, fit) = and_parts (leb (length os) 8) (counts_fit p) c in
    let below : scan (write p ++ q) ≡ whole p q = scan_complete p q fit in
    ap scan (ap (λ (r : List ℕ). 1 ∷ s ∷ length os ∷ r) (append_assoc os (write p) q)) ∙ scan_front (Output s (length os)) os (write p ++ q) refl (leb-true (length os) 8 few) (omega arith) ∙ rw below refl
scan_complete (trees.input s n p) q c =
    let (few, fit) = and_parts (leb n 8) (counts_fit p) c in
    let below : scan (write p ++ q) ≡ whole p q = scan_complete p q fit in
    scan_front (Input s n) [] (write p ++ q) refl (omega arith) (leb-true n 8 few) ∙ rw below refl
scan_complete (trees.choice p r) q c =
    let (fit, fits) = and_parts (counts_fit p) (counts_fit r) c in
    let below : scan (write p ++ (write r ++ q)) ≡ whole p (write r ++ q) = scan_complete p (write r ++ q) fit in
    let second : scan (write r ++ q) ≡ whole r q = scan_complete r q fits in
    ap scan (ap (◌∷◌ 3) (append_assoc (write p) (write r) q)) ∙ scan_front Choice [] (write p ++ (write r ++ q)) refl (omega arith) (omega arith) ∙ rw (below, second) refl
scan_complete (trees.parallel p r) q c =
    let (fit, fits) = and_parts (counts_fit p) (counts_fit r) c in
    let below : scan (write p ++ (write r ++ q)) ≡ whole p (write r ++ q) = scan_complete p (write r ++ q) fit in
    let second : scan (write r ++ q) ≡ whole r q = scan_complete r q fits in
    ap scan (ap (◌∷◌ 4) (append_assoc (write p) (write r) q)) ∙ scan_front Parallel [] (write p ++ (write r ++ q)) refl (omega arith) (omega arith) ∙ rw (below, second) refl
scan_complete (trees.restriction s p) q c =
    let below : scan (write p ++ q) ≡ whole p q = scan_complete p q c in
    scan_front (Restriction s) [] (write p ++ q) refl (omega arith) (omega arith) ∙ rw below refl
scan_complete (trees.replication p) q c =
    let below : scan (write p ++ q) ≡ whole p q = scan_complete p q c in
    scan_front Replication [] (write p ++ q) refl (omega arith) (omega arith) ∙ rw below refl

-- no head at the start of numbers: how it could go on to one, and that what follows the place does not matter
pub record Lacks (ns : List ℕ) (k : ℕ) : Type 0 where
  pub within : k ≤ length ns
  pub head : Head
  pub objects : List ℕ
  pub more : List ℕ
  pub count : length objects ≡ objects_of head
  pub few : objects_of head ≤ 8
  pub binds : binds_of head ≤ 8
  pub written : front head objects ≡ take k ns ++ more
  pub bytes : are_bytes more ≡ true
  pub local : (x : ℕ) (r rest : List ℕ) → drop k ns ≡ x ∷ r → head_of (take k ns ++ x ∷ rest) ≡ Err k

ok_err : {A B : Type 0} (a : A) (b : B) → ◌≡◌ {A = Result A B} (Ok a) (Err b) → ⊥
ok_err a b e = err_ok a b (sym e)

nil_cons : {A : Type 0} (x : A) (xs : List A) → [] ≡ x ∷ xs → ⊥
nil_cons x xs e = let z : ◌≡◌ {A = ℕ} 0 1 = cc in omega arith

module _ (s c : ℕ) (ns : List ℕ) where
  output_lacks : (k : ℕ) (b d : Bool) → ltb 8 c ≡ b → ltb (length ns) c ≡ d → cond b (Err 2) (cond d (Err (3 + length ns)) (Ok (Output s c))) ≡ Err k →
      Lacks (1 ∷ s ∷ c ∷ ns) k
  unfolding head_of output_head are_bytes
  output_lacks k true d small long e =
      subst (Lacks (1 ∷ s ∷ c ∷ ns)) (err_is _ _ e)
      (record {
        within = omega arith;
        head = Output s 0;
        objects = [];
        more = 0 ∷ [];
        count = refl;
        few = omega arith;
        binds = omega arith;
        written = refl;
        bytes = refl;
        local = λ x r rest f. let same : x ≡ c = cc in rw (same, small);
      })
  output_lacks k false true small long e =
      let few : c ≤ 8 = ltb-false 8 c small in
      let lack : length ns < c = ltb-true (length ns) c long in
      let three : suc (suc (suc (length ns))) ≡ 3 + length ns = omega arith in
      let zeros : List ℕ = replicate (c - length ns) 0 in
      let sum : length (ns ++ zeros) ≡ c = omega (arith, length-append ns zeros, length-replicate {A = ℕ} (c - length ns) 0) in
      let all : take (length ns) ns ≡ ns = take_all (length ns) ns (omega arith) in
      let none : drop (length ns) ns ≡ [] = drop_all (length ns) ns (omega arith) in
      subst (Lacks (1 ∷ s ∷ c ∷ ns)) (three ∙ err_is _ _ e)
      (record {
        within = omega arith;
        head = Output s c;
        objects = ns ++ zeros;
        more = zeros;
        count = sum;
        few = few;
        binds = omega arith;
        written = ap (λ (r : List ℕ). 1 ∷ s ∷ c ∷ (r ++ zeros)) (sym all);
        bytes = bytes_zeros (c - length ns);
        local = λ x r rest f. absurd (nil_cons x r (sym none ∙ f));
      })
  output_lacks k false false small long e = absurd (ok_err _ _ e)

  input_lacks : (k : ℕ) (b : Bool) → ltb 8 c ≡ b → cond {A = Result Head ℕ} b (Err 2) (Ok (Input s c)) ≡ Err k → Lacks (2 ∷ s ∷ c ∷ ns) k
  unfolding head_of input_head are_bytes
  input_lacks k true small e =
      subst (Lacks (2 ∷ s ∷ c ∷ ns)) (err_is _ _ e)
      (record {
        within = omega arith;
        head = Input s 0;
        objects = [];
        more = 0 ∷ [];
        count = refl;
        few = omega arith;
        binds = omega arith;
        written = refl;
        bytes = refl;
        local = λ x r rest f. let same : x ≡ c = cc in rw (same, small);
      })
  input_lacks k false small e = absurd (ok_err _ _ e)

-- numbers that end too soon
ended : (ns : List ℕ) (k : ℕ) (h : Head) (os more : List ℕ) → length ns ≡ k → length os ≡ objects_of h → objects_of h ≤ 8 → binds_of h ≤ 8 → front h os ≡ ns ++ more → are_bytes more ≡ true → Lacks ns k
ended ns k h os more l c few binds w b =
    let all : take k ns ≡ ns = take_all k ns (omega arith) in
    let none : drop k ns ≡ [] = drop_all k ns (omega arith) in
    record {
      within = omega arith;
      head = h;
      objects = os;
      more = more;
      count = c;
      few = few;
      binds = binds;
      written = w ∙ ap (λ (r : List ℕ). r ++ more) (sym all);
      bytes = b;
      local = λ x r rest f. absurd (nil_cons x r (sym none ∙ f));
    }

pub head_lacks : (ns : List ℕ) (k : ℕ) → head_of ns ≡ Err k → Lacks ns k
unfolding head_of output_head input_head restriction_head are_bytes
head_lacks [] k e = ended [] k Terminated [] (0 ∷ []) (err_is _ _ e) refl (omega arith) (omega arith) refl refl
head_lacks (zero ∷ ns) k e = absurd (ok_err _ _ e)
head_lacks (suc zero ∷ []) k e = ended (1 ∷ []) k (Output 0 0) [] (0 ∷ 0 ∷ []) (err_is _ _ e) refl (omega arith) (omega arith) refl refl
head_lacks (suc zero ∷ s ∷ []) k e = ended (1 ∷ s ∷ []) k (Output s 0) [] (0 ∷ []) (err_is _ _ e) refl (omega arith) (omega arith) refl refl
head_lacks (suc zero ∷ s ∷ c ∷ ns) k e = output_lacks s c ns k (ltb 8 c) (ltb (length ns) c) refl refl e
head_lacks (suc (suc zero) ∷ []) k e = ended (2 ∷ []) k (Input 0 0) [] (0 ∷ 0 ∷ []) (err_is _ _ e) refl (omega arith) (omega arith) refl refl
head_lacks (suc (suc zero) ∷ s ∷ []) k e = ended (2 ∷ s ∷ []) k (Input s 0) [] (0 ∷ []) (err_is _ _ e) refl (omega arith) (omega arith) refl refl
head_lacks (suc (suc zero) ∷ s ∷ c ∷ ns) k e = input_lacks s c ns k (ltb 8 c) refl e
head_lacks (suc (suc (suc zero)) ∷ ns) k e = absurd (ok_err _ _ e)
head_lacks (suc (suc (suc (suc zero))) ∷ ns) k e = absurd (ok_err _ _ e)
head_lacks (suc (suc (suc (suc (suc zero)))) ∷ []) k e = ended (5 ∷ []) k (Restriction 0) [] (0 ∷ []) (err_is _ _ e) refl (omega arith) (omega arith) refl refl
head_lacks (suc (suc (suc (suc (suc zero)))) ∷ s ∷ ns) k e = absurd (ok_err _ _ e)
head_lacks (suc (suc (suc (suc (suc (suc zero))))) ∷ ns) k e = absurd (ok_err _ _ e)
head_lacks (suc (suc (suc (suc (suc (suc (suc n)))))) ∷ ns) k e =
    subst (Lacks (suc (suc (suc (suc (suc (suc (suc n)))))) ∷ ns)) (err_is _ _ e)
    (record {
      within = omega arith;
      head = Terminated;
      objects = [];
      more = 0 ∷ [];
      count = refl;
      few = omega arith;
      binds = omega arith;
      written = refl;
      bytes = refl;
      local = λ x r rest f. let same : x ≡ suc (suc (suc (suc (suc (suc (suc n)))))) = cc in rw same;
    })

pub head_place : (ns : List ℕ) (k : ℕ) → head_of ns ≡ Err k → k ≤ length ns
head_place ns k e = (head_lacks ns k e).within

-- a scan that got stuck: its start goes on to a process, and the number that it is stuck at cannot follow the start
pub record Stuck (ns q : List ℕ) : Type 0 where
  pub start : List ℕ
  pub cut : ns ≡ start ++ q
  pub tree : Process
  pub more : List ℕ
  pub written : write tree ≡ start ++ more
  pub counts : counts_fit tree ≡ true
  pub bytes : are_bytes more ≡ true
  pub local : (x : ℕ) (r rest : List ℕ) → q ≡ x ∷ r → scan (start ++ x ∷ rest) ≡ stuck (x ∷ rest)

-- the same of the parts of a node
record StuckParts (parts : Parts) (ns q : List ℕ) : Type 0 where
  start : List ℕ
  cut : ns ≡ start ++ q
  first : Process
  second : Process
  more : List ℕ
  written : parts_written parts first second ≡ start ++ more
  counts : parts_fit parts first second ≡ true
  bytes : are_bytes more ≡ true
  local : (node : Process → Process → Process) (x : ℕ) (r rest : List ℕ) → q ≡ x ∷ r → grown scan node parts (start ++ x ∷ rest) ≡ stuck (x ∷ rest)

abbrev StuckUnder : ℕ → Type 0
StuckUnder n = (ns q : List ℕ) → length ns < n → scan ns ≡ stuck q → Stuck ns q

-- the second of two parts, or the first
two_stuck : (n : ℕ) → StuckUnder n → (node : Process → Process → Process) (ns q : List ℕ) → length ns < n → (s : Scanned) → scan ns ≡ s → secondly scan node s ≡ stuck q → StuckParts Two ns q
unfolding secondly wrapped grown write are_bytes counts_fit
two_stuck n below node ns q l (whole t r) f e =
    let (w, c) = scan_sound ns t r f in
    let less : length r ≤ length ns = scan_shortens ns t r f in
    let s : Stuck r q = below r q (omega arith) (wrapped_stuck (node t) (scan r) q e) in
    record {
      start = write t ++ s.start;
      cut = w ∙ ap (◌++◌ (write t)) s.cut ∙ sym (append_assoc (write t) s.start q);
      first = t;
      second = s.tree;
      more = s.more;
      written = ap (◌++◌ (write t)) s.written ∙ sym (append_assoc (write t) s.start s.more);
      counts = and_from (counts_fit t) (counts_fit s.tree) c s.counts;
      bytes = s.bytes;
      local = λ other x m rest g.
          let one : scan (write t ++ (s.start ++ x ∷ rest)) ≡ whole t (s.start ++ x ∷ rest) = scan_complete t (s.start ++ x ∷ rest) c in
          let two : scan (s.start ++ x ∷ rest) ≡ stuck (x ∷ rest) = s.local x m rest g in
          rw (append_assoc (write t) s.start (x ∷ rest), one, two) refl;
    }
two_stuck n below node ns q l (stuck r) f e =
    let s : Stuck ns q = below ns q l (f ∙ e) in
    record {
      start = s.start;
      cut = s.cut;
      first = s.tree;
      second = trees.terminated;
      more = s.more ++ 0 ∷ [];
      written = ap (λ (m : List ℕ). m ++ 0 ∷ []) s.written ∙ append_assoc s.start s.more (0 ∷ []);
      counts = and_from (counts_fit s.tree) true s.counts refl;
      bytes = bytes_both s.more (0 ∷ []) s.bytes refl;
      local = λ other x m rest g. let one : scan (s.start ++ x ∷ rest) ≡ stuck (x ∷ rest) = s.local x m rest g in rw one refl;
    }

parts_stuck : (n : ℕ) → StuckUnder n → (node : Process → Process → Process) (parts : Parts) (ns q : List ℕ) → length ns < n → grown scan node parts ns ≡ stuck q → StuckParts parts ns q
unfolding grown wrapped
parts_stuck n below node Zero ns q l e = absurd (stuck_whole _ _ q (sym e))
parts_stuck n below node One ns q l e =
    let s : Stuck ns q = below ns q l (wrapped_stuck (λ p. node p trees.terminated) (scan ns) q e) in
    record {
      start = s.start;
      cut = s.cut;
      first = s.tree;
      second = trees.terminated;
      more = s.more;
      written = s.written;
      counts = s.counts;
      bytes = s.bytes;
      local = λ other x m rest g. let one : scan (s.start ++ x ∷ rest) ≡ stuck (x ∷ rest) = s.local x m rest g in rw one refl;
    }
parts_stuck n below node Two ns q l e = two_stuck n below node ns q l (scan ns) refl e

-- parts that are nothing
ending : (parts : Parts) → (are_bytes (parts_written parts trees.terminated trees.terminated) ≡ true) × (parts_fit parts trees.terminated trees.terminated ≡ true)
unfolding are_bytes write counts_fit
ending Zero = (refl, refl)
ending One = (refl, refl)
ending Two = (refl, refl)

onward_stuck : (n : ℕ) → StuckUnder n → (ns q : List ℕ) → length ns ≤ n → (r : Result Head ℕ) → head_of ns ≡ r → onward scan ns r ≡ stuck q → Stuck ns q
unfolding onward
onward_stuck n below ns q l (Ok h) o e =
    let less = head_shorter ns h o in
    let opens = head_opens ns h o in
    let os : List ℕ = objects_in h ns in
    let s : StuckParts (parts_of h) (drop (size_of h) ns) q = parts_stuck n below (built h os) (parts_of h) (drop (size_of h) ns) q (omega arith) e in
    record {
      start = front h os ++ s.start;
      cut = opens.cut ∙ ap (◌++◌ (front h os)) s.cut ∙ sym (append_assoc (front h os) s.start q);
      tree = built h os s.first s.second;
      more = s.more;
      written = write-built h os s.first s.second opens.count ∙ ap (◌++◌ (front h os)) s.written ∙ sym (append_assoc (front h os) s.start s.more);
      counts = fit_built h os s.first s.second opens.count opens.few opens.binds s.counts;
      bytes = s.bytes;
      local = λ x m rest g.
          ap scan (append_assoc (front h os) s.start (x ∷ rest)) ∙ scan_front h os (s.start ++ x ∷ rest) opens.count opens.few opens.binds ∙ s.local (built h os) x m rest g;
    }
onward_stuck n below ns q l (Err k) o e =
    let s : Lacks ns k = head_lacks ns k o in
    let rest_is : drop k ns ≡ q = cc in
    let h : Head = s.head in
    let none = trees.terminated in
    let parts : List ℕ = parts_written (parts_of h) none none in
    let long : length (take k ns) ≡ k = length-take-le k ns s.within in
    record {
      start = take k ns;
      cut = sym (take-append-drop k ns) ∙ ap (◌++◌ (take k ns)) rest_is;
      tree = built h s.objects none none;
      more = s.more ++ parts;
      written = write-built h s.objects none none s.count ∙ ap (λ (m : List ℕ). m ++ parts) s.written ∙ append_assoc (take k ns) s.more parts;
      counts = fit_built h s.objects none none s.count s.few s.binds (ending (parts_of h)).1;
      bytes = bytes_both s.more parts s.bytes (ending (parts_of h)).0;
      local = λ x m rest g. scan_none (take k ns ++ x ∷ rest) k (s.local x m rest (rest_is ∙ g)) ∙ ap stuck (drop_at (take k ns) (x ∷ rest) k long);
    }

stuck_under : (n : ℕ) → StuckUnder n
stuck_under zero ns q l e = absurd (omega arith)
stuck_under (suc n) ns q l e = onward_stuck n (stuck_under n) ns q (omega arith) (head_of ns) refl (sym (scan_step ns) ∙ e)

pub scan_stuck : (ns q : List ℕ) → scan ns ≡ stuck q → Stuck ns q
scan_stuck ns q e = stuck_under (suc (length ns)) ns q (omega arith) e
