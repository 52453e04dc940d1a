-- What reading answers, from what is left after one process.
use Rattle.std.proofs.Common.{◌≡◌, ℕ, ◌-◌, ◌<◌, ◌≤◌, true, List, [], ◌∷◌, length, is_ok, false, Ok, Err, IfOk, Result, sym, refl, ap, ◌∙◌, subst, arith}
use Rattle.std.proofs.lemmas.Bool.{false≢true}
use Rattle.calculus.specs.Trees.{Process}
use Rattle.refusal.specs.declared.Fault.{Fault}
use Rattle.refusal.specs.declared.Refusal.TheVariants.{TermTooLong, NotOneTerm}
use Rattle.refusal.specs.Writes.{fault}
use Rattle.terms.specs.declared.term.Term.{Term}
use Rattle.terms.specs.Fitting.{are_bytes, Fits, LongestStart}
use Rattle.terms.specs.Reading.{Scanned, whole, stuck, scan, rest_of, alone, reading, is_term, tree_of}
use Rattle.terms.specs.Views.{bytes_of, outcome_of, read_as}
use Rattle.terms.proofs.Readings.{reading_alone, reading_long, reading_refused, decides_fits, term_reading, term_short}

whole_alone : (ns q : List ℕ) (s : Scanned) → Ok q ≡ rest_of s → length q ≡ 0 → Ok tt ≡ outcome_of (alone ns s)
unfolding rest_of alone outcome_of
whole_alone ns q (whole p []) e h = refl
whole_alone ns q (whole p (n ∷ r)) e h = let same : q ≡ n ∷ r = cc in absurd (omega (arith, ap length same))
whole_alone ns q (stuck r) e h = let z : ◌≡◌ {A = ℕ} 0 1 = cc in absurd (omega arith)

left_alone : (ns q : List ℕ) (s : Scanned) → Ok q ≡ rest_of s → 0 < length q → Err (fault NotOneTerm (length ns - length q)) ≡ outcome_of (alone ns s)
unfolding rest_of alone outcome_of
left_alone ns q (whole p []) e h = let same : q ≡ [] = cc in absurd (omega (arith, ap length same))
left_alone ns q (whole p (n ∷ r)) e h = let same : q ≡ n ∷ r = cc in ap (λ (x : List ℕ). Err (fault NotOneTerm (length ns - length x))) same
left_alone ns q (stuck r) e h = let z : ◌≡◌ {A = ℕ} 0 1 = cc in absurd (omega arith)

stuck_alone : (ns q : List ℕ) (s : Scanned) → Err q ≡ rest_of s → Err (fault NotOneTerm (length ns - length q)) ≡ outcome_of (alone ns s)
unfolding rest_of alone outcome_of
stuck_alone ns q (whole p r) e = let z : ◌≡◌ {A = ℕ} 0 1 = cc in absurd (omega arith)
stuck_alone ns q (stuck r) e = let same : q ≡ r = cc in ap (λ (x : List ℕ). Err (fault NotOneTerm (length ns - length x))) same

pub examined_long : (ns : List ℕ) → 4096 < length ns → Err (fault TermTooLong 0) ≡ outcome_of (reading ns)
unfolding outcome_of
examined_long ns h = ap outcome_of (sym (reading_long ns h))

module _ (ns q : List ℕ) (bytes : are_bytes ns ≡ true) (short : length ns ≤ 4096) where
  pub examined_whole : Ok q ≡ rest_of (scan ns) → length q ≡ 0 → Ok tt ≡ outcome_of (reading ns)
  examined_whole e h = whole_alone ns q (scan ns) e h ∙ ap outcome_of (sym (reading_alone ns bytes short))

  pub examined_left : Ok q ≡ rest_of (scan ns) → 0 < length q → Err (fault NotOneTerm (length ns - length q)) ≡ outcome_of (reading ns)
  examined_left e h = left_alone ns q (scan ns) e h ∙ ap outcome_of (sym (reading_alone ns bytes short))

  pub examined_stuck : Err q ≡ rest_of (scan ns) → Err (fault NotOneTerm (length ns - length q)) ≡ outcome_of (reading ns)
  examined_stuck e = stuck_alone ns q (scan ns) e ∙ ap outcome_of (sym (reading_alone ns bytes short))

-- what the outcome of reading tells of the bytes
module _ (ns : List ℕ) where
  pub ok_term : Ok tt ≡ outcome_of (reading ns) → is_term ns ≡ true
  unfolding outcome_of is_term
  ok_term is = by_reading (reading ns) is
    where
      by_reading : (r : Result Process Fault) → Ok tt ≡ outcome_of r → is_ok r ≡ true
      by_reading (Ok p) e = refl
      by_reading (Err f) e = let z : ◌≡◌ {A = ℕ} 0 1 = cc in absurd (omega arith)

  pub err_reading : (f : Fault) → Err f ≡ outcome_of (reading ns) → reading ns ≡ Err f
  unfolding outcome_of
  err_reading f is = by_reading (reading ns) is
    where
      by_reading : (r : Result Process Fault) → Err f ≡ outcome_of r → r ≡ Err f
      by_reading (Ok p) e = let z : ◌≡◌ {A = ℕ} 0 1 = cc in absurd (omega arith)
      by_reading (Err g) e = let same : f ≡ g = cc in ap (λ (h : Fault). Err h) (sym same)

-- what `read` answers: of a term
module _ (ns : List ℕ) (term : is_term ns ≡ true) where
  pub read_fits : Fits ns
  read_fits = (decides_fits ns).0 term

  pub read_short : 4096 < length ns → ⊥
  read_short h = omega (arith, term_short ns term)

  pub read_tree : (t : Term) → bytes_of t ≡ ns → read_as (Ok t) ≡ reading ns
  unfolding read_as
  read_tree t e = ap (λ (x : List ℕ). Ok (tree_of x)) e ∙ sym (term_reading ns term)

-- and of other bytes
module _ (ns : List ℕ) (f : Fault) (is : reading ns ≡ Err f) (r : Result Term Fault) (told : r ≡ Err f) where
  pub declined_as : read_as r ≡ reading ns
  unfolding read_as
  declined_as = ap read_as told ∙ sym is

  pub declined_term : IfOk r (λ term. bytes_of term ≡ ns)
  declined_term = subst (λ (x : Result Term Fault). IfOk x (λ term. bytes_of term ≡ ns)) (sym told) tt

  pub declined_unfit : Fits ns → is_ok r ≡ true
  unfolding is_term
  declined_unfit fits =
      let read : is_ok (reading ns) ≡ true = (decides_fits ns).1 fits in
      let z : false ≡ true = sym (ap (λ (x : Result Process Fault). is_ok x) is) ∙ read in
      absurd (false≢true z)

  pub declined_fits : is_ok r ≡ true → Fits ns
  declined_fits ok = let z : false ≡ true = sym (ap (λ (x : Result Term Fault). is_ok x) told) ∙ ok in absurd (false≢true z)

  pub declined_long : 4096 < length ns → r ≡ Err (fault TermTooLong 0)
  declined_long h =
      let same : f ≡ fault TermTooLong 0 = cc (is, reading_long ns h) in
      told ∙ ap (λ (g : Fault). Err g) same

  pub declined_refused : are_bytes ns ≡ true → length ns ≤ 4096 → (Fits ns → ⊥) → (place : ℕ) × (r ≡ Err (fault NotOneTerm place)) × LongestStart ns place
  declined_refused bytes short unfit =
      let (place, was, longest) = reading_refused ns bytes short unfit in
      let same : f ≡ fault NotOneTerm place = cc (is, was) in
      (place, told ∙ ap (λ (g : Fault). Err g) same, longest)
