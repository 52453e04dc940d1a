-- Renaming and sorts: a renamed tree respects a sorting where the lists of name sorts agree along the renaming.
use Rattle.std.proofs.Common.{◌≡◌, ℕ, zero, suc, ◌+◌, ◌-◌, Bool, true, false, cond, ◌&&◌, eqb, ltb, List, [], ◌∷◌, ◌++◌, map, length, Some, None, Option, sym, refl, ap, ◌∙◌, subst, ap₂, arith}
use Rattle.std.proofs.lemmas.Bool.Decides.{nat_tests, Decides-eqb}
use Rattle.calculus.specs.Trees.{Process, terminated, output, input, choice, parallel, restriction, replication}
use Rattle.calculus.specs.Names.{rename, raise, exchange, send}
use Rattle.calculus.specs.Sorts.{Sorting, sort_of, carried_by, is_sort, have_sorts, carries_so, respects}
use Rattle.calculus.proofs.Pointers.{Lifts, raise_top, exchange_past, send_first, send_next, send_none}

-- a list put in front of another: its own pointers come first
pub sort_of_front : (front names : List ℕ) (p : ℕ) → ltb p (length front) ≡ true → sort_of (front ++ names) p ≡ sort_of front p
unfolding sort_of
sort_of_front [] names p e = absurd (grind (arith, nat_tests))
sort_of_front (s ∷ front) names zero e = refl
sort_of_front (s ∷ front) names (suc p) e = sort_of_front front names p (grind (arith, nat_tests))

pub sort_of_past : (front names : List ℕ) (p : ℕ) → sort_of (front ++ names) (length front + p) ≡ sort_of names p
unfolding sort_of
sort_of_past [] names p = ap (sort_of names) (omega arith)
sort_of_past (s ∷ front) names p =
    let further : suc (length front) + p ≡ suc (length front + p) = omega arith in
    ap (sort_of (s ∷ (front ++ names))) further ∙ sort_of_past front names p

-- two lists of name sorts agree along a pointer function at a depth
abbrev pub Agree : (ℕ → ℕ → ℕ) → ℕ → List ℕ → List ℕ → Type 0
Agree f d names others = (p : ℕ) → sort_of others (f d p) ≡ sort_of names p

-- they still do with a list in front of both, at that many more names
pub agree_front : (f : ℕ → ℕ → ℕ) → Lifts f → (d : ℕ) (names others : List ℕ) → Agree f d names others → (front : List ℕ) → Agree f (d + length front) (front ++ names) (front ++ others)
agree_front f lifts d names others agree front p = go (ltb p (length front)) refl
  where
    go : (b : Bool) → ltb p (length front) ≡ b → sort_of (front ++ others) (f (d + length front) p) ≡ sort_of (front ++ names) p
    go true e =
        let here : f (d + length front) p ≡ p = lifts d (length front) p ∙ ap (λ (t : Bool). cond t p (length front + f d (p - length front))) e in
        ap (sort_of (front ++ others)) here ∙ sort_of_front front others p e ∙ sym (sort_of_front front names p e)
    go false e =
        let past : f (d + length front) p ≡ length front + f d (p - length front)
        = lifts d (length front) p ∙ ap (λ (t : Bool). cond t p (length front + f d (p - length front))) e in
        let is : length front + (p - length front) ≡ p = grind (arith, nat_tests) in
        ap (sort_of (front ++ others)) past ∙ sort_of_past front others (f d (p - length front)) ∙ agree (p - length front)
        ∙ sym (sort_of_past front names (p - length front)) ∙ ap (sort_of (front ++ names)) is

pub agree_one : (f : ℕ → ℕ → ℕ) → Lifts f → (d : ℕ) (names others : List ℕ) → Agree f d names others → (s : ℕ) → Agree f (suc d) (s ∷ names) (s ∷ others)
agree_one f lifts d names others agree s p =
    let deeper : suc d ≡ d + 1 = omega arith in
    ap (λ (k : ℕ). sort_of (s ∷ others) (f k p)) deeper ∙ agree_front f lifts d names others agree (s ∷ []) p

have_sorts_agree : (f : ℕ → ℕ → ℕ) (d : ℕ) (names others : List ℕ) → Agree f d names others → (objects sorts : List ℕ) → have_sorts others (map (f d) objects) sorts ≡ have_sorts names objects sorts
unfolding have_sorts
have_sorts_agree f d names others agree [] [] = refl
have_sorts_agree f d names others agree [] (s ∷ sorts) = refl
have_sorts_agree f d names others agree (o ∷ objects) [] = refl
have_sorts_agree f d names others agree (o ∷ objects) (s ∷ sorts) =
    ap₂ ◌&&◌ (ap (is_sort s) (agree o)) (have_sorts_agree f d names others agree objects sorts)

pub carries_so_same : (test other : List ℕ → Bool) → ((carried : List ℕ) → test carried ≡ other carried) → (o : Option (List ℕ)) → carries_so test o ≡ carries_so other o
unfolding carries_so
carries_so_same test other same None = refl
carries_so_same test other same (Some carried) = same carried

pub counted_same : (n : ℕ) (test other : List ℕ → Bool) → ((carried : List ℕ) → length carried ≡ n → test carried ≡ other carried) → (carried : List ℕ) →
    (eqb (length carried) n && test carried) ≡ (eqb (length carried) n && other carried)
counted_same n test other same carried = go (eqb (length carried) n) refl
  where
    go : (b : Bool) → eqb (length carried) n ≡ b → (eqb (length carried) n && test carried) ≡ (eqb (length carried) n && other carried)
    go true e = ap (λ (t : Bool). eqb (length carried) n && t) (same carried ((Decides-eqb (length carried) n).0 e))
    go false e = ap (λ (t : Bool). t && test carried) e ∙ sym (ap (λ (t : Bool). t && other carried) e)

module _ (f : ℕ → ℕ → ℕ) (lifts : Lifts f) (sorting : Sorting) where
  pub respects_renamed : (d : ℕ) (names others : List ℕ) → Agree f d names others → (t : Process) → respects sorting others (rename f d t) ≡ respects sorting names t
  unfolding respects rename
  respects_renamed d names others agree terminated = refl
  respects_renamed d names others agree (output s os p) =
      let subject : carried_by sorting (sort_of others (f d s)) ≡ carried_by sorting (sort_of names s) = ap (carried_by sorting) (agree s) in
      let objects = carries_so_same (have_sorts others (map (f d) os)) (have_sorts names os) (have_sorts_agree f d names others agree os) in
      ap₂ ◌&&◌ (ap (carries_so (have_sorts others (map (f d) os))) subject ∙ objects _) (respects_renamed d names others agree p)
  respects_renamed d names others agree (input s n p) =
      let subject : carried_by sorting (sort_of others (f d s)) ≡ carried_by sorting (sort_of names s) = ap (carried_by sorting) (agree s) in
      ap (carries_so (λ carried. eqb (length carried) n && respects sorting (carried ++ others) (rename f (d + n) p))) subject
      ∙ carries_so_same _ _ (counted_same n (λ carried. respects sorting (carried ++ others) (rename f (d + n) p)) (λ carried. respects sorting (carried ++ names) p)
      (λ carried e. respects_renamed (d + n) (carried ++ names) (carried ++ others) (subst (λ (k : ℕ). Agree f (d + k) (carried ++ names) (carried ++ others)) e (agree_front f lifts d names others agree carried)) p)) _
  respects_renamed d names others agree (choice p q) = ap₂ ◌&&◌ (respects_renamed d names others agree p) (respects_renamed d names others agree q)
  respects_renamed d names others agree (parallel p q) = ap₂ ◌&&◌ (respects_renamed d names others agree p) (respects_renamed d names others agree q)
  respects_renamed d names others agree (restriction s p) = respects_renamed (suc d) (s ∷ names) (s ∷ others) (agree_one f lifts d names others agree s) p
  respects_renamed d names others agree (replication p) = respects_renamed d names others agree p

-- the agreements that the laws and communication rest on
pub raise_agrees : (s : ℕ) (names : List ℕ) → Agree raise 0 names (s ∷ names)
unfolding sort_of
raise_agrees s names p = ap (sort_of (s ∷ names)) (raise_top p)

pub exchange_agrees : (s t : ℕ) (names : List ℕ) → Agree exchange 0 (t ∷ s ∷ names) (s ∷ t ∷ names)
unfolding exchange sort_of
exchange_agrees s t names zero = refl
exchange_agrees s t names (suc zero) = refl
exchange_agrees s t names (suc (suc p)) = ap (sort_of (s ∷ t ∷ names)) (exchange_past p)

is_sort_lem : (s : ℕ) (o : Option ℕ) → is_sort s o ≡ true → o ≡ Some s
unfolding is_sort
is_sort_lem s None e = cc
is_sort_lem s (Some t) e = ap Some ((Decides-eqb t s).0 e)

pub both_left : (a b : Bool) → (a && b) ≡ true → a ≡ true
both_left true b e = refl
both_left false b e = e

pub both_right : (a b : Bool) → (a && b) ≡ true → b ≡ true
both_right true b e = e
both_right false true e = refl
both_right false false e = e

pub send_agrees : (names objects sorts : List ℕ) → have_sorts names objects sorts ≡ true → Agree (send objects) 0 (sorts ++ names) names
unfolding have_sorts sort_of
send_agrees names [] [] e p = ap (sort_of names) (send_none p)
send_agrees names [] (s ∷ sorts) e p = cc
send_agrees names (o ∷ objects) [] e p = cc
send_agrees names (o ∷ objects) (s ∷ sorts) e zero = ap (sort_of names) (send_first o objects) ∙ is_sort_lem s (sort_of names o) (both_left _ _ e)
send_agrees names (o ∷ objects) (s ∷ sorts) e (suc p) = ap (sort_of names) (send_next o objects p) ∙ send_agrees names objects sorts (both_right _ _ e) p
