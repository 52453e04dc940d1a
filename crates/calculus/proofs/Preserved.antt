-- Sorts are preserved: by each law in both directions, by communication, at any place.
use Rattle.std.proofs.Common.{◌≡◌, ℕ, Bool, true, false, ◌&&◌, eqb, List, ◌∷◌, ◌++◌, length, Some, None, Option, sym, refl, ap, ◌∙◌, ap₂}
use mathlib.Core.Bool.{and-true, and_self, and_assoc, and_comm}
use Rattle.calculus.specs.Trees.{Process}
use Rattle.calculus.specs.Names.{raise, exchange, send, sent}
use Rattle.calculus.specs.Laws.{Law, Instance, commuting_parts, regrouping_parts, part_of_nothing, commuting_arms, regrouping_arms, arm_of_nothing, trading_places, restricting_nothing, unfolding_once, extruding}
use Rattle.calculus.specs.Congruence.{Congruent, by_law, same, turned, joined, outputs, inputs, choices, parallels, restrictions, replications}
use Rattle.calculus.specs.Reduction.{Sends, sends_alone, sends_in_choice, Receives, receives_alone, receives_in_choice, Communicates, communicates, Reduces, by_communication, beside, under_restriction, up_to_congruence, InReductions, in_none, in_one_more}
use Rattle.calculus.specs.Contexts.{Context, hole, below_output, below_input, in_left_arm, in_right_arm, in_left_part, in_right_part, below_restriction, below_replication, fill}
use Rattle.calculus.specs.Steps.{Direction, Lawful, read_forth, read_back, Label, Step, law_step, communication_step, Steps, no_step, one_step}
use Rattle.calculus.specs.Sorts.{Sorting, sort_of, carried_by, have_sorts, carries_so, respects}
use Rattle.calculus.proofs.Pointers.{raise_lifts, exchange_lifts, send_lifts}
use Rattle.calculus.proofs.Sorted.{respects_renamed, raise_agrees, exchange_agrees, send_agrees, carries_so_same, counted_same, both_left, both_right}

both : (a b : Bool) → a ≡ true → b ≡ true → (a && b) ≡ true
both true b e f = f
both false b e f = e

module _ (sorting : Sorting) where
  -- both sides of a law respect alike
  pub law_respects : {law : Law} {lost : Option ℕ} {p q : Process} → Instance law lost p q → (names : List ℕ) → respects sorting names p ≡ respects sorting names q
  unfolding respects
  law_respects (commuting_parts p q) names = and_comm (respects sorting names p) (respects sorting names q)
  law_respects (regrouping_parts p q r) names = sym (and_assoc (respects sorting names p) (respects sorting names q) (respects sorting names r))
  law_respects (part_of_nothing p) names = and-true (respects sorting names p)
  law_respects (commuting_arms p q) names = and_comm (respects sorting names p) (respects sorting names q)
  law_respects (regrouping_arms p q r) names = sym (and_assoc (respects sorting names p) (respects sorting names q) (respects sorting names r))
  law_respects (arm_of_nothing p) names = and-true (respects sorting names p)
  law_respects (trading_places s t p) names =
      sym (respects_renamed exchange exchange_lifts sorting 0 (t ∷ s ∷ names) (s ∷ t ∷ names) (exchange_agrees s t names) p)
  law_respects (restricting_nothing s) names = refl
  law_respects (unfolding_once p) names = sym (and_self (respects sorting names p))
  law_respects (extruding s p q) names =
      ap (λ (b : Bool). b && respects sorting (s ∷ names) q) (sym (respects_renamed raise raise_lifts sorting 0 names (s ∷ names) (raise_agrees s names) p))

  -- so do congruent processes
  pub congruent_respects : {p q : Process} → Congruent p q → (names : List ℕ) → respects sorting names p ≡ respects sorting names q
  unfolding respects
  congruent_respects (by_law i) names = law_respects i names
  congruent_respects same names = refl
  congruent_respects (turned c) names = sym (congruent_respects c names)
  congruent_respects (joined c d) names = congruent_respects c names ∙ congruent_respects d names
  congruent_respects (outputs {subject = s} {objects = os} c) names = ap (λ (b : Bool). carries_so (have_sorts names os) (carried_by sorting (sort_of names s)) && b) (congruent_respects c names)
  congruent_respects (inputs {subject = s} {count = n} {p = p} {q = q} c) names =
      carries_so_same _ _ (counted_same n (λ carried. respects sorting (carried ++ names) p) (λ carried. respects sorting (carried ++ names) q) (λ carried e. congruent_respects c (carried ++ names))) _
  congruent_respects (choices c d) names = ap₂ ◌&&◌ (congruent_respects c names) (congruent_respects d names)
  congruent_respects (parallels c d) names = ap₂ ◌&&◌ (congruent_respects c names) (congruent_respects d names)
  congruent_respects (restrictions {sort = s} c) names = congruent_respects c (s ∷ names)
  congruent_respects (replications c) names = congruent_respects c names

  -- a process keeps what another respects, under every list of name sorts
  abbrev pub Keeps : Process → Process → Type 0
  Keeps p q = (names : List ℕ) → respects sorting names p ≡ true → respects sorting names q ≡ true

  sender_respects : {s : ℕ} {os : List ℕ} {p sender : Process} → Sends s os p sender → (names : List ℕ) → respects sorting names sender ≡ true →
      (carries_so (have_sorts names os) (carried_by sorting (sort_of names s)) ≡ true) × (respects sorting names p ≡ true)
  unfolding respects
  sender_respects {s = s} {os = os} {p = p} sends_alone names h = (both_left _ _ h, both_right (carries_so (have_sorts names os) (carried_by sorting (sort_of names s))) (respects sorting names p) h)
  sender_respects {s = s} {os = os} {p = p} (sends_in_choice other) names h =
      let alone : (carries_so (have_sorts names os) (carried_by sorting (sort_of names s)) && respects sorting names p) ≡ true = both_left _ _ h in
      (both_left _ _ alone, both_right (carries_so (have_sorts names os) (carried_by sorting (sort_of names s))) (respects sorting names p) alone)

  receiver_respects : {s n : ℕ} {q receiver : Process} → Receives s n q receiver → (names : List ℕ) → respects sorting names receiver ≡ true →
      carries_so (λ carried. eqb (length carried) n && respects sorting (carried ++ names) q) (carried_by sorting (sort_of names s)) ≡ true
  unfolding respects
  receiver_respects receives_alone names h = h
  receiver_respects (receives_in_choice other) names h = both_left _ _ h

  received : (os : List ℕ) (q : Process) (names : List ℕ) (o : Option (List ℕ)) → carries_so (have_sorts names os) o ≡ true →
      carries_so (λ carried. eqb (length carried) (length os) && respects sorting (carried ++ names) q) o ≡ true → respects sorting names (sent os q) ≡ true
  unfolding carries_so
  received os q names None h k = cc
  received os q names (Some carried) h k =
      respects_renamed (send os) (send_lifts os) sorting 0 (carried ++ names) names (send_agrees names os carried h) q ∙ both_right (eqb (length carried) (length os)) (respects sorting (carried ++ names) q) k

  pub communication_keeps : {p q : Process} → Communicates p q → Keeps p q
  unfolding respects
  communication_keeps (communicates s os p q {sender} {receiver} sends receives) names h =
      let left = sender_respects sends names (both_left _ _ h) in
      let right = receiver_respects receives names (both_right (respects sorting names sender) (respects sorting names receiver) h) in
      both _ _ left.1 (received os q names (carried_by sorting (sort_of names s)) left.0 right)

  carries_so_keeps : (test other : List ℕ → Bool) → ((carried : List ℕ) → test carried ≡ true → other carried ≡ true) → (o : Option (List ℕ)) → carries_so test o ≡ true → carries_so other o ≡ true
  unfolding carries_so
  carries_so_keeps test other keeps None h = h
  carries_so_keeps test other keeps (Some carried) h = keeps carried h

  -- what a part keeps, the whole keeps
  pub fill_keeps : (c : Context) (p q : Process) → Keeps p q → Keeps (fill c p) (fill c q)
  unfolding fill respects
  fill_keeps hole p q k names h = k names h
  fill_keeps (below_output s os c) p q k names h =
      both _ _ (both_left _ _ h) (fill_keeps c p q k names (both_right (carries_so (have_sorts names os) (carried_by sorting (sort_of names s))) (respects sorting names (fill c p)) h))
  fill_keeps (below_input s n c) p q k names h =
      carries_so_keeps _ _ (λ carried e. both _ _ (both_left _ _ e) (fill_keeps c p q k (carried ++ names) (both_right (eqb (length carried) n) (respects sorting (carried ++ names) (fill c p)) e))) _ h
  fill_keeps (in_left_arm c r) p q k names h = both _ _ (fill_keeps c p q k names (both_left _ _ h)) (both_right (respects sorting names (fill c p)) (respects sorting names r) h)
  fill_keeps (in_right_arm r c) p q k names h = both _ _ (both_left _ _ h) (fill_keeps c p q k names (both_right (respects sorting names r) (respects sorting names (fill c p)) h))
  fill_keeps (in_left_part c r) p q k names h = both _ _ (fill_keeps c p q k names (both_left _ _ h)) (both_right (respects sorting names (fill c p)) (respects sorting names r) h)
  fill_keeps (in_right_part r c) p q k names h = both _ _ (both_left _ _ h) (fill_keeps c p q k names (both_right (respects sorting names r) (respects sorting names (fill c p)) h))
  fill_keeps (below_restriction s c) p q k names h = fill_keeps c p q k (s ∷ names) h
  fill_keeps (below_replication c) p q k names h = fill_keeps c p q k names h

  pub lawful_keeps : {law : Law} {direction : Direction} {p q : Process} → Lawful law direction p q → Keeps p q
  lawful_keeps (read_forth i) names h = sym (law_respects i names) ∙ h
  lawful_keeps (read_back i) names h = law_respects i names ∙ h

  pub step_keeps : {label : Label} {p q : Process} → Step label p q → Keeps p q
  step_keeps (law_step c {p = p} {q = q} l) = fill_keeps c p q (lawful_keeps l)
  step_keeps (communication_step c a {p = p} {q = q} l) = fill_keeps c p q (communication_keeps l)

  pub steps_keep : {labels : List Label} {p q : Process} → Steps labels p q → Keeps p q
  steps_keep no_step names h = h
  steps_keep (one_step s rest) names h = steps_keep rest names (step_keeps s names h)

  pub reduction_keeps : {p q : Process} → Reduces p q → Keeps p q
  unfolding respects
  reduction_keeps (by_communication c) names h = communication_keeps c names h
  reduction_keeps (beside {p = p} {r = r} d) names h = both _ _ (reduction_keeps d names (both_left _ _ h)) (both_right (respects sorting names p) (respects sorting names r) h)
  reduction_keeps (under_restriction {sort = s} d) names h = reduction_keeps d (s ∷ names) h
  reduction_keeps (up_to_congruence c d e) names h =
      sym (congruent_respects e names) ∙ reduction_keeps d names (sym (congruent_respects c names) ∙ h)

  pub reductions_keep : {k : ℕ} {p q : Process} → InReductions k p q → Keeps p q
  reductions_keep (in_none c) names h = sym (congruent_respects c names) ∙ h
  reductions_keep (in_one_more d rest) names h = reductions_keep rest names (reduction_keeps d names h)
