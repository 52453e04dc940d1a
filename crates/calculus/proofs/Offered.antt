-- What reduces offers an output and an input.
use Rattle.std.proofs.Common.{◌≡◌, ℕ, suc, Bool, true, false, ◌||◌, List, Option, sym, refl, ap, ◌∙◌, ap₂}
use mathlib.Core.Bool.{false≢true, or-false, or_self, or_assoc, or_comm}
use Rattle.calculus.specs.Trees.{Process, terminated, output, input, choice, parallel, restriction, replication}
use Rattle.calculus.specs.Names.{rename, raise, exchange}
use Rattle.calculus.specs.Laws.{Law, Instance, commuting_parts, regrouping_parts, part_of_nothing, commuting_arms, regrouping_arms, arm_of_nothing, trading_places, restricting_nothing, unfolding_once, extruding}
use Rattle.calculus.specs.Congruence.{Congruent, by_law, same, turned, joined, outputs, inputs, choices, parallels, restrictions, replications}
use Rattle.calculus.specs.Reduction.{Sends, sends_alone, sends_in_choice, Receives, receives_alone, receives_in_choice, communicates, Reduces, by_communication, beside, under_restriction, up_to_congruence}
use Rattle.calculus.specs.Offers.{Action, sending, receiving, is_sending, is_receiving, offers}

or_left : (a b : Bool) → a ≡ true → (a || b) ≡ true
or_left true b e = refl
or_left false b e = absurd (false≢true e)

or_right : (a b : Bool) → b ≡ true → (a || b) ≡ true
or_right true b e = refl
or_right false b e = e

module _ (action : Action) where
  -- offers are not changed by renaming
  pub offers_renamed : (f : ℕ → ℕ → ℕ) (d : ℕ) (p : Process) → offers action (rename f d p) ≡ offers action p
  unfolding offers rename
  offers_renamed f d terminated = refl
  offers_renamed f d (output s os p) = refl
  offers_renamed f d (input s n p) = refl
  offers_renamed f d (choice p q) = ap₂ ◌||◌ (offers_renamed f d p) (offers_renamed f d q)
  offers_renamed f d (parallel p q) = ap₂ ◌||◌ (offers_renamed f d p) (offers_renamed f d q)
  offers_renamed f d (restriction s p) = offers_renamed f (suc d) p
  offers_renamed f d (replication p) = offers_renamed f d p

  -- nor by a law, nor by a congruence
  pub law_offers : {law : Law} {lost : Option ℕ} {p q : Process} → Instance law lost p q → offers action p ≡ offers action q
  unfolding offers
  law_offers (commuting_parts p q) = or_comm (offers action p) (offers action q)
  law_offers (regrouping_parts p q r) = sym (or_assoc (offers action p) (offers action q) (offers action r))
  law_offers (part_of_nothing p) = or-false (offers action p)
  law_offers (commuting_arms p q) = or_comm (offers action p) (offers action q)
  law_offers (regrouping_arms p q r) = sym (or_assoc (offers action p) (offers action q) (offers action r))
  law_offers (arm_of_nothing p) = or-false (offers action p)
  law_offers (trading_places s t p) = sym (offers_renamed exchange 0 p)
  law_offers (restricting_nothing s) = refl
  law_offers (unfolding_once p) = sym (or_self (offers action p))
  law_offers (extruding s p q) = ap (λ (b : Bool). b || offers action q) (sym (offers_renamed raise 0 p))

  pub congruent_offers : {p q : Process} → Congruent p q → offers action p ≡ offers action q
  unfolding offers
  congruent_offers (by_law i) = law_offers i
  congruent_offers same = refl
  congruent_offers (turned c) = sym (congruent_offers c)
  congruent_offers (joined c d) = congruent_offers c ∙ congruent_offers d
  congruent_offers (outputs c) = refl
  congruent_offers (inputs c) = refl
  congruent_offers (choices c d) = ap₂ ◌||◌ (congruent_offers c) (congruent_offers d)
  congruent_offers (parallels c d) = ap₂ ◌||◌ (congruent_offers c) (congruent_offers d)
  congruent_offers (restrictions c) = congruent_offers c
  congruent_offers (replications c) = congruent_offers c

sender_offers : {s : ℕ} {os : List ℕ} {p sender : Process} → Sends s os p sender → offers sending sender ≡ true
unfolding offers is_sending
sender_offers sends_alone = refl
sender_offers (sends_in_choice other) = refl

receiver_offers : {s n : ℕ} {p receiver : Process} → Receives s n p receiver → offers receiving receiver ≡ true
unfolding offers is_receiving
receiver_offers receives_alone = refl
receiver_offers (receives_in_choice other) = refl

pub reduction_offers : {p q : Process} → Reduces p q → (offers sending p ≡ true) × (offers receiving p ≡ true)
unfolding offers
reduction_offers (by_communication (communicates s os p q a b)) = (or_left _ _ (sender_offers a), or_right _ _ (receiver_offers b))
reduction_offers (beside d) = let (out, in-) = reduction_offers d in (or_left _ _ out, or_left _ _ in-)
reduction_offers (under_restriction d) = reduction_offers d
reduction_offers (up_to_congruence c d e) =
    let (out, in-) = reduction_offers d in
    (congruent_offers sending c ∙ out, congruent_offers receiving c ∙ in-)

-- a prefix waits
pub output_waits : (subject : ℕ) (objects : List ℕ) (p q : Process) → Reduces (output subject objects p) q → ⊥
unfolding offers is_sending
output_waits subject objects p q d = false≢true (reduction_offers d).1

pub input_waits : (subject count : ℕ) (p q : Process) → Reduces (input subject count p) q → ⊥
unfolding offers is_receiving
input_waits subject count p q d = false≢true (reduction_offers d).0
