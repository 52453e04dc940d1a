-- Communication and reduction.
use Rattle.std.specs.Prelude.{ℕ, zero, suc, List, length}
use Rattle.calculus.specs.Trees.{Process, output, input, choice, parallel, restriction}
use Rattle.calculus.specs.Names.{sent}
use Rattle.calculus.specs.Congruence.{Congruent}

-- a process that can send: an output, alone or as the left arm of a choice
pub data Sends (subject : ℕ) (objects : List ℕ) (p : Process) : Process → Type 0 where
  sends_alone : Sends subject objects p (output subject objects p)
  sends_in_choice : (other : Process) → Sends subject objects p (choice (output subject objects p) other)

-- a process that can receive: an input, alone or as the left arm of a choice
pub data Receives (subject count : ℕ) (p : Process) : Process → Type 0 where
  receives_alone : Receives subject count p (input subject count p)
  receives_in_choice : (other : Process) → Receives subject count p (choice (input subject count p) other)

-- Sender left, receiver right, on one subject, as many names bound as objects sent. The sender's continuation stays
-- beside the receiver's, which gets the objects; the other arms are gone.
pub data Communicates : Process → Process → Type 0 where
  communicates : (subject : ℕ) (objects : List ℕ) (p q : Process) {sender receiver : Process} → Sends subject objects p sender → Receives subject (length objects) q receiver → Communicates (parallel sender receiver) (parallel p (sent objects q))

pub data Reduces : Process → Process → Type 0 where
  by_communication : {p q : Process} → Communicates p q → Reduces p q
  beside : {p q r : Process} → Reduces p q → Reduces (parallel p r) (parallel q r)
  under_restriction : {sort : ℕ} {p q : Process} → Reduces p q → Reduces (restriction sort p) (restriction sort q)
  up_to_congruence : {p q r s : Process} → Congruent p q → Reduces q r → Congruent r s → Reduces p s

-- in so many reductions, where none means congruent
pub data InReductions : ℕ → Process → Process → Type 0 where
  in_none : {p q : Process} → Congruent p q → InReductions zero p q
  in_one_more : {k : ℕ} {p q r : Process} → Reduces p q → InReductions k q r → InReductions (suc k) p r
