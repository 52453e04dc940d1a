-- Structural congruence: the smallest congruence with the ten laws.
use Rattle.std.specs.Prelude.{ℕ, List, Option}
use Rattle.calculus.specs.Trees.{Process, output, input, choice, parallel, restriction, replication}
use Rattle.calculus.specs.Laws.{Law, Instance}

pub data Congruent : Process → Process → Type 0 where
  by_law : {law : Law} {lost : Option ℕ} {p q : Process} → Instance law lost p q → Congruent p q
  -- an equivalence
  same : {p : Process} → Congruent p p
  turned : {p q : Process} → Congruent p q → Congruent q p
  joined : {p q r : Process} → Congruent p q → Congruent q r → Congruent p r
  -- under every construct
  outputs : {subject : ℕ} {objects : List ℕ} {p q : Process} → Congruent p q → Congruent (output subject objects p) (output subject objects q)
  inputs : {subject count : ℕ} {p q : Process} → Congruent p q → Congruent (input subject count p) (input subject count q)
  choices : {p q r s : Process} → Congruent p q → Congruent r s → Congruent (choice p r) (choice q s)
  parallels : {p q r s : Process} → Congruent p q → Congruent r s → Congruent (parallel p r) (parallel q s)
  restrictions : {sort : ℕ} {p q : Process} → Congruent p q → Congruent (restriction sort p) (restriction sort q)
  replications : {p q : Process} → Congruent p q → Congruent (replication p) (replication q)
