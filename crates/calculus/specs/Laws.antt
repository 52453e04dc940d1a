-- The ten structural laws, each from its left side to its right side.
use Rattle.std.specs.Prelude.{ℕ, Some, None, Option}
use Rattle.calculus.specs.Trees.{Process, terminated, choice, parallel, restriction, replication}
use Rattle.calculus.specs.Names.{raised, exchanged}

pub data Law : Type 0 where
  parallel_commutes : Law
  parallel_regroups : Law
  parallel_with_nothing : Law
  choice_commutes : Law
  choice_regroups : Law
  choice_with_nothing : Law
  restrictions_trade_places : Law
  restriction_of_nothing : Law
  replication_unfolds : Law
  scope_extrudes : Law

-- An instance of a law, with what its right side has lost: the sort, where a restriction of nothing vanishes.
pub data Instance : Law → Option ℕ → Process → Process → Type 0 where
  commuting_parts : (p q : Process) → Instance parallel_commutes None (parallel p q) (parallel q p)
  regrouping_parts : (p q r : Process) → Instance parallel_regroups None (parallel p (parallel q r)) (parallel (parallel p q) r)
  part_of_nothing : (p : Process) → Instance parallel_with_nothing None (parallel p terminated) p
  commuting_arms : (p q : Process) → Instance choice_commutes None (choice p q) (choice q p)
  regrouping_arms : (p q r : Process) → Instance choice_regroups None (choice p (choice q r)) (choice (choice p q) r)
  arm_of_nothing : (p : Process) → Instance choice_with_nothing None (choice p terminated) p
  trading_places : (s t : ℕ) (p : Process) → Instance restrictions_trade_places None (restriction s (restriction t p)) (restriction t (restriction s (exchanged p)))
  restricting_nothing : (s : ℕ) → Instance restriction_of_nothing (Some s) (restriction s terminated) terminated
  unfolding_once : (p : Process) → Instance replication_unfolds None (replication p) (parallel p (replication p))
  extruding : (s : ℕ) (p q : Process) → Instance scope_extrudes None (parallel p (restriction s q)) (restriction s (parallel (raised p) q))
