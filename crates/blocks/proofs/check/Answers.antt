use Rattle.std.proofs.Common.{ℕ, ◌-◌, ◌%◌, ap, ◌∙◌, arith}
use Rattle.std.proofs.lemmas.Nat.{mod_below}
use Rattle.blocks.specs.Check.{sum_from, check_of}
use Rattle.blocks.proofs.Parts.{take_to}
use Rattle.blocks.proofs.check.Goals as goal

pub returns : goal.returns
unfolding check_of
returns c = record {
  value = ap (λ (n : ℕ). n % 65521) (c.weighted_sum.ensures.sum ∙ ap (sum_from 1) (take_to c.args.block.now (c.min-end.result - 0) 508 (omega arith)));
  bound = mod_below c.weighted_sum.result 65521 (omega arith);
}
