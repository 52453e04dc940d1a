use Rattle.std.proofs.Common.{refl, arith}
use Rattle.blocks.specs.Check.{sum_from}
use Rattle.blocks.proofs.Sums.{sum_more, product_small}
use Rattle.blocks.proofs.weighted_sum.Goals as goal

pub loop-i-init : goal.loop-i-init
unfolding sum_from
loop-i-init c = (refl, omega arith)

pub loop-i-preserved : goal.loop-i-preserved
loop-i-preserved c =
    let h = product_small c.loop-i.i c.from.result (omega arith) (omega arith) in
    (sum_more c.args.bytes.now c.loop-i.i c.loop-i.sum c.from.result c.loop-i-test.true c.from.ensures c.loop-i.invariant.0, omega arith)
