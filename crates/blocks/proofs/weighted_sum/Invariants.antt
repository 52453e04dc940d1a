use Rattle.std.proofs.Common.{◌≡◌, ◌*◌, ◌≤◌, take}
use Rattle.blocks.specs.Check.{sum_from}
use Rattle.blocks.proofs.weighted_sum.Given as goal

abbrev pub invariant-loop-i : goal.invariant-loop-i
invariant-loop-i l = (l.sum ≡ sum_from 1 (take l.i l.bytes)) × (l.sum ≤ 129540 * l.i)
