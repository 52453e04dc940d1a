use Rattle.std.proofs.Common.{length}
use Rattle.terms.proofs.walks.+clear.Given as goal

abbrev pub decreases-clear : goal.decreases-clear
decreases-clear g l = length l.bytes.now
