use Rattle.std.proofs.Common.{length}
use Rattle.terms.proofs.finding.+locate.Given as goal

abbrev pub decreases-locate : goal.decreases-locate
decreases-locate l = length l.bytes.now
