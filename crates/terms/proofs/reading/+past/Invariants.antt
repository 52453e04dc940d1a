use Rattle.std.proofs.Common.{length}
use Rattle.terms.proofs.reading.+past.Given as goal

abbrev pub decreases-past : goal.decreases-past
decreases-past l = length l.bytes.now
