use Rattle.calculus.proofs.Sanity.{unused_vanishes}
use Rattle.calculus.proofs.unused_restriction_vanishes.Goals as goal

pub returns : goal.returns
returns c = unused_vanishes
