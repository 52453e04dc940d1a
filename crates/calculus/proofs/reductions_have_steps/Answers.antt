use Rattle.calculus.proofs.Complete.{reductions_reached}
use Rattle.calculus.proofs.reductions_have_steps.Goals as goal

pub returns : goal.returns
returns c k p q reductions = reductions_reached reductions
