use Rattle.calculus.proofs.Sound.{steps_reduce}
use Rattle.calculus.proofs.steps_give_reductions.Goals as goal

pub returns : goal.returns
returns c labels p q steps = steps_reduce steps
