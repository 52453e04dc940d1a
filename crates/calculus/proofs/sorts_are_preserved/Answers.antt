use Rattle.calculus.proofs.Preserved.{step_keeps, steps_keep, congruent_respects, reduction_keeps, reductions_keep}
use Rattle.calculus.proofs.sorts_are_preserved.Goals as goal

pub returns : goal.returns
returns c =
    record {
      step = λ sorting names label p q s. step_keeps sorting s names;
      steps = λ sorting names labels p q s. steps_keep sorting s names;
      congruence = λ sorting names p q e. congruent_respects sorting e names;
      reduction = λ sorting names p q r. reduction_keeps sorting r names;
      reductions = λ sorting names k p q r. reductions_keep sorting r names;
    }
