use Rattle.calculus.proofs.Played.{step_played, played_step, steps_played, played_steps}
use Rattle.calculus.proofs.labels_decide_steps.Goals as goal

pub returns : goal.returns
returns c =
    record {
      step = λ label p q. (λ s. step_played s, played_step label p q);
      steps = λ labels p q. (λ s. steps_played s, played_steps labels p q);
    }
