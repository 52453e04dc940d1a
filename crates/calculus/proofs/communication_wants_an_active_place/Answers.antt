use Rattle.calculus.proofs.Played.{communication_active}
use Rattle.calculus.proofs.Sanity.{none_below_output, none_below_input, none_in_arms, none_below_replication}
use Rattle.calculus.proofs.communication_wants_an_active_place.Goals as goal

pub returns : goal.returns
returns c = record { active = communication_active; output = none_below_output; input = none_below_input; choice = none_in_arms; replication = none_below_replication }
