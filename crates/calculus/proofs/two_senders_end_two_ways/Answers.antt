use Rattle.calculus.proofs.Sanity.{first_arrives, second_arrives, ends_apart}
use Rattle.calculus.proofs.two_senders_end_two_ways.Goals as goal

pub returns : goal.returns
returns c = record { first = first_arrives; second = second_arrives; apart = ends_apart }
