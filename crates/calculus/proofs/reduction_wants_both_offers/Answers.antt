use Rattle.calculus.proofs.Offered.{reduction_offers, output_waits, input_waits}
use Rattle.calculus.proofs.reduction_wants_both_offers.Goals as goal

pub returns : goal.returns
returns c = record { offers = λ p q d. reduction_offers d; output = output_waits; input = input_waits }
