use Rattle.calculus.proofs.Places.{write-fill, one_place}
use Rattle.calculus.proofs.places_belong_to_nodes.Goals as goal

pub returns : goal.returns
returns c = record { around = write-fill; one = one_place }
