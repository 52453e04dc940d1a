use Rattle.calculus.proofs.Played.{turned_back, turned_forth}
use Rattle.calculus.proofs.laws_undo_themselves.Goals as goal

pub returns : goal.returns
returns c = record { forth = turned_back; back = turned_forth }
