use Rattle.calculus.proofs.Renamed.{lowered-raised, raised-lowered, raised_misses, exchanged_twice}
use Rattle.calculus.proofs.renamings_undo_each_other.Goals as goal

pub returns : goal.returns
returns c = record { raised = lowered-raised; lowered = raised-lowered; unused = raised_misses; exchanged = exchanged_twice }
