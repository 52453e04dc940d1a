use Rattle.blocks.proofs.Opened.{Examined}
use Rattle.blocks.proofs.opening.stream_length.Given as goal

abbrev pub invariant-loop-number : goal.invariant-loop-number
invariant-loop-number l = Examined l.blocks l.number l.size
