use Rattle.std.proofs.Common.{◌≡◌, ◌*◌, drop}
use Rattle.blocks.specs.Sealing.{blocks_from}
use Rattle.blocks.proofs.Parts.{Holds}
use Rattle.blocks.proofs.sealing.pack.Given as goal

-- the blocks so far are written, and nothing past them
abbrev pub invariant-loop-number : goal.invariant-loop-number
invariant-loop-number l = record {
  rest : l.rest ≡ drop (l.number * 504) l.stream;
  held : Holds (blocks_from l.number 0 l.stream) l.out l.initial.out (l.number * 512);
}
