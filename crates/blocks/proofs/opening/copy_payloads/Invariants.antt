use Rattle.std.proofs.Common.{take}
use Rattle.std.specs.List.{flat_map}
use Rattle.blocks.specs.Opening.{payload_of}
use Rattle.blocks.proofs.Parts.{Holds}
use Rattle.blocks.proofs.opening.copy_payloads.Given as goal

-- the payloads so far are written, and nothing past them
abbrev pub invariant-loop-block : goal.invariant-loop-block
invariant-loop-block l = Holds (flat_map payload_of (take l.block-index l.blocks)) l.out l.initial.out l.end
