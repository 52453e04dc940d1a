use Rattle.std.proofs.Common.{◌∙◌}
use Rattle.blocks.proofs.Sealed.{block_written}
use Rattle.blocks.proofs.sealing.seal_block.Goals as goal

pub returns : goal.returns
returns c =
    block_written c.args.number c.args.payload.now c.args.out.now
    c.copy_from_slice.new.self c.copy_from_slice-2.new.self c.copy_from_slice-3.new.self c.fill.new.self c.copy_from_slice-4.new.self
    c.check-sum.result c.requires.short c.requires.whole
    (c.copy_from_slice.ensures.after ∙ c.to_le_bytes.ensures)
    (c.copy_from_slice-2.ensures.after ∙ c.to_le_bytes-2.ensures)
    c.copy_from_slice-3.ensures.after
    (c.fill.ensures.after (λ y e. e))
    c.check-sum.ensures.value
    (c.copy_from_slice-4.ensures.after ∙ c.to_le_bytes-3.ensures)
