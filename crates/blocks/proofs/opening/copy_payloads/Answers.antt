use Rattle.std.proofs.Common.{[], length, ap, arith, rules}
use Rattle.std.proofs.lemmas.List.Folds.{length-flat_map-take}
use Rattle.blocks.specs.Opening.{payload_of}
use Rattle.blocks.proofs.Parts.{flat_map_next, holds_more}
use Rattle.blocks.proofs.opening.copy_payloads.Goals as goal

pub slice_bounds-copy_from_slice-end : goal.slice_bounds-copy_from_slice-end
slice_bounds-copy_from_slice-end c =
    let room = length-flat_map-take payload_of c.args.blocks.now c.loop-block.block-index [] c.loop-block-test.true in
    let here = ap length c.payload-payload.ensures in
    search rules

pub loop-block-preserved : goal.loop-block-preserved
loop-block-preserved c =
    let next = flat_map_next payload_of c.args.blocks.now c.loop-block.block-index [] c.loop-block-test.true in
    rw (next, ← c.payload-payload.ensures, ← c.copy_from_slice.ensures.after) (holds_more _ _ _ _ c.loop-block.end _ _ c.loop-block.invariant (omega (arith, ap length c.copy_from_slice.ensures.after)) (omega arith))
