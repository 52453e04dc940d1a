use Rattle.std.proofs.Common.{◌≡◌, length, Ok, rules}
use Rattle.refusal.specs.Writes.{answered}
use Rattle.blocks.specs.Sealing.{packing}
use Rattle.seal.proofs.Reopened.{packed_opens}
use Rattle.seal.proofs.sealing.seal_stream.Goals as goal

pub returns-else-opens_to-clause-answer : goal.returns-else-opens_to-clause-answer
returns-else-opens_to-clause-answer c =
    let packed : answered (packing c.args.stream.now (length c.args.sheet.now)) ≡ Ok c.in_ok-size.size = search rules in
    let opens = packed_opens c.args.stream.now c.args.sheet.now c.pack.new.out (length c.args.sheet.now) c.in_ok-size.size packed c.pack.ensures.buffer c.pack.ensures.opens in
    absurd (cc (c.opens_to.ensures.1 opens))
