use Rattle.std.proofs.Common.{replicate, rules}
use Rattle.std.proofs.lemmas.Bool.Decides.{Decides-eqb}
use Rattle.std.proofs.lemmas.Result.{MatchResult-weaker}
use Rattle.std.proofs.lemmas.Slice.Eq.{slice_eq-Decides}
use Rattle.seal.proofs.Reopened.{opens_is}
use Rattle.seal.proofs.sealing.opens_to.Goals as goal

pub returns : goal.returns
returns c =
    opens_is c.args.sheet.now c.args.stream.now (replicate 64512 0) c.unpack.new.out c.unpack.result c.is_ok_and.result
    c.unpack.ensures.sealed c.unpack.ensures.answer c.unpack.ensures.buffer
    (MatchResult-weaker c.unpack.result c.is_ok_and.ensures (λ n p. slice_eq-Decides Decides-eqb _ _ c.is_ok_and.result (search rules)) (λ _ e. e))
