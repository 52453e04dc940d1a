use Rattle.std.proofs.Common.{arith}
use Rattle.terms.specs.Reading.{seen}
use Rattle.terms.proofs.Passed.{past_shortens, size_passed, size_stuck}
use Rattle.terms.proofs.reading.size_at_start.Goals as goal

pub returns-in_default : goal.returns-in_default
unfolding seen
returns-in_default c = record { size = size_stuck c.args.bytes.now c.in_default.field-0.now c.in_default.ensures; room = tt }

pub overflow_sub-result : goal.overflow_sub-result
unfolding seen
overflow_sub-result c = past_shortens c.args.bytes.now c.in-Ok.rest.now c.in-Ok.ensures

pub returns : goal.returns
unfolding seen
returns c = record { size = size_passed c.args.bytes.now c.in-Ok.rest.now c.in-Ok.ensures; room = omega arith }
