use Rattle.std.proofs.Common.{arith}
use Rattle.terms.proofs.Readings.{term_short}
use Rattle.terms.proofs.stretch.Stretch.of.Goals as goal

pub invariant_of-result : goal.invariant_of-result
invariant_of-result c = record { countable = omega (arith, term_short c.bytes.result.now c.bytes.ensures.term) }
