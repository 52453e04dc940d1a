-- What sealing a stream answers: the length of its blocks, or the fault for which packing declines.
-- Blocks that open to other bytes never come.
use Rattle.std.specs.Prelude.{ℕ, Ok, Err, Result}
use Rattle.refusal.specs.declared.Fault.{Fault}
use Rattle.seal.specs.declared.sealing.Unsealed.{Unsealed}
use Rattle.seal.specs.declared.sealing.Unsealed.TheVariants.{Declined}

unfoldable pub sealed_as : Result ℕ Fault → Result ℕ Unsealed
sealed_as (Ok size) = Ok size
sealed_as (Err f) = Err (Declined f)
