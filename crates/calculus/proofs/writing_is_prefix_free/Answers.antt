use Rattle.calculus.proofs.Written.{injective, prefix_free}
use Rattle.calculus.proofs.writing_is_prefix_free.Goals as goal

pub returns : goal.returns
returns c = record { injective = injective; prefix_free = prefix_free }
