use Rattle.std.proofs.Common.{length}
use Rattle.terms.proofs.renamer.Renamer.+rename.Given as goal

abbrev pub decreases-rename : goal.decreases-rename
decreases-rename l = length l.bytes.now
