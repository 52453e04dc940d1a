use Rattle.std.proofs.Common.{◌≡◌, ◌++◌, map, take, drop}
use Rattle.terms.specs.Pointers.{function_of, settled}
use Rattle.terms.proofs.renamer.Renamer.rename_row.Given as goal

abbrev pub invariant-loop-pointer : goal.invariant-loop-pointer
invariant-loop-pointer l =
    l.pointers
    ≡ map (settled (function_of l.self.renaming.now l.self.depth)) (take l.pointer-index l.initial.pointers) ++ drop l.pointer-index l.initial.pointers
