use Rattle.terms.specs.Pointers.{function_of, settled}
use Rattle.terms.proofs.Renames.{rows_renamed}
use Rattle.terms.proofs.renamer.Renamer.rename_head.Goals as goal

pub returns : goal.returns
returns c =
    rows_renamed (settled (function_of c.args.self.renaming.now c.args.self.depth)) c.args.head c.args.bytes.now c.requires c.size-size.result c.subjects.result c.objects.result
    c.size-size.ensures c.subjects.ensures c.objects.ensures c.rename_row.new.pointers c.rename_row-2.new.pointers c.rename_row.ensures c.rename_row-2.ensures
