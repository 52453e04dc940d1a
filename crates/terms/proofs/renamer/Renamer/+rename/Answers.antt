use Rattle.std.proofs.Common.{◌+◌, sym, ap, rules}
use Rattle.terms.proofs.Cleared.{headed_clear}
use Rattle.terms.proofs.Renames.{one_begins, two_begins, second_begins, zero_size, one_size, two_size, zero_renamed, one_renamed, two_renamed}
use Rattle.terms.proofs.renamer.Renamer.+rename.Goals as goal

pub unreachable-requires : goal.unreachable-requires
unreachable-requires t c = headed_clear _ _ _ _ c.in_default.ensures.answer c.requires.clear

pub rename-requires : goal.rename-requires
rename-requires t c =
    let clear = one_begins _ _ _ _ (sym c.in-Ok.ensures.answer) _ _ c.size-size.ensures (ap (◌+◌ c.args.self.depth) c.binds.ensures) _ c.rename_head.ensures c.requires.clear c.in-One.ensures in
    (search rules, (clear, search rules))

pub rename-first-requires : goal.rename-first-requires
rename-first-requires t c =
    let clear = two_begins _ _ _ _ (sym c.in-Ok.ensures.answer) _ _ c.size-size.ensures (ap (◌+◌ c.args.self.depth) c.binds.ensures) _ c.rename_head.ensures c.requires.clear c.in-Two.ensures in
    (search rules, (clear, search rules))

pub rename-second-requires : goal.rename-second-requires
rename-second-requires t c =
    let clear = second_begins _ _ _ _ (sym c.in-Ok.ensures.answer) _ _ c.size-size.ensures (ap (◌+◌ c.args.self.depth) c.binds.ensures) _ c.rename_head.ensures c.requires.clear c.in-Two.ensures _ c.rename-first.ensures.size _ c.rename-first.ensures.renamed in
    (search rules, (clear, search rules))

pub returns-in-Zero-clause-size : goal.returns-in-Zero-clause-size
returns-in-Zero-clause-size t c = zero_size _ _ _ _ (sym c.in-Ok.ensures.answer) _ _ c.size-size.ensures (ap (◌+◌ c.args.self.depth) c.binds.ensures) _ c.rename_head.ensures c.requires.clear c.in-Zero.ensures

pub returns-in-Zero-clause-renamed : goal.returns-in-Zero-clause-renamed
returns-in-Zero-clause-renamed t c = zero_renamed _ _ _ _ (sym c.in-Ok.ensures.answer) _ _ c.size-size.ensures (ap (◌+◌ c.args.self.depth) c.binds.ensures) _ c.rename_head.ensures c.requires.clear c.in-Zero.ensures

pub returns-in-One-clause-size : goal.returns-in-One-clause-size
returns-in-One-clause-size t c = one_size _ _ _ _ (sym c.in-Ok.ensures.answer) _ _ c.size-size.ensures (ap (◌+◌ c.args.self.depth) c.binds.ensures) _ c.rename_head.ensures c.requires.clear c.in-One.ensures _ c.rename.ensures.size

pub returns-in-One-clause-renamed : goal.returns-in-One-clause-renamed
returns-in-One-clause-renamed t c = one_renamed _ _ _ _ (sym c.in-Ok.ensures.answer) _ _ c.size-size.ensures (ap (◌+◌ c.args.self.depth) c.binds.ensures) _ c.rename_head.ensures c.requires.clear c.in-One.ensures _ c.rename.ensures.size _ c.rename.ensures.renamed

pub returns-in-Two-clause-size : goal.returns-in-Two-clause-size
returns-in-Two-clause-size t c = two_size _ _ _ _ (sym c.in-Ok.ensures.answer) _ _ c.size-size.ensures (ap (◌+◌ c.args.self.depth) c.binds.ensures) _ c.rename_head.ensures c.requires.clear c.in-Two.ensures _ c.rename-first.ensures.size _ c.rename-first.ensures.renamed _ c.rename-second.ensures.size

pub returns-in-Two-clause-renamed : goal.returns-in-Two-clause-renamed
returns-in-Two-clause-renamed t c =
    two_renamed _ _ _ _ (sym c.in-Ok.ensures.answer) _ _ c.size-size.ensures (ap (◌+◌ c.args.self.depth) c.binds.ensures) _ c.rename_head.ensures c.requires.clear c.in-Two.ensures _ c.rename-first.ensures.size _ c.rename-first.ensures.renamed _ c.rename-second.ensures.size _ c.rename-second.ensures.renamed
