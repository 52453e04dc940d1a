use Rattle.std.proofs.Common.{sym, ◌∙◌, rules}
use Rattle.terms.specs.Views.{tree}
use Rattle.terms.proofs.Cleared.{clear_told}
use Rattle.terms.proofs.Pointed.{is_counted, free_any}
use Rattle.terms.proofs.term.Term.has_free.Goals as goal

pub returns : goal.returns
unfolding is_counted
returns c =
    let answer = rw (c.of-whole.ensures.bound, c.of-whole.ensures.bytes) at (c.clear.ensures.answer (is_counted c.args.pointer) (λ depth pointer answer deep small is. search rules)) in
    clear_told (is_counted c.args.pointer) _ _ _ c.args.self.now.whole answer c.is_none.ensures ∙ sym (free_any c.args.pointer (tree c.args.self.now))
