use Rattle.std.proofs.Common.{◌∙◌, rules}
use Rattle.terms.specs.Pointers.{passes_255}
use Rattle.terms.specs.Views.{tree}
use Rattle.terms.proofs.Cleared.{clear_told}
use Rattle.terms.proofs.Pointed.{overflow_any}
use Rattle.terms.proofs.Readings.{term_bytes}
use Rattle.terms.proofs.term.Term.overflows.Goals as goal

pub returns : goal.returns
unfolding passes_255
returns c =
    let answer = rw (c.of-whole.ensures.bound, c.of-whole.ensures.bytes) at (c.clear.ensures.answer (passes_255 c.args.renaming) (λ depth pointer answer deep small is. search rules)) in
    clear_told (passes_255 c.args.renaming) _ _ _ c.args.self.now.whole answer c.is_none.ensures
    ∙ overflow_any c.args.renaming (tree c.args.self.now) (term_bytes c.args.self.now.bytes.now c.args.self.now.whole)
