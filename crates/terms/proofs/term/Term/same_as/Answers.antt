use Rattle.std.proofs.Common.{sym, ap, ◌∙◌}
use Rattle.std.proofs.lemmas.Bool.Decides.{Decides-eqb}
use Rattle.std.proofs.lemmas.Slice.Eq.{slice_eq-Decides}
use Rattle.calculus.specs.Trees.{write}
use Rattle.terms.specs.Reading.{tree_of}
use Rattle.terms.proofs.Readings.{term_written}
use Rattle.terms.proofs.term.Term.same_as.Goals as goal

pub returns : goal.returns
returns c =
    let left = c.args.self.now in
    let right = c.args.other.now in
    let same = slice_eq-Decides Decides-eqb left.bytes.now right.bytes.now c.eq.result c.eq.ensures in (
      λ e. ap tree_of (same.0 e),
      λ e. same.1 (sym (term_written left.bytes.now left.whole) ∙ ap write e ∙ term_written right.bytes.now right.whole),
    )
