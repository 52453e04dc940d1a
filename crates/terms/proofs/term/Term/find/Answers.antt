use Rattle.std.proofs.Common.{Some, ap, ◌∙◌, arith}
use Rattle.std.specs.Option.{option_flatten}
use Rattle.terms.proofs.Locates.{found_within, stands_placed}
use Rattle.terms.proofs.term.Term.find.Goals as goal

pub overflow_add-result : goal.overflow_add-result
overflow_add-result c =
    omega (arith, found_within _ c.args.self.now.whole c.args.offset c.of-whole.ensures.bound (rw c.of-whole.ensures.bytes at c.locate.ensures.answer) (Some c.in_ok-found.found) (c.in_ok-found.ensures ∙ ap option_flatten c.break_value.ensures.value))

pub returns-in_err-found : goal.returns-in_err-found
returns-in_err-found c =
    stands_placed _ c.args.self.now.whole c.args.offset c.of-whole.ensures.bound (rw c.of-whole.ensures.bytes at c.locate.ensures.answer) _
    (rw (← c.break_value.ensures.value, ← c.in_err-found.ensures) c.from_residual.ensures)

pub returns : goal.returns
returns c =
    stands_placed _ c.args.self.now.whole c.args.offset c.of-whole.ensures.bound (rw c.of-whole.ensures.bytes at c.locate.ensures.answer) _
    (rw (← c.break_value.ensures.value, ← c.in_ok-found.ensures))
