use Rattle.std.proofs.Common.{sym, ◌∙◌, rules, arith}
use Rattle.std.proofs.lemmas.Grind.{common_steps}
use Rattle.terms.proofs.Pointed.{zero_one, zero_two}
use Rattle.terms.proofs.Locates.{locates_top, locates_nothing, locates_head, locates_zero, locates_one, locates_first, locates_second, locates_two}
use Rattle.terms.proofs.finding.+locate.Goals as goal

pub returns-then-offset-eq0-clause-answer : goal.returns-then-offset-eq0-clause-answer
returns-then-offset-eq0-clause-answer t c = locates_top _ c.size_at_start.ensures.size _ _ _ c.if-offset-eq0.true (grind (arith, common_steps))

pub returns-in_default-clause-answer : goal.returns-in_default-clause-answer
returns-in_default-clause-answer t c = locates_nothing _ (search rules) _ _ _

pub returns-then-offset-size-clause-answer : goal.returns-then-offset-size-clause-answer
returns-then-offset-size-clause-answer t c = locates_head _ c.in-Some.ensures.head c.size-size.ensures _ _ _ c.if-offset-eq0.false c.if-offset-size.true

pub returns-in-Zero-clause-answer : goal.returns-in-Zero-clause-answer
returns-in-Zero-clause-answer t c = locates_zero _ c.in-Some.ensures.head c.size-size.ensures _ _ _ c.in-Zero.ensures c.if-offset-size.false

pub returns-in_err-first-in-One-clause-answer : goal.returns-in_err-first-in-One-clause-answer
returns-in_err-first-in-One-clause-answer t c =
    locates_first _ c.in-Some.ensures.head c.size-size.ensures _ _ _ c.if-offset-size.false c.in-Some.ensures.rest _ _
    (λ z. zero_one (z ∙ sym c.in-One.ensures)) c.in-Some.ensures.bound (grind (arith, common_steps)) c.in_err-first-in-One.ensures.answer c.from_residual.ensures

pub returns-in_ok-first-in-One-clause-answer : goal.returns-in_ok-first-in-One-clause-answer
returns-in_ok-first-in-One-clause-answer t c =
    locates_one _ c.in-Some.ensures.head c.size-size.ensures _ _ _ c.if-offset-size.false c.in-Some.ensures.rest _ _ c.in-One.ensures c.in_ok-first-in-One.ensures.answer

pub returns-in_err-first-in-Two-clause-answer : goal.returns-in_err-first-in-Two-clause-answer
returns-in_err-first-in-Two-clause-answer t c =
    locates_first _ c.in-Some.ensures.head c.size-size.ensures _ _ _ c.if-offset-size.false c.in-Some.ensures.rest _ _
    (λ z. zero_two (z ∙ sym c.in-Two.ensures)) c.in-Some.ensures.bound (grind (arith, common_steps)) c.in_err-first-in-Two.ensures.answer c.from_residual-in_err-first-in-Two.ensures

pub returns-in_err-second-in-Two-clause-answer : goal.returns-in_err-second-in-Two-clause-answer
returns-in_err-second-in-Two-clause-answer t c =
    locates_second _ c.in-Some.ensures.head c.size-size.ensures _ _ _ c.if-offset-size.false c.in-Some.ensures.rest _ _ c.in-Two.ensures c.in_ok-first-in-Two.ensures.answer c.skip-last.ensures.bytes
    _ (c.skip-last.ensures.bound ∙ c.in-Some.ensures.bound) (grind (arith, common_steps)) c.in_err-second-in-Two.ensures.answer c.from_residual-in_err-second-in-Two.ensures

pub returns-in_ok-second-in-Two-clause-answer : goal.returns-in_ok-second-in-Two-clause-answer
returns-in_ok-second-in-Two-clause-answer t c =
    locates_two _ c.in-Some.ensures.head c.size-size.ensures _ _ _ c.if-offset-size.false c.in-Some.ensures.rest _ _ c.in-Two.ensures c.in_ok-first-in-Two.ensures.answer c.skip-last.ensures.bytes
    _ c.in_ok-second-in-Two.ensures.answer
