use Rattle.std.proofs.Common.{sym, refl, ◌∙◌}
use Rattle.terms.proofs.Cleared.{left_node, left_none}
use Rattle.terms.proofs.walks.+clear.Goals as goal

pub returns-in_err-head-clause-answer : goal.returns-in_err-head-clause-answer
returns-in_err-head-clause-answer g t c known tests =
    c.from_residual.ensures ∙ sym (left_none known c.args.bound c.args.bytes.now (c.in_err-head.ensures.none.0 refl))

pub returns-then-head_passes-clause-answer : goal.returns-then-head_passes-clause-answer
returns-then-head_passes-clause-answer g t c known tests =
    rw (
      left_node known c.args.bound _ _ _ c.in_ok-head.ensures.head (c.head_passes.ensures known tests),
      c.if-head_passes.true,
    )

pub returns-in-Zero-clause-answer : goal.returns-in-Zero-clause-answer
returns-in-Zero-clause-answer g t c known tests =
    rw (
      left_node known c.args.bound _ _ _ c.in_ok-head.ensures.head (c.head_passes.ensures known tests),
      c.if-head_passes.false,
      ← c.in-Zero.ensures,
      ← c.in_ok-head.ensures.rest,
    )

pub returns-in-One-clause-answer : goal.returns-in-One-clause-answer
returns-in-One-clause-answer g t c known tests =
    rw (
      left_node known c.args.bound _ _ _ c.in_ok-head.ensures.head (c.head_passes.ensures known tests),
      c.if-head_passes.false,
      ← c.in-One.ensures,
      ← c.in_ok-head.ensures.bound,
      ← c.in_ok-head.ensures.rest,
    ) (c.clear.ensures.answer known tests)

pub returns-in_err-left-in-Two-clause-answer : goal.returns-in_err-left-in-Two-clause-answer
returns-in_err-left-in-Two-clause-answer g t c known tests =
    rw (
      left_node known c.args.bound _ _ _ c.in_ok-head.ensures.head (c.head_passes.ensures known tests),
      c.if-head_passes.false,
      ← c.in-Two.ensures,
      ← c.in_ok-head.ensures.bound,
      ← c.in_ok-head.ensures.rest,
      ← c.in_err-left-in-Two.ensures.answer known tests,
    ) c.from_residual-in_err-left-in-Two.ensures

pub returns-in_ok-left-in-Two-clause-answer : goal.returns-in_ok-left-in-Two-clause-answer
returns-in_ok-left-in-Two-clause-answer g t c known tests =
    rw (
      left_node known c.args.bound _ _ _ c.in_ok-head.ensures.head (c.head_passes.ensures known tests),
      c.if-head_passes.false,
      ← c.in-Two.ensures,
      ← c.in_ok-head.ensures.bound,
      ← c.in_ok-head.ensures.rest,
      ← c.in_ok-left-in-Two.ensures.answer known tests,
      ← c.skip-last.ensures.bytes,
      ← c.skip-last.ensures.bound,
    ) (c.clear-in-Two-2.ensures.answer known tests)
