use Rattle.std.proofs.Common.{[], ◌+◌, refl, sym, rules}
use Rattle.std.proofs.lemmas.Result.{err_from_is_err_and}
use Rattle.std.proofs.lemmas.List.{take_all, drop_all}
use Rattle.blocks.specs.Opening.{first_fault, unless}
use Rattle.blocks.proofs.Opened.{Examined, examined_fault, examined_more}
use Rattle.blocks.proofs.opening.stream_length.Goals as goal

pub returns-in_err-size : goal.returns-in_err-size
unfolding unless
returns-in_err-size c =
    let p = err_from_is_err_and c.from_residual.result c.from_residual.ensures.1 in
    rw (p.1, p.2, examined_fault _ _ _ _ [] c.loop-number-test.true refl c.loop-number.invariant c.in_err-size.field-0.0 (sym c.in_err-size.ensures))

more : (c : goal.In_ok-size) → Examined c.args.blocks.now (c.loop-number.number + 1) (c.loop-number.size + c.in_ok-size.field-0)
more c = examined_more _ _ _ _ [] c.loop-number-test.true refl c.loop-number.invariant c.in_ok-size.field-0 (c.told-blocks c.loop-number.number c.loop-number-test.true) (sym c.in_ok-size.ensures)

pub overflow_add-size : goal.overflow_add-size
overflow_add-size c = let next = more c in search rules

pub loop-number-preserved : goal.loop-number-preserved
loop-number-preserved c = more c

pub returns : goal.returns
unfolding unless first_fault
returns c =
    let none = drop_all _ c.args.blocks.now c.loop-number-test.false in
    let all = take_all _ c.args.blocks.now c.loop-number-test.false in
    rw (sym c.loop-number.invariant.first, none, c.loop-number.invariant.sum, all)
