use Rattle.std.proofs.Common.{◌-◌, length, take, drop, ◌∙◌, arith}
use Rattle.std.proofs.lemmas.Result.{err_from_is_err_and}
use Rattle.terms.specs.Reading.{seen}
use Rattle.terms.proofs.Passed.{past_none, past_zero, past_one, past_stuck, past_two, rest_shorter, past_shortens}
use Rattle.terms.proofs.reading.+past.Goals as goal

pub returns-in_err-past-in-Two : goal.returns-in_err-past-in-Two
unfolding seen
returns-in_err-past-in-Two t c =
    let p = err_from_is_err_and c.from_residual.result c.from_residual.ensures.1 in
    rw (p.1, p.2) (past_stuck c.args.bytes.now c.in-Ok.head c.in-Ok.ensures.answer c.size.result c.size.ensures c.in-Two.ensures _ c.in_err-past-in-Two.ensures)

pub past-requires-in-Two-2 : goal.past-requires-in-Two-2
unfolding seen
past-requires-in-Two-2 t c =
    let first = past_shortens (take (length c.args.bytes.now - c.size.result) (drop c.size.result c.args.bytes.now)) c.in_ok-past-in-Two.field-0.now c.in_ok-past-in-Two.ensures in
    let rest = rest_shorter c.args.bytes.now c.in-Ok.head c.in-Ok.ensures.answer c.size.result c.size.ensures in
    (omega arith, tt)

pub returns-in-Err : goal.returns-in-Err
unfolding seen
returns-in-Err t c = past_none c.args.bytes.now c.in-Err.place c.in-Err.ensures.answer

pub returns-in-Zero : goal.returns-in-Zero
unfolding seen
returns-in-Zero t c = past_zero c.args.bytes.now c.in-Ok.head c.in-Ok.ensures.answer c.size.result c.size.ensures c.in-Zero.ensures

pub returns-in-One : goal.returns-in-One
returns-in-One t c = c.past.ensures ∙ past_one c.args.bytes.now c.in-Ok.head c.in-Ok.ensures.answer c.size.result c.size.ensures c.in-One.ensures

pub returns-in_ok-past-in-Two : goal.returns-in_ok-past-in-Two
unfolding seen
returns-in_ok-past-in-Two t c =
    c.past-in-Two-2.ensures
    ∙ past_two c.args.bytes.now c.in-Ok.head c.in-Ok.ensures.answer c.size.result c.size.ensures c.in-Two.ensures c.in_ok-past-in-Two.field-0.now c.in_ok-past-in-Two.ensures
