use Rattle.std.proofs.Common.{length, Err, sym, ap, ◌∙◌, arith}
use Rattle.std.proofs.lemmas.Bool.{eqb-true}
use Rattle.refusal.specs.declared.Fault.{Fault}
use Rattle.terms.specs.Reading.{seen}
use Rattle.terms.proofs.Heads.{not_empty}
use Rattle.terms.proofs.Passed.{past_shortens, stuck_shortens}
use Rattle.terms.proofs.Numbers.{typed_bytes}
use Rattle.terms.proofs.Examined.{examined_long, examined_whole, examined_left, examined_stuck}
use Rattle.terms.proofs.reading.examine.Goals as goal

pub returns-then-size-gt-LONGEST_TERM : goal.returns-then-size-gt-LONGEST_TERM
returns-then-size-gt-LONGEST_TERM c = ap (λ (f : Fault). Err f) c.at.ensures ∙ examined_long c.args.bytes.now c.if-size-gt-LONGEST_TERM.true

pub overflow_sub-size : goal.overflow_sub-size
unfolding seen
overflow_sub-size c = past_shortens c.args.bytes.now c.in-Ok.rest.now c.in-Ok.ensures

pub overflow_sub-size-in-Err : goal.overflow_sub-size-in-Err
unfolding seen
overflow_sub-size-in-Err c = stuck_shortens c.args.bytes.now c.in-Err.rest.now c.in-Err.ensures

pub returns-in-Ok : goal.returns-in-Ok
unfolding seen
returns-in-Ok c =
    let bytes = typed_bytes c.args.bytes.now (λ i. omega (arith, c.type_inv.bytes i)) in
    examined_whole c.args.bytes.now c.in-Ok.rest.now bytes c.if-size-gt-LONGEST_TERM.false c.in-Ok.ensures
    (eqb-true (length c.in-Ok.rest.now) 0 (sym c.if-is_empty.ensures))

pub returns-in-Ok-2 : goal.returns-in-Ok-2
unfolding seen
returns-in-Ok-2 c =
    let bytes = typed_bytes c.args.bytes.now (λ i. omega (arith, c.type_inv.bytes i)) in
    ap (λ (f : Fault). Err f) c.at-in-Ok-2.ensures
    ∙ examined_left c.args.bytes.now c.in-Ok.rest.now bytes c.if-size-gt-LONGEST_TERM.false c.in-Ok.ensures
    (not_empty (length c.in-Ok.rest.now) c.if-is_empty.ensures)

pub returns-in-Err : goal.returns-in-Err
unfolding seen
returns-in-Err c =
    let bytes = typed_bytes c.args.bytes.now (λ i. omega (arith, c.type_inv.bytes i)) in
    ap (λ (f : Fault). Err f) c.at-in-Err.ensures
    ∙ examined_stuck c.args.bytes.now c.in-Err.rest.now bytes c.if-size-gt-LONGEST_TERM.false c.in-Err.ensures
