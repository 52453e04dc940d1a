use Rattle.std.proofs.Common.{◌≡◌, ◌-◌, ◌<◌, ◌≤◌, length, get_or, sym, arith, rules}
use Rattle.std.proofs.lemmas.Bool.{eqb-true}
use Rattle.terms.proofs.Heads.{head_none, head_terminated, head_choice, head_parallel, head_replication, head_unknown, restriction_lacks, head_restriction, prefix_lacks, prefix_count, objects_lack, head_output, head_input, not_empty}
use Rattle.terms.proofs.Numbers.{typed_bytes}
use Rattle.terms.proofs.Readings.{head_longest}
use Rattle.terms.proofs.Scanned.{opens_with}
use Rattle.terms.proofs.head.Head.read.Goals as goal

pub returns-then-is_empty : goal.returns-then-is_empty
returns-then-is_empty c =
    let none : length c.args.bytes.now ≤ 0 = omega (arith, eqb-true (length c.args.bytes.now) 0 (sym c.if-is_empty.ensures)) in
    let answer = head_none c.args.bytes.now none in
    record { answer = answer; opens = tt; refused = head_longest c.args.bytes.now _ (typed_bytes c.args.bytes.now (λ i. omega (arith, c.type_inv.bytes i))) answer; within = omega arith }

pub returns-in-1 : goal.returns-in-1
returns-in-1 c =
    let low : 0 < get_or c.args.bytes.now 0 0 = omega arith in
    let high : get_or c.args.bytes.now 0 0 < 3 = omega arith in
    let some = not_empty (length c.args.bytes.now) c.if-is_empty.ensures in
    let answer = prefix_lacks c.args.bytes.now low high some c.if-bytes-lt3.true in
    record { answer = answer; opens = tt; refused = head_longest c.args.bytes.now _ (typed_bytes c.args.bytes.now (λ i. omega (arith, c.type_inv.bytes i))) answer; within = omega arith }

pub returns-in-1-2 : goal.returns-in-1-2
returns-in-1-2 c =
    let low : 0 < get_or c.args.bytes.now 0 0 = omega arith in
    let high : get_or c.args.bytes.now 0 0 < 3 = omega arith in
    let answer = prefix_count c.args.bytes.now low high c.if-bytes-lt3.false c.if-bytes-gt-MOST_NAMES.true in
    record { answer = answer; opens = tt; refused = head_longest c.args.bytes.now _ (typed_bytes c.args.bytes.now (λ i. omega (arith, c.type_inv.bytes i))) answer; within = omega arith }

pub returns-in-1-3 : goal.returns-in-1-3
returns-in-1-3 c =
    let tag : get_or c.args.bytes.now 0 0 ≡ 1 = omega arith in
    let three : 3 ≤ length c.args.bytes.now = omega arith in
    let few : get_or c.args.bytes.now 2 0 ≤ 8 = omega arith in
    let short : length c.args.bytes.now - 3 < get_or c.args.bytes.now 2 0 = omega arith in
    let answer = objects_lack c.args.bytes.now tag three few short in
    record { answer = answer; opens = tt; refused = head_longest c.args.bytes.now _ (typed_bytes c.args.bytes.now (λ i. omega (arith, c.type_inv.bytes i))) answer; within = omega arith }

pub returns-in-1-4 : goal.returns-in-1-4
returns-in-1-4 c =
    let tag : get_or c.args.bytes.now 0 0 ≡ 1 = omega arith in
    let three : 3 ≤ length c.args.bytes.now = omega arith in
    let few : get_or c.args.bytes.now 2 0 ≤ 8 = omega arith in
    let room : get_or c.args.bytes.now 2 0 ≤ length c.args.bytes.now - 3 = omega arith in
    let answer = head_output c.args.bytes.now tag three few room in
    record { answer = answer; opens = opens_with c.args.bytes.now _ answer; refused = tt; within = omega arith }

pub returns-in-2 : goal.returns-in-2
returns-in-2 c =
    let tag : get_or c.args.bytes.now 0 0 ≡ 2 = omega arith in
    let three : 3 ≤ length c.args.bytes.now = omega arith in
    let few : get_or c.args.bytes.now 2 0 ≤ 8 = omega arith in
    let answer = head_input c.args.bytes.now tag three few in
    record { answer = answer; opens = opens_with c.args.bytes.now _ answer; refused = tt; within = omega arith }

pub returns-in_default-3 : goal.returns-in_default-3
returns-in_default-3 c =
    let tag : 6 < get_or c.args.bytes.now 0 0 = omega arith in
    let some = not_empty (length c.args.bytes.now) c.if-is_empty.ensures in
    let answer = head_unknown c.args.bytes.now some tag in
    record { answer = answer; opens = tt; refused = head_longest c.args.bytes.now _ (typed_bytes c.args.bytes.now (λ i. omega (arith, c.type_inv.bytes i))) answer; within = omega arith }

pub returns-in-6 : goal.returns-in-6
returns-in-6 c =
    let tag : get_or c.args.bytes.now 0 0 ≡ 6 = omega arith in
    let some = not_empty (length c.args.bytes.now) c.if-is_empty.ensures in
    let answer = head_replication c.args.bytes.now some tag in
    record { answer = answer; opens = opens_with c.args.bytes.now _ answer; refused = tt; within = omega arith }

pub returns-in-5 : goal.returns-in-5
returns-in-5 c =
    let tag : get_or c.args.bytes.now 0 0 ≡ 5 = search rules in
    let some = not_empty (length c.args.bytes.now) c.if-is_empty.ensures in
    let answer = restriction_lacks c.args.bytes.now some tag c.if-bytes-lt2.true in
    record { answer = answer; opens = tt; refused = head_longest c.args.bytes.now _ (typed_bytes c.args.bytes.now (λ i. omega (arith, c.type_inv.bytes i))) answer; within = omega arith }

pub returns-in-5-2 : goal.returns-in-5-2
returns-in-5-2 c =
    let tag : get_or c.args.bytes.now 0 0 ≡ 5 = search rules in
    let answer = head_restriction c.args.bytes.now tag c.if-bytes-lt2.false in
    record { answer = answer; opens = opens_with c.args.bytes.now _ answer; refused = tt; within = omega arith }

pub returns-in-4 : goal.returns-in-4
returns-in-4 c =
    let tag : get_or c.args.bytes.now 0 0 ≡ 4 = omega arith in
    let some = not_empty (length c.args.bytes.now) c.if-is_empty.ensures in
    let answer = head_parallel c.args.bytes.now some tag in
    record { answer = answer; opens = opens_with c.args.bytes.now _ answer; refused = tt; within = omega arith }

pub returns-in-3 : goal.returns-in-3
returns-in-3 c =
    let tag : get_or c.args.bytes.now 0 0 ≡ 3 = omega arith in
    let some = not_empty (length c.args.bytes.now) c.if-is_empty.ensures in
    let answer = head_choice c.args.bytes.now some tag in
    record { answer = answer; opens = opens_with c.args.bytes.now _ answer; refused = tt; within = omega arith }

pub returns-in-0 : goal.returns-in-0
returns-in-0 c =
    let tag : get_or c.args.bytes.now 0 0 ≡ 0 = omega arith in
    let some = not_empty (length c.args.bytes.now) c.if-is_empty.ensures in
    let answer = head_terminated c.args.bytes.now some tag in
    record { answer = answer; opens = opens_with c.args.bytes.now _ answer; refused = tt; within = omega arith }
