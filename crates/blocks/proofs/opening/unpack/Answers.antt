use Rattle.std.proofs.Common.{ℕ, ◌/◌, ◌≤◌, List, ◌++◌, length, drop, Ok, Err, sym, ap, ◌∙◌, arith, rules}
use Rattle.std.proofs.lemmas.Result.{err_from_is_err_and, IfOk-from_err}
use Rattle.std.specs.List.{flat_map}
use Rattle.refusal.proofs.Writes.{within_err, answered_declined, left_declined, answered_written, left_written}
use Rattle.blocks.specs.Opening.{opened, payload_of, unpacking}
use Rattle.blocks.proofs.Laws.{sealed_only}
use Rattle.blocks.proofs.Opened.{opened_not, opened_length, whole_parts, unless_ok, short_blocks, payloads_of_chunks, unpacking_declined, unpacking_short, unpacking_fits}
use Rattle.blocks.proofs.opening.unpack.Goals as goal

pub returns-then-not-whole_blocks : goal.returns-then-not-whole_blocks
unfolding unpacking
returns-then-not-whole_blocks c =
    let is = within_err (length c.args.out.now) (opened c.args.blocks.now) _ (opened_not c.args.blocks.now (sym c.if-not-whole_blocks.ensures)) in
    record { answer = ap Err c.at.ensures ∙ sym (answered_declined _ _ is); buffer = sym (left_declined _ _ is c.args.out.now); room = tt; sealed = sealed_only c.args.blocks.now (λ i. search rules) }

pub stream_length-requires : goal.stream_length-requires
stream_length-requires c = omega (arith, c.as_chunks.ensures.front_len, whole_parts (length c.args.blocks.now) (sym c.if-not-whole_blocks.ensures))

pub returns-in_err-size : goal.returns-in_err-size
returns-in_err-size c =
    let p = err_from_is_err_and c.from_residual.result c.from_residual.ensures.1 in
    let long = opened_length c.args.blocks.now _ (sym c.if-not-whole_blocks.ensures) c.as_chunks.ensures.front in
    let is = unpacking_declined c.args.blocks.now (length c.args.out.now) c.in_err-size.field-0.0 (long ∙ sym c.in_err-size.ensures) in
    record { answer = p.1 ∙ ap Err p.2 ∙ sym (answered_declined _ _ is); buffer = sym (left_declined _ _ is c.args.out.now); room = IfOk-from_err c.from_residual.result (λ n. n ≤ length c.args.out.now) c.from_residual.ensures.0; sealed = sealed_only c.args.blocks.now (λ i. search rules) }

pub returns-then-out-size : goal.returns-then-out-size
returns-then-out-size c =
    let long = opened_length c.args.blocks.now _ (sym c.if-not-whole_blocks.ensures) c.as_chunks.ensures.front in
    let is = unpacking_short c.args.blocks.now (length c.args.out.now) c.in_ok-size.size (long ∙ sym c.in_ok-size.ensures) c.if-out-size.true in
    record { answer = ap Err c.at-then-out-size.ensures ∙ sym (answered_declined _ _ is); buffer = sym (left_declined _ _ is c.args.out.now); room = tt; sealed = sealed_only c.args.blocks.now (λ i. search rules) }

pub copy_payloads-requires : goal.copy_payloads-requires
copy_payloads-requires c =
    let found = unless_ok _ _ c.in_ok-size.size (sym c.in_ok-size.ensures) in
    record { short = short_blocks 0 _ found.0; room = omega (arith, found.1) }

pub returns : goal.returns
returns c =
    let long = opened_length c.args.blocks.now _ (sym c.if-not-whole_blocks.ensures) c.as_chunks.ensures.front in
    let is = unpacking_fits c.args.blocks.now (length c.args.out.now) c.in_ok-size.size (long ∙ sym c.in_ok-size.ensures) c.if-out-size.false in
    let bytes = ap (flat_map payload_of) c.as_chunks.ensures.front ∙ payloads_of_chunks (length c.args.blocks.now / 512) c.args.blocks.now in
    record {
      answer = ap Ok (sym (unless_ok _ _ c.in_ok-size.size (sym c.in_ok-size.ensures)).1 ∙ ap length bytes) ∙ sym (answered_written _ _ is);
      buffer = c.copy_payloads.ensures ∙ ap (λ (p : List ℕ). p ++ drop (length p) c.args.out.now) bytes ∙ sym (left_written _ _ is c.args.out.now);
      room = c.if-out-size.false;
      sealed = sealed_only c.args.blocks.now (λ i. search rules);
    }
