use Rattle.std.proofs.Common.{◌≡◌, ℕ, ◌+◌, ◌*◌, length, take, drop, Ok, Err, zero-add, sym, refl, ap, ◌∙◌, arith}
use Rattle.std.proofs.lemmas.List.{drop-drop}
use Rattle.refusal.proofs.Writes.{answered_declined, left_declined, answered_written, left_written}
use Rattle.blocks.specs.Sealing.{block, blocks_from, sheet_of}
use Rattle.blocks.proofs.Laws.{opens_again}
use Rattle.blocks.proofs.Packed.{length-sheet_of, length-block, length_payload, packing_long, packing_short, packing_fits, count_is, blocks_more}
use Rattle.blocks.proofs.Parts.{take_to, drop_to, holds_more}
use Rattle.blocks.proofs.sealing.pack.Goals as goal

pub returns-then-stream-gt-LONGEST_STREAM : goal.returns-then-stream-gt-LONGEST_STREAM
returns-then-stream-gt-LONGEST_STREAM c =
    let is = packing_long c.args.stream.now (length c.args.out.now) c.if-stream-gt-LONGEST_STREAM.true in
    record { answer = ap Err c.at.ensures ∙ sym (answered_declined _ _ is); buffer = sym (left_declined _ _ is c.args.out.now); room = tt; opens = opens_again c.args.stream.now }

pub returns-then-out-size : goal.returns-then-out-size
returns-then-out-size c =
    let count = count_is c.args.stream.now c.div_ceil.result c.max-count.result c.div_ceil.ensures c.max-count.ensures in
    let is = packing_short c.args.stream.now (length c.args.out.now) c.if-stream-gt-LONGEST_STREAM.false (omega (arith, length-sheet_of c.args.stream.now)) in
    record { answer = ap Err c.at-then-out-size.ensures ∙ sym (answered_declined _ _ is); buffer = sym (left_declined _ _ is c.args.out.now); room = tt; opens = opens_again c.args.stream.now }

pub loop-number-init : goal.loop-number-init
unfolding blocks_from
loop-number-init c = record { rest = refl; held = record { bytes = refl; long = refl } }

pub loop-number-preserved : goal.loop-number-preserved
loop-number-preserved c =
    let payload = c.split_at.ensures.front ∙ take_to c.loop-number.rest.now c.min.result 504 c.min.ensures ∙ ap (take 504) c.loop-number.invariant.rest in
    let written = c.seal_block.ensures ∙ ap (block c.loop-number.number) payload in
    let step : c.loop-number.number * 504 + 504 ≡ (c.loop-number.number + 1) * 504 = omega arith in
    record {
      rest = c.split_at.ensures.back ∙ drop_to c.loop-number.rest.now c.min.result 504 c.min.ensures ∙ ap (drop 504) c.loop-number.invariant.rest
          ∙ drop-drop 504 (c.loop-number.number * 504) c.args.stream.now ∙ ap (λ (k : ℕ). drop k c.args.stream.now) step;
      held = rw (blocks_more c.loop-number.number 0 c.loop-number.number c.args.stream.now (zero-add c.loop-number.number), ← written)
          (holds_more _ _ _ _ (c.loop-number.number * 512) _ _ c.loop-number.invariant.held (ap length written ∙ length-block c.loop-number.number _ (length_payload _) ∙ omega arith) (omega arith));
    }

pub returns : goal.returns
unfolding sheet_of
returns c =
    let count = count_is c.args.stream.now c.div_ceil.result c.max-count.result c.div_ceil.ensures c.max-count.ensures in
    let is = packing_fits c.args.stream.now (length c.args.out.now) c.if-stream-gt-LONGEST_STREAM.false (omega (arith, length-sheet_of c.args.stream.now)) in
    let all : blocks_from c.loop-number.number 0 c.args.stream.now ≡ sheet_of c.args.stream.now = ap (λ (k : ℕ). blocks_from k 0 c.args.stream.now) (omega arith) in
    let long : c.loop-number.number * 512 ≡ length (sheet_of c.args.stream.now) = sym c.loop-number.invariant.held.long ∙ ap length all in
    record {
      answer = ap Ok (omega arith) ∙ sym (answered_written _ _ is);
      buffer = c.loop-number.invariant.held.bytes ∙ rw (all, long) (sym (left_written _ _ is c.args.out.now));
      room = omega arith;
      opens = opens_again c.args.stream.now;
    }
