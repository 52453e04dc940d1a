use Rattle.std.proofs.Common.{ℕ, List, ◌++◌, length, drop, Ok, Err, sym, ap, ◌∙◌, ap₂, arith}
use Rattle.refusal.proofs.Writes.{answered_declined, left_declined, answered_written, left_written}
use Rattle.terms.proofs.Readings.{term_short}
use Rattle.terms.proofs.Renames.{renaming_declined, renaming_short, renaming_fits, length_next, copied_begins, copied_size, copied_renamed, renamed_term}
use Rattle.terms.proofs.term.Term.rename.Goals as goal

pub returns-then-overflows : goal.returns-then-overflows
returns-then-overflows c =
    let is = renaming_declined c.args.self.now.bytes.now c.args.self.now.whole c.args.renaming c.if-overflows.ensures (length c.args.out.now) in
    record { answer = ap Err c.at.ensures ∙ sym (answered_declined _ _ is); buffer = sym (left_declined _ _ is c.args.out.now); size = tt; term = tt }

pub returns-then-out-size : goal.returns-then-out-size
returns-then-out-size c =
    let is = renaming_short c.args.self.now.bytes.now c.args.self.now.whole c.args.renaming c.if-overflows.ensures (length c.args.out.now) (omega (arith, ap length c.bytes-bytes.ensures.bytes)) in
    record { answer = ap Err c.at-then-out-size.ensures ∙ sym (answered_declined _ _ is); buffer = sym (left_declined _ _ is c.args.out.now); size = tt; term = tt }

pub rename-requires : goal.rename-requires
rename-requires c =
    let copied = c.copy_from_slice.ensures.after ∙ c.bytes-bytes.ensures.bytes in
    record { clear = copied_begins c.args.self.now.bytes.now c.args.self.now.whole c.args.renaming c.if-overflows.ensures _ copied; countable = omega (arith, ap length copied, term_short c.args.self.now.bytes.now c.args.self.now.whole) }

pub returns : goal.returns
returns c =
    let copied = c.copy_from_slice.ensures.after ∙ c.bytes-bytes.ensures.bytes in
    let same = ap length c.bytes-bytes.ensures.bytes in
    let long = length_next c.args.self.now.bytes.now c.args.self.now.whole c.args.renaming c.if-overflows.ensures in
    let size = copied_size c.args.self.now.bytes.now c.args.self.now.whole c.args.renaming c.if-overflows.ensures _ copied c.rename.result c.rename.ensures.size in
    let last = copied_renamed c.args.self.now.bytes.now c.args.self.now.whole c.args.renaming c.if-overflows.ensures _ copied c.rename.new.bytes c.rename.ensures.renamed in
    let is = renaming_fits c.args.self.now.bytes.now c.args.self.now.whole c.args.renaming c.if-overflows.ensures (length c.args.out.now) (omega arith) in
    record {
      answer = ap Ok size ∙ sym (answered_written _ _ is);
      buffer = ap₂ (λ (ns : List ℕ) (k : ℕ). ns ++ drop k c.args.out.now) last (omega arith) ∙ sym (left_written _ _ is c.args.out.now);
      size = size ∙ long;
      term = rw last (renamed_term c.args.self.now.bytes.now c.args.self.now.whole c.args.renaming c.if-overflows.ensures _ _ size);
    }
