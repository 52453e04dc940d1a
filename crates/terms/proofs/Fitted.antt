-- What is made of a term that fits and is as long as it, or a part of it, fits too.
use Rattle.std.proofs.Common.{◌≡◌, ℕ, ◌-◌, true, leb, List, ◌++◌, length, take, drop, Some, sym, ap, ◌∙◌, arith}
use Rattle.std.proofs.lemmas.List.{length-append}
use Rattle.std.proofs.lemmas.Bool.{and_parts}
use Rattle.calculus.specs.Trees.{Process, write}
use Rattle.calculus.specs.Names.{rename}
use Rattle.calculus.specs.Contexts.{Context, hole, below_output, below_input, in_left_arm, in_right_arm, in_left_part, in_right_part, below_restriction, below_replication, fill, before, after}
use Rattle.calculus.specs.Playing.{node_at}
use Rattle.calculus.proofs.Places.{write-fill}
use Rattle.terms.specs.Fitting.{counts_fit, are_bytes, fits}
use Rattle.terms.specs.Finding.{place_of, PartOf}
use Rattle.terms.specs.Reading.{is_term, tree_of}
use Rattle.terms.proofs.Found.{stands_some}
use Rattle.terms.proofs.Numbers.{bytes_left, bytes_right}
use Rattle.terms.proofs.Pointed.{counts_renamed, length-renamed}
use Rattle.terms.proofs.Readings.{fits_parts, fits_from, fits_term, term_written, term_fits}

counts_part : (c : Context) (p : Process) → counts_fit (fill c p) ≡ true → counts_fit p ≡ true
unfolding counts_fit fill
counts_part hole p e = e
counts_part (below_output s os c) p e = counts_part c p (and_parts (leb (length os) 8) (counts_fit (fill c p)) e).1
counts_part (below_input s n c) p e = counts_part c p (and_parts (leb n 8) (counts_fit (fill c p)) e).1
counts_part (in_left_arm c q) p e = counts_part c p (and_parts (counts_fit (fill c p)) (counts_fit q) e).0
counts_part (in_right_arm q c) p e = counts_part c p (and_parts (counts_fit q) (counts_fit (fill c p)) e).1
counts_part (in_left_part c q) p e = counts_part c p (and_parts (counts_fit (fill c p)) (counts_fit q) e).0
counts_part (in_right_part q c) p e = counts_part c p (and_parts (counts_fit q) (counts_fit (fill c p)) e).1
counts_part (below_restriction s c) p e = counts_part c p e
counts_part (below_replication c) p e = counts_part c p e

-- a part of a process that fits
pub fits_part : (c : Context) (p : Process) → fits (fill c p) ≡ true → fits p ≡ true
fits_part c p e =
    let (counts, bytes, short) = fits_parts (fill c p) e in
    let within = bytes_right (before c) (write p ++ after c) (ap are_bytes (sym (write-fill c p)) ∙ bytes) in
    fits_from p (counts_part c p counts) (bytes_left (write p) (after c) within)
    (omega (arith, short, ap length (write-fill c p), length-append (before c) (write p ++ after c), length-append (write p) (after c)))

-- a renaming, where no pointer passes 255
pub fits_renamed : (f : ℕ → ℕ → ℕ) (p : Process) → fits p ≡ true → are_bytes (write (rename f 0 p)) ≡ true → fits (rename f 0 p) ≡ true
fits_renamed f p e bytes =
    let (counts, were, short) = fits_parts p e in
    fits_from (rename f 0 p) (counts_renamed f 0 p ∙ counts) bytes (omega (arith, short, length-renamed f 0 p))

-- the node at an offset is a term
pub part_term : (ns : List ℕ) (term : is_term ns ≡ true) (offset : ℕ) (c : Context) (p : Process) → node_at offset (tree_of ns) ≡ Some (c, p) → PartOf ns (Some (place_of c p))
part_term ns term offset c p e =
    let (d, q, filled, at, place, front, back, own, whole, others) = stands_some (tree_of ns) offset c p e in
    let fit : fits q ≡ true = fits_part d q (ap fits filled ∙ term_fits ns term) in
    let same : take ((place_of c p).end - (place_of c p).from) (drop (place_of c p).from ns) ≡ write q =
    ap (λ (x : List ℕ). take ((place_of c p).end - (place_of c p).from) (drop (place_of c p).from x)) (sym (term_written ns term)) ∙ own in
    ap is_term same ∙ fits_term q fit
