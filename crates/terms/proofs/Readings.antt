-- Reading gives the process that is written, and refuses at the end of the longest start that goes on to one.
use Rattle.std.proofs.Common.{◌≡◌, ℕ, zero, suc, ◌+◌, ◌-◌, ◌<◌, ◌≤◌, Bool, true, false, cond, ◌&&◌, ltb, leb, List, [], ◌∷◌, ◌++◌, length, take, drop, is_ok, Ok, Err, Decides, Result, sym, refl, ap, ◌∙◌, subst, ap₂, arith}
use Rattle.std.proofs.lemmas.List.{append_assoc, append-nil, length-append, length-drop, take_at}
use Rattle.std.proofs.lemmas.Bool.{and_parts, and_from, ltb-false, lt-ltb, le-ltb, le-leb, leb-true}
use Rattle.calculus.specs.Trees.{Process, write}
use Rattle.calculus.proofs.Written.{prefix_free}
use Rattle.refusal.specs.declared.Fault.{Fault}
use Rattle.refusal.specs.declared.Refusal.TheVariants.{TermTooLong, NotOneTerm}
use Rattle.refusal.specs.Writes.{fault}
use Rattle.terms.specs.Fitting.{counts_fit, are_bytes, in_range, fits, Fits, Begins, LongestStart}
use Rattle.terms.specs.Heads.{head_of}
use Rattle.terms.specs.Reading.{Scanned, whole, stuck, scan, alone, reading, is_term, process_in, tree_of}
use Rattle.terms.proofs.Numbers.{bytes_left, bytes_both}
use Rattle.terms.proofs.Scanned.{Stuck, err_ok, head_place, scan_none, scan_sound, scan_complete, scan_stuck}

-- what fits
pub fits_parts : (p : Process) → fits p ≡ true → (counts_fit p ≡ true) × (are_bytes (write p) ≡ true) × (length (write p) ≤ 4096)
unfolding fits in_range
fits_parts p e =
    let (range, short) = and_parts (counts_fit p && are_bytes (write p)) (leb (length (write p)) 4096) e in
    let (counts, bytes) = and_parts (counts_fit p) (are_bytes (write p)) range in
    (counts, bytes, leb-true (length (write p)) 4096 short)

pub range_from : (p : Process) → counts_fit p ≡ true → are_bytes (write p) ≡ true → in_range p ≡ true
unfolding in_range
range_from p counts bytes = and_from (counts_fit p) (are_bytes (write p)) counts bytes

pub range_counts : (p : Process) → in_range p ≡ true → counts_fit p ≡ true
unfolding in_range
range_counts p e = (and_parts (counts_fit p) (are_bytes (write p)) e).0

pub fits_from : (p : Process) → counts_fit p ≡ true → are_bytes (write p) ≡ true → length (write p) ≤ 4096 → fits p ≡ true
unfolding fits
fits_from p counts bytes short = and_from (in_range p) (leb (length (write p)) 4096) (range_from p counts bytes) (le-leb (length (write p)) 4096 short)

-- what reading does, test by test
alone_ok : (ns : List ℕ) (s : Scanned) (p : Process) → alone ns s ≡ Ok p → s ≡ whole p []
unfolding alone
alone_ok ns (whole q []) p e = cc
alone_ok ns (whole q (m ∷ ms)) p e = absurd (err_ok _ _ e)
alone_ok ns (stuck q) p e = absurd (err_ok _ _ e)

tests_ok : (a b : Bool) (r : Result Process Fault) (f g : Fault) (p : Process) → cond a (Err f) (cond b r (Err g)) ≡ Ok p → (a ≡ false) × (b ≡ true) × (r ≡ Ok p)
tests_ok true b r f g p e = absurd (err_ok _ _ e)
tests_ok false true r f g p e = (refl, refl, e)
tests_ok false false r f g p e = absurd (err_ok _ _ e)

pub reading_parts : (ns : List ℕ) (p : Process) → reading ns ≡ Ok p → (scan ns ≡ whole p []) × (are_bytes ns ≡ true) × (length ns ≤ 4096)
unfolding reading
reading_parts ns p e =
    let (short, bytes, found) = tests_ok (ltb 4096 (length ns)) (are_bytes ns) (alone ns (scan ns)) _ _ p e in
    (alone_ok ns (scan ns) p found, bytes, ltb-false 4096 (length ns) short)

pub reading_alone : (ns : List ℕ) → are_bytes ns ≡ true → length ns ≤ 4096 → reading ns ≡ alone ns (scan ns)
unfolding reading
reading_alone ns bytes short =
    let small : ltb 4096 (length ns) ≡ false = le-ltb 4096 (length ns) short in
    rw (small, bytes)

pub reading_long : (ns : List ℕ) → 4096 < length ns → reading ns ≡ Err (fault TermTooLong 0)
unfolding reading
reading_long ns long =
    let big : ltb 4096 (length ns) ≡ true = lt-ltb 4096 (length ns) long in
    rw big

pub scan_reading : (ns : List ℕ) (p : Process) → scan ns ≡ whole p [] → are_bytes ns ≡ true → length ns ≤ 4096 → reading ns ≡ Ok p
unfolding alone
scan_reading ns p e bytes short = reading_alone ns bytes short ∙ ap (alone ns) e

pub whole_written : (ns : List ℕ) (p : Process) → scan ns ≡ whole p [] → write p ≡ ns
whole_written ns p e = sym (append-nil (write p)) ∙ sym (scan_sound ns p [] e).0

pub written_whole : (p : Process) → counts_fit p ≡ true → scan (write p) ≡ whole p []
written_whole p counts = ap scan (sym (append-nil (write p))) ∙ scan_complete p [] counts

pub reading_fits : (ns : List ℕ) (p : Process) → reading ns ≡ Ok p → (write p ≡ ns) × (fits p ≡ true)
reading_fits ns p e =
    let (found, bytes, short) = reading_parts ns p e in
    let same : write p ≡ ns = whole_written ns p found in
    let long : length (write p) ≡ length ns = ap length same in
    (same, fits_from p (scan_sound ns p [] found).1 (ap are_bytes same ∙ bytes) (omega arith))

pub fits_reading : (p : Process) → fits p ≡ true → reading (write p) ≡ Ok p
fits_reading p e =
    let (counts, bytes, short) = fits_parts p e in
    scan_reading (write p) p (written_whole p counts) bytes short

-- the tree of a term
ok_is_so : (r : Result Process Fault) → is_ok r ≡ true → (p : Process) × (r ≡ Ok p)
ok_is_so (Ok p) e = (p, refl)
ok_is_so (Err f) e = let z : ◌≡◌ {A = ℕ} 0 1 = cc in absurd (omega arith)

pub term_scan : (ns : List ℕ) → is_term ns ≡ true → scan ns ≡ whole (tree_of ns) []
unfolding is_term tree_of process_in
term_scan ns e =
    let (p, is) = ok_is_so (reading ns) e in
    let found : scan ns ≡ whole p [] = (reading_parts ns p is).0 in
    found ∙ ap (λ (s : Scanned). whole (process_in s) []) (sym found)

pub term_reading : (ns : List ℕ) → is_term ns ≡ true → reading ns ≡ Ok (tree_of ns)
unfolding is_term
term_reading ns e =
    let (p, is) = ok_is_so (reading ns) e in
    let found : scan ns ≡ whole p [] = (reading_parts ns p is).0 in
    let tree : scan ns ≡ whole (tree_of ns) [] = term_scan ns e in
    let same : p ≡ tree_of ns = cc in
    is ∙ ap Ok same

pub term_written : (ns : List ℕ) → is_term ns ≡ true → write (tree_of ns) ≡ ns
term_written ns e = (reading_fits ns (tree_of ns) (term_reading ns e)).0

pub term_fits : (ns : List ℕ) → is_term ns ≡ true → fits (tree_of ns) ≡ true
term_fits ns e = (reading_fits ns (tree_of ns) (term_reading ns e)).1

pub term_bytes : (ns : List ℕ) → is_term ns ≡ true → are_bytes (write (tree_of ns)) ≡ true
term_bytes ns e = (fits_parts (tree_of ns) (term_fits ns e)).1

pub term_length : (ns : List ℕ) → is_term ns ≡ true → length (write (tree_of ns)) ≡ length ns
term_length ns e = ap length (term_written ns e)

pub term_short : (ns : List ℕ) → is_term ns ≡ true → length ns ≤ 4096
term_short ns e = omega (arith, (fits_parts (tree_of ns) (term_fits ns e)).2, term_length ns e)

pub reading_term : (ns : List ℕ) (p : Process) → reading ns ≡ Ok p → is_term ns ≡ true
unfolding is_term
reading_term ns p e = ap is_ok e

pub scan_term : (ns : List ℕ) (p : Process) → scan ns ≡ whole p [] → are_bytes ns ≡ true → length ns ≤ 4096 → is_term ns ≡ true
scan_term ns p e bytes short = reading_term ns p (scan_reading ns p e bytes short)

pub fits_term : (p : Process) → fits p ≡ true → is_term (write p) ≡ true
fits_term p e = reading_term (write p) p (fits_reading p e)

pub decides_fits : (ns : List ℕ) → Decides (is_term ns) (Fits ns)
decides_fits ns = (
  λ e. (tree_of ns, term_written ns e, term_fits ns e),
  λ found. ap is_term (sym found.1) ∙ fits_term found.0 found.2,
)

-- a longer start takes in the next number
one_longer : (n y k : ℕ) (start q ns : List ℕ) → n ≡ y → (x : ℕ) × (r more : List ℕ) × (q ≡ x ∷ r) × (take k ns ≡ start ++ x ∷ more) →
    (x : ℕ) × (r more : List ℕ) × (q ≡ x ∷ r) × (n ∷ take k ns ≡ y ∷ (start ++ x ∷ more))
one_longer n y k start q ns same (x, r, more, is, f) = (x, r, more, is, cc)

longer_start : (start q ns : List ℕ) (longer : ℕ) → ns ≡ start ++ q → length start < longer → longer ≤ length ns →
    (x : ℕ) × (r more : List ℕ) × (q ≡ x ∷ r) × (take longer ns ≡ start ++ x ∷ more)
longer_start [] [] ns longer e l m = absurd (omega (arith, ap length e))
longer_start [] (x ∷ r) ns zero e l m = absurd (omega arith)
longer_start [] (x ∷ r) ns (suc k) e l m = (x, r, take k r, refl, ap (take (suc k)) e)
longer_start (y ∷ start) q [] longer e l m = absurd (omega arith)
longer_start (y ∷ start) q (n ∷ ns) zero e l m = absurd (omega arith)
longer_start (y ∷ start) q (n ∷ ns) (suc k) e l m =
    let tail : ns ≡ start ++ q = cc in
    let head : n ≡ y = cc in
    one_longer n y k start q ns head (longer_start start q ns k tail (omega arith) (omega arith))

-- where reading stops
longest_at : (ns start q : List ℕ) → ns ≡ start ++ q → Begins start → ((x : ℕ) (r more : List ℕ) → q ≡ x ∷ r → Begins (start ++ x ∷ more) → ⊥) → LongestStart ns (length ns - length q)
longest_at ns start q cut begins ends =
    let sum : length ns ≡ length start + length q = ap length cut ∙ length-append start q in
    let place : length ns - length q ≡ length start = omega arith in
    let taken : take (length ns - length q) ns ≡ start = ap₂ (λ (k : ℕ) (x : List ℕ). take k x) place cut ∙ take_at start q (length start) refl in (
      omega arith,
      subst Begins (sym taken) begins,
      λ longer l m b.
          let (x, r, more, is, f) = longer_start start q ns longer cut (omega arith) m in
          ends x r more is (subst Begins f b),
    )

after_whole : (p : Process) (x : ℕ) (more : List ℕ) → Begins (write p ++ x ∷ more) → ⊥
after_whole p x more (rest, (t, w, range)) =
    let same : write t ++ [] ≡ write p ++ (x ∷ (more ++ rest)) = append-nil (write t) ∙ w ∙ append_assoc (write p) (x ∷ more) rest in
    let none : [] ≡ x ∷ (more ++ rest) = (prefix_free t p [] (x ∷ (more ++ rest)) same).1 in
    let z : ◌≡◌ {A = ℕ} 0 1 = cc in
    omega arith

-- bytes left over
left_longest : (ns : List ℕ) (p : Process) (x : ℕ) (r : List ℕ) → are_bytes ns ≡ true → scan ns ≡ whole p (x ∷ r) → LongestStart ns (length ns - length (x ∷ r))
left_longest ns p x r bytes e =
    let (cut, counts) = scan_sound ns p (x ∷ r) e in
    let here : are_bytes (write p) ≡ true = bytes_left (write p) (x ∷ r) (ap are_bytes (sym cut) ∙ bytes) in
    longest_at ns (write p) (x ∷ r) cut ([], (p, sym (append-nil (write p)), range_from p counts here)) (λ y m more is b. after_whole p y more b)

-- a byte that cannot stand, or bytes that lack
stuck_longest : (ns q : List ℕ) → are_bytes ns ≡ true → scan ns ≡ stuck q → LongestStart ns (length ns - length q)
stuck_longest ns q bytes e =
    let s : Stuck ns q = scan_stuck ns q e in
    let here : are_bytes s.start ≡ true = bytes_left s.start q (ap are_bytes (sym s.cut) ∙ bytes) in
    let all : are_bytes (write s.tree) ≡ true = ap are_bytes s.written ∙ bytes_both s.start s.more here s.bytes in
    longest_at ns s.start q s.cut (s.more, (s.tree, s.written, range_from s.tree s.counts all)) (λ x r more is b. goes_on s x r more is b)
  where
    goes_on : (s : Stuck ns q) (x : ℕ) (r more : List ℕ) → q ≡ x ∷ r → Begins (s.start ++ x ∷ more) → ⊥
    goes_on s x r more is (rest, (t, w, range)) =
        let found : scan (write t) ≡ whole t [] = written_whole t (range_counts t range) in
        let same : write t ≡ s.start ++ (x ∷ (more ++ rest)) = w ∙ append_assoc s.start (x ∷ more) rest in
        let halts : scan (s.start ++ (x ∷ (more ++ rest))) ≡ stuck (x ∷ (more ++ rest)) = s.local x r (more ++ rest) is in
        let z : ◌≡◌ {A = ℕ} 0 1 = cc (ap scan same) in
        omega arith

-- no head at the start
pub head_longest : (ns : List ℕ) (k : ℕ) → are_bytes ns ≡ true → Err k ≡ head_of ns → LongestStart ns k
head_longest ns k bytes e =
    let within : k ≤ length ns = head_place ns k (sym e) in
    let place : length ns - length (drop k ns) ≡ k = omega (arith, length-drop k ns) in
    subst (LongestStart ns) place (stuck_longest ns (drop k ns) bytes (scan_none ns k (sym e)))

by_scan : (ns : List ℕ) → are_bytes ns ≡ true → length ns ≤ 4096 → (Fits ns → ⊥) → (s : Scanned) → scan ns ≡ s →
    (place : ℕ) × (reading ns ≡ Err (fault NotOneTerm place)) × LongestStart ns place
unfolding alone
by_scan ns bytes short unfit (whole p []) e =
    let (same, fit) = reading_fits ns p (scan_reading ns p e bytes short) in
    absurd (unfit (p, same, fit))
by_scan ns bytes short unfit (whole p (x ∷ r)) e = (length ns - length (x ∷ r), reading_alone ns bytes short ∙ ap (alone ns) e, left_longest ns p x r bytes e)
by_scan ns bytes short unfit (stuck q) e = (length ns - length q, reading_alone ns bytes short ∙ ap (alone ns) e, stuck_longest ns q bytes e)

pub reading_refused : (ns : List ℕ) → are_bytes ns ≡ true → length ns ≤ 4096 → (Fits ns → ⊥) →
    (place : ℕ) × (reading ns ≡ Err (fault NotOneTerm place)) × LongestStart ns place
reading_refused ns bytes short unfit = by_scan ns bytes short unfit (scan ns) refl
