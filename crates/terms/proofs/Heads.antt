-- The head at the start of bytes, case by case.
use Rattle.std.proofs.Common.{◌≡◌, ℕ, zero, suc, ◌+◌, ◌-◌, ◌<◌, ◌≤◌, false, eqb, List, [], ◌∷◌, length, get_or, Ok, Err, refl, ap, inl, inr, arith}
use Rattle.std.proofs.lemmas.Bool.{lt-ltb, le-ltb, cases_eq}
use Rattle.std.proofs.lemmas.Bool.Decides.{nat_tests}
use Rattle.terms.specs.declared.head.Head.TheVariants.{Terminated, Output, Input, Choice, Parallel, Restriction, Replication}
use Rattle.terms.specs.Heads.{head_of, output_head, input_head, restriction_head}

-- bytes by their first one
pub tagged : (ns : List ℕ) (n : ℕ) → 0 < length ns → get_or ns 0 0 ≡ n → (rest : List ℕ) × (ns ≡ n ∷ rest)
tagged [] n h e = absurd (omega arith)
tagged (m ∷ ns) n h e = (ns, ap (λ (k : ℕ). k ∷ ns) e)

no_bytes : (ns : List ℕ) → length ns ≤ 0 → ns ≡ []
no_bytes [] h = refl
no_bytes (n ∷ ns) h = absurd (omega arith)

pub head_none : (ns : List ℕ) → length ns ≤ 0 → Err 0 ≡ head_of ns
unfolding head_of
head_none ns h = rw (no_bytes ns h) refl

module _ (ns : List ℕ) (some : 0 < length ns) where
  pub head_terminated : get_or ns 0 0 ≡ 0 → Ok Terminated ≡ head_of ns
  unfolding head_of
  head_terminated e = rw (tagged ns 0 some e).1 refl

  pub head_choice : get_or ns 0 0 ≡ 3 → Ok Choice ≡ head_of ns
  unfolding head_of
  head_choice e = rw (tagged ns 3 some e).1 refl

  pub head_parallel : get_or ns 0 0 ≡ 4 → Ok Parallel ≡ head_of ns
  unfolding head_of
  head_parallel e = rw (tagged ns 4 some e).1 refl

  pub head_replication : get_or ns 0 0 ≡ 6 → Ok Replication ≡ head_of ns
  unfolding head_of
  head_replication e = rw (tagged ns 6 some e).1 refl

-- an unknown tag
pub head_unknown : (ns : List ℕ) → 0 < length ns → 6 < get_or ns 0 0 → Err 0 ≡ head_of ns
unfolding head_of
head_unknown [] h u = absurd (omega arith)
head_unknown (zero ∷ ns) h u = absurd (omega arith)
head_unknown (suc zero ∷ ns) h u = absurd (omega arith)
head_unknown (suc (suc zero) ∷ ns) h u = absurd (omega arith)
head_unknown (suc (suc (suc zero)) ∷ ns) h u = absurd (omega arith)
head_unknown (suc (suc (suc (suc zero))) ∷ ns) h u = absurd (omega arith)
head_unknown (suc (suc (suc (suc (suc zero)))) ∷ ns) h u = absurd (omega arith)
head_unknown (suc (suc (suc (suc (suc (suc zero))))) ∷ ns) h u = absurd (omega arith)
head_unknown (suc (suc (suc (suc (suc (suc (suc n)))))) ∷ ns) h u = refl

pub restriction_lacks : (ns : List ℕ) → 0 < length ns → get_or ns 0 0 ≡ 5 → length ns < 2 → Err 1 ≡ head_of ns
unfolding head_of restriction_head
restriction_lacks [] h e l = absurd (omega arith)
restriction_lacks (n ∷ []) h e l = rw e refl
restriction_lacks (n ∷ m ∷ ns) h e l = absurd (omega arith)

pub head_restriction : (ns : List ℕ) → get_or ns 0 0 ≡ 5 → 2 ≤ length ns → Ok (Restriction (get_or ns 1 0)) ≡ head_of ns
unfolding head_of restriction_head
head_restriction [] e l = absurd (omega arith)
head_restriction (n ∷ []) e l = absurd (omega arith)
head_restriction (n ∷ m ∷ ns) e l = rw e refl

pub output_lacks : (ns : List ℕ) → 0 < length ns → get_or ns 0 0 ≡ 1 → length ns < 3 → Err (length ns) ≡ head_of ns
unfolding head_of output_head
output_lacks [] h e l = absurd (omega arith)
output_lacks (n ∷ []) h e l = rw e refl
output_lacks (n ∷ m ∷ []) h e l = rw e refl
output_lacks (n ∷ m ∷ k ∷ ns) h e l = absurd (omega arith)

pub input_lacks : (ns : List ℕ) → 0 < length ns → get_or ns 0 0 ≡ 2 → length ns < 3 → Err (length ns) ≡ head_of ns
unfolding head_of input_head
input_lacks [] h e l = absurd (omega arith)
input_lacks (n ∷ []) h e l = rw e refl
input_lacks (n ∷ m ∷ []) h e l = rw e refl
input_lacks (n ∷ m ∷ k ∷ ns) h e l = absurd (omega arith)

pub output_count : (ns : List ℕ) → get_or ns 0 0 ≡ 1 → 3 ≤ length ns → 8 < get_or ns 2 0 → Err 2 ≡ head_of ns
unfolding head_of output_head
output_count [] e l m = absurd (omega arith)
output_count (n ∷ []) e l m = absurd (omega arith)
output_count (n ∷ s ∷ []) e l m = absurd (omega arith)
output_count (n ∷ s ∷ k ∷ ns) e l m = rw (e, lt-ltb 8 k m) refl

pub input_count : (ns : List ℕ) → get_or ns 0 0 ≡ 2 → 3 ≤ length ns → 8 < get_or ns 2 0 → Err 2 ≡ head_of ns
unfolding head_of input_head
input_count [] e l m = absurd (omega arith)
input_count (n ∷ []) e l m = absurd (omega arith)
input_count (n ∷ s ∷ []) e l m = absurd (omega arith)
input_count (n ∷ s ∷ k ∷ ns) e l m = rw (e, lt-ltb 8 k m) refl

pub objects_lack : (ns : List ℕ) → get_or ns 0 0 ≡ 1 → 3 ≤ length ns → get_or ns 2 0 ≤ 8 → length ns - 3 < get_or ns 2 0 → Err (length ns) ≡ head_of ns
unfolding head_of output_head
objects_lack [] e l m h = absurd (omega arith)
objects_lack (n ∷ []) e l m h = absurd (omega arith)
objects_lack (n ∷ s ∷ []) e l m h = absurd (omega arith)
objects_lack (n ∷ s ∷ k ∷ ns) e l m h =
    let short : length ns < k = omega arith in
    let sum : suc (suc (suc (length ns))) ≡ 3 + length ns = omega arith in
    rw (e, le-ltb 8 k m, lt-ltb (length ns) k short) (ap (λ (x : ℕ). Err x) sum)

pub head_output : (ns : List ℕ) → get_or ns 0 0 ≡ 1 → 3 ≤ length ns → get_or ns 2 0 ≤ 8 → get_or ns 2 0 ≤ length ns - 3 → Ok (Output (get_or ns 1 0) (get_or ns 2 0)) ≡ head_of ns
unfolding head_of output_head
head_output [] e l m h = absurd (omega arith)
head_output (n ∷ []) e l m h = absurd (omega arith)
head_output (n ∷ s ∷ []) e l m h = absurd (omega arith)
head_output (n ∷ s ∷ k ∷ ns) e l m h =
    let room : k ≤ length ns = omega arith in
    rw (e, le-ltb 8 k m, le-ltb (length ns) k room) refl

pub head_input : (ns : List ℕ) → get_or ns 0 0 ≡ 2 → 3 ≤ length ns → get_or ns 2 0 ≤ 8 → Ok (Input (get_or ns 1 0) (get_or ns 2 0)) ≡ head_of ns
unfolding head_of input_head
head_input [] e l m = absurd (omega arith)
head_input (n ∷ []) e l m = absurd (omega arith)
head_input (n ∷ s ∷ []) e l m = absurd (omega arith)
head_input (n ∷ s ∷ k ∷ ns) e l m = rw (e, le-ltb 8 k m) refl

-- an output or an input
pub prefix_lacks : (ns : List ℕ) → 0 < get_or ns 0 0 → get_or ns 0 0 < 3 → 0 < length ns → length ns < 3 → Err (length ns) ≡ head_of ns
prefix_lacks ns low high h l = elim (cases_eq (get_or ns 0 0) 1) [ inl e ↦ output_lacks ns h e l | inr e ↦ input_lacks ns h (omega arith) l ]

pub prefix_count : (ns : List ℕ) → 0 < get_or ns 0 0 → get_or ns 0 0 < 3 → 3 ≤ length ns → 8 < get_or ns 2 0 → Err 2 ≡ head_of ns
prefix_count ns low high l m = elim (cases_eq (get_or ns 0 0) 1) [ inl e ↦ output_count ns e l m | inr e ↦ input_count ns (omega arith) l m ]

pub not_empty : (n : ℕ) → false ≡ eqb n 0 → 0 < n
not_empty n e = grind (arith, nat_tests)
