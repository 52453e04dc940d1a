-- Blocks opened one after another: what each adds to the stream, and how its fault is the first.
use Rattle.std.proofs.Common.{◌≡◌, ℕ, zero, suc, ◌+◌, ◌-◌, ◌*◌, ◌/◌, ◌%◌, ◌<◌, ◌≤◌, Bool, true, false, cond, eqb, ltb, List, [], ◌∷◌, ◌++◌, length, get_or, take, drop, Some, None, Ok, Err, Option, sym, refl, ap, ◌∙◌, add-one, arith}
use Rattle.std.proofs.lemmas.List.{length-append, length-take, length-drop, drop_more}
use Rattle.std.specs.List.{All, flat_map}
use Rattle.std.specs.Simd.{first_chunks}
use Rattle.std.proofs.lemmas.Bool.{and_parts, eqb-true, ltb-true, leb-true}
use Rattle.refusal.specs.declared.Fault.{Fault}
use Rattle.refusal.specs.declared.Refusal.TheVariants.{NotWholeBlocks, BufferTooShort}
use Rattle.refusal.specs.Writes.{fault, answered, within}
use Rattle.refusal.proofs.Writes.{answered_ok, answered_err, within_err, within_short, within_fits}
use Rattle.blocks.specs.Opening.{number_field, used_field, zeros, rightly_used, rightly_checked, rightly_formed, fault_of, or_else, fault_from, first_fault, payload_of, payloads, unless, whole_blocks, opened, unpacking}
use Rattle.blocks.proofs.Examined.{used_small}
use Rattle.blocks.proofs.Parts.{flat_map_next}

-- what was found, and why not
pub unless_ok : {X : Type 0} (o : Option Fault) (x y : X) → unless o x ≡ Ok y → (o ≡ None) × (x ≡ y)
unfolding unless
unless_ok None x y e = (refl, cc)
unless_ok (Some f) x y e = absurd cc

pub unless_err : {X : Type 0} (o : Option Fault) (x : X) (f : Fault) → unless o x ≡ Err f → o ≡ Some f
unfolding unless
unless_err None x f e = absurd cc
unless_err (Some g) x f e = cc

-- a block without fault
no_fault : (p q : Bool) (f g : Fault) → cond p (cond q None (Some f)) (Some g) ≡ None → (p ≡ true) × (q ≡ true)
no_fault true true f g e = (refl, refl)
no_fault true false f g e = absurd cc
no_fault false q f g e = absurd cc

pub fine_block : (number more : ℕ) (b : List ℕ) → fault_of number more b ≡ None → (rightly_checked b ≡ true) × (rightly_formed number more b ≡ true)
unfolding fault_of
fine_block number more b fine = no_fault (rightly_checked b) (rightly_formed number more b) _ _ fine

pub formed_parts : (number more : ℕ) (b : List ℕ) → rightly_formed number more b ≡ true →
    (number_field b ≡ number) × (rightly_used (used_field b) number more ≡ true) × (zeros (take (504 - used_field b) (drop (4 + used_field b) b)) ≡ true)
unfolding rightly_formed
formed_parts number more b h =
    let one = and_parts (eqb (number_field b) number) _ h in
    let two = and_parts (rightly_used (used_field b) number more) _ one.1 in
    (eqb-true (number_field b) number one.0, two.0, two.1)

pub formed_small : (number more : ℕ) (b : List ℕ) → rightly_formed number more b ≡ true → used_field b ≤ 504
formed_small number more b h = used_small (used_field b) number more (formed_parts number more b h).1

pub length-payload_of : (b : List ℕ) → length b ≡ 512 → used_field b ≤ 504 → length (payload_of b) ≡ used_field b
unfolding payload_of
length-payload_of b long h = simp (length-take, length-drop) (omega arith)

-- what blocks open to, where there is a fault and where there is none
pub opened_not : (bs : List ℕ) → whole_blocks (length bs) ≡ false → opened bs ≡ Err (fault NotWholeBlocks 0)
unfolding opened
opened_not bs h = rw h

pub opened_fine : (bs : List ℕ) → whole_blocks (length bs) ≡ true → fault_from (length bs / 512) 0 bs ≡ None → opened bs ≡ Ok (payloads (length bs / 512) bs)
unfolding opened unless
opened_fine bs h e = rw (h, e)

module _ (bs s : List ℕ) where
  by_whole : (w : Bool) (o : Option Fault) (t : List ℕ) (f : Fault) → cond w (unless o t) (Err f) ≡ Ok s → (w ≡ true) × (o ≡ None) × (s ≡ t)
  by_whole true o t f e = let p = unless_ok o t s e in (refl, p.0, sym p.1)
  by_whole false o t f e = absurd cc

  pub opened_ok : opened bs ≡ Ok s → (whole_blocks (length bs) ≡ true) × (fault_from (length bs / 512) 0 bs ≡ None) × (s ≡ payloads (length bs / 512) bs)
  unfolding opened
  opened_ok e = by_whole (whole_blocks (length bs)) _ _ _ e

pub whole_parts : (size : ℕ) → whole_blocks size ≡ true → (size % 512 ≡ 0) × (0 < size) × (size ≤ 65536)
unfolding whole_blocks
whole_parts size h =
    let one = and_parts (eqb (size % 512) 0) _ h in
    let two = and_parts (ltb 0 size) _ one.1 in
    (eqb-true (size % 512) 0 one.0, ltb-true 0 size two.0, leb-true size 65536 two.1)

pub or_else_none : (o p : Option Fault) → or_else o p ≡ None → (o ≡ None) × (p ≡ None)
unfolding or_else
or_else_none None p e = (refl, e)
or_else_none (Some f) p e = absurd cc

-- what blocks open to, cut into a list of blocks
pub length-chunks : (k : ℕ) (bs : List ℕ) → length (first_chunks 512 k bs) ≡ k
length-chunks zero bs = refl
length-chunks (suc k) bs = ap suc (length-chunks k (drop 512 bs))

pub fault_of_chunks : (k n : ℕ) (bs : List ℕ) → first_fault n (first_chunks 512 k bs) ≡ fault_from k n bs
unfolding first_fault fault_from
fault_of_chunks zero n bs = refl
fault_of_chunks (suc k) n bs = rw (length-chunks k (drop 512 bs), fault_of_chunks k (suc n) (drop 512 bs))

pub payloads_of_chunks : (k : ℕ) (bs : List ℕ) → flat_map payload_of (first_chunks 512 k bs) ≡ payloads k bs
unfolding payloads
payloads_of_chunks zero bs = refl
payloads_of_chunks (suc k) bs = ap (λ (x : List ℕ). payload_of (take 512 bs) ++ x) (payloads_of_chunks k (drop 512 bs))

answered_unless : (o : Option Fault) (x : List ℕ) → answered (unless o x) ≡ unless o (length x)
unfolding answered unless
answered_unless None x = refl
answered_unless (Some f) x = refl

pub opened_length : (bs : List ℕ) (blocks : List (List ℕ)) → whole_blocks (length bs) ≡ true → blocks ≡ first_chunks 512 (length bs / 512) bs →
    answered (opened bs) ≡ unless (first_fault 0 blocks) (length (flat_map payload_of blocks))
unfolding opened
opened_length bs blocks whole e =
    rw (whole, e, fault_of_chunks (length bs / 512) 0 bs, payloads_of_chunks (length bs / 512) bs) (answered_unless _ _)

-- blocks with no fault use 504 bytes at most
pub short_blocks : (n : ℕ) (bs : List (List ℕ)) → first_fault n bs ≡ None → All (λ b. used_field b ≤ 504) bs
unfolding first_fault
short_blocks n [] fine k d h = absurd (omega arith)
short_blocks n (b ∷ bs) fine zero d h = formed_small n (length bs) b (fine_block n (length bs) b (or_else_none _ _ fine).0).1
short_blocks n (b ∷ bs) fine (suc k) d h = short_blocks (suc n) bs (or_else_none _ _ fine).1 k d (omega arith)

-- the blocks before i have no fault, and so many bytes of the stream
pub record Examined (bs : List (List ℕ)) (i size : ℕ) : Type 0 where
  pub first : first_fault i (drop i bs) ≡ first_fault 0 bs
  pub sum : size ≡ length (flat_map payload_of (take i bs))
  pub small : size ≤ i * 504

-- the block b at i is examined, where so many follow it
module _ (bs : List (List ℕ)) (i size more : ℕ) (d : List ℕ) (h : i < length bs) (more_is : more ≡ length bs - 1 - i) (was : Examined bs i size) where
  abbrev b : List ℕ
  b = get_or bs i d

  first_is : first_fault 0 bs ≡ or_else (fault_of i more b) (first_fault (i + 1) (drop (i + 1) bs))
  unfolding first_fault
  first_is =
      let rest : length (drop (i + 1) bs) ≡ more = simp length-drop (omega arith) in
      sym was.first ∙ rw (drop_more bs i d h, rest, add-one i)

  pub examined_fault : (f : Fault) → unless (fault_of i more b) (used_field b) ≡ Err f → first_fault 0 bs ≡ Some f
  unfolding or_else
  examined_fault f e = first_is ∙ rw (unless_err _ _ f e)

  pub examined_more : (used : ℕ) → length b ≡ 512 → unless (fault_of i more b) (used_field b) ≡ Ok used → Examined bs (i + 1) (size + used)
  unfolding or_else
  examined_more used long e =
      let found = unless_ok _ _ used e in
      let small = formed_small i more b (fine_block i more b found.0).1 in
      record {
        first = sym (first_is ∙ rw found.0);
        sum = rw (flat_map_next payload_of bs i d h) (omega (arith, length-append (flat_map payload_of (take i bs)) (payload_of b), was.sum, length-payload_of b long small, found.1));
        small = omega (arith, was.small, small, found.1);
      }

-- what a length that was found tells
pub found_length : (bs : List ℕ) (size : ℕ) → answered (opened bs) ≡ Ok size →
    (opened bs ≡ Ok (payloads (length bs / 512) bs)) × (fault_from (length bs / 512) 0 bs ≡ None) × (length (payloads (length bs / 512) bs) ≡ size)
found_length bs size e =
    let found = answered_ok (opened bs) size e in
    let open' = opened_ok bs found.0 found.1 in
    (found.1 ∙ ap Ok open'.2, open'.1, ap length (sym open'.2) ∙ found.2)

-- what opening into a buffer comes to, by the length that was found or the fault
module _ (bs : List ℕ) (room : ℕ) where
  pub unpacking_declined : (f : Fault) → answered (opened bs) ≡ Err f → unpacking bs room ≡ Err f
  unfolding unpacking
  unpacking_declined f e = within_err room (opened bs) f (answered_err (opened bs) f e)

  pub unpacking_short : (size : ℕ) → answered (opened bs) ≡ Ok size → room < size → unpacking bs room ≡ Err (fault BufferTooShort 0)
  unfolding unpacking
  unpacking_short size e h =
      let found = found_length bs size e in
      ap (within room) found.0 ∙ within_short room (payloads (length bs / 512) bs) (omega (arith, found.2))

  pub unpacking_fits : (size : ℕ) → answered (opened bs) ≡ Ok size → size ≤ room → unpacking bs room ≡ Ok (payloads (length bs / 512) bs)
  unfolding unpacking
  unpacking_fits size e h =
      let found = found_length bs size e in
      ap (within room) found.0 ∙ within_fits room (payloads (length bs / 512) bs) (omega (arith, found.2))
