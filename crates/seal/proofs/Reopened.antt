-- What opening blocks into a buffer of the longest stream tells of the blocks.
use Rattle.std.proofs.Common.{◌≡◌, ℕ, ◌-◌, Bool, false, List, length, take, drop, Ok, Err, Decides, Result, sym, subst, ap, ◌∙◌, arith}
use Rattle.std.specs.Result.{MatchResult}
use Rattle.std.proofs.lemmas.List.{take_at}
use Rattle.refusal.specs.declared.Fault.{Fault}
use Rattle.refusal.specs.Writes.{answered, left, within}
use Rattle.refusal.proofs.Writes.{answered_ok, answered_err, left_written, within_ok, within_fits}
use Rattle.blocks.specs.Laws.{SealedOnly, OpensAgain}
use Rattle.blocks.specs.Opening.{opened, unpacking}
use Rattle.blocks.specs.Sealing.{sheet_of, packing}
use Rattle.blocks.proofs.Packed.{packing_ok}

-- a buffer that was written begins with what was written
begins : (o : Result (List ℕ) Fault) (bytes held out : List ℕ) (n : ℕ) → o ≡ Ok bytes → length bytes ≡ n → out ≡ left o held → take (n - 0) out ≡ bytes
begins o bytes held out n is long e =
    ap (take (n - 0)) (e ∙ left_written o bytes is held) ∙ take_at bytes (drop (length bytes) held) (n - 0) (omega arith)

same_bytes : {s : List ℕ} (t : List ℕ) → ◌≡◌ {A = Result (List ℕ) Fault} (Ok t) (Ok s) → t ≡ s
same_bytes t e = cc

module _ (bs s : List ℕ) (sealed : SealedOnly bs) where
  pub opens_decided : (n : ℕ) (held out : List ℕ) (r : Bool) → answered (unpacking bs 64512) ≡ Ok n → out ≡ left (unpacking bs 64512) held →
      Decides r (take (n - 0) out ≡ s) → Decides r (opened bs ≡ Ok s)
  unfolding unpacking
  opens_decided n held out r answer buffer same =
      let found = answered_ok (unpacking bs 64512) n answer in
      let open' = (within_ok 64512 (opened bs) found.0 found.1).0 in
      let start = begins (unpacking bs 64512) found.0 held out n found.1 found.2 buffer in
      (λ t. open' ∙ ap Ok (sym start ∙ same.0 t), λ e. same.1 (start ∙ same_bytes found.0 (sym open' ∙ e)))

  pub opens_not : (f : Fault) → answered (unpacking bs 64512) ≡ Err f → Decides false (opened bs ≡ Ok s)
  unfolding unpacking
  opens_not f answer = (
    λ t. absurd cc,
    λ e.
        let fits : unpacking bs 64512 ≡ Ok s = ap (λ (o : Result (List ℕ) Fault). within 64512 o) e ∙ within_fits 64512 s (sealed s e).1 in
        let declined = answered_err (unpacking bs 64512) f answer in
        absurd cc,
  )

-- blocks open to a stream where they open, and the bytes that come of it are those of the stream
pub opens_is : (bs s held out : List ℕ) (r : Result ℕ Fault) (b : Bool) → SealedOnly bs → r ≡ answered (unpacking bs 64512) → out ≡ left (unpacking bs 64512) held →
    MatchResult r (λ n. Decides b (take (n - 0) out ≡ s)) (λ _. b ≡ false) → Decides b (opened bs ≡ Ok s)
opens_is bs s held out (Ok n) b sealed answer buffer same = opens_decided bs s sealed n held out b (sym answer) buffer same
opens_is bs s held out (Err f) b sealed answer buffer not_so = subst (λ (t : Bool). Decides t (opened bs ≡ Ok s)) (sym not_so) (opens_not bs s sealed f (sym answer))

-- the blocks of a stream that was packed open to it
pub packed_opens : (s held out : List ℕ) (room size : ℕ) → answered (packing s room) ≡ Ok size → out ≡ left (packing s room) held → OpensAgain s →
    opened (take (size - 0) out) ≡ Ok s
packed_opens s held out room size answer buffer opens =
    let packed = packing_ok s room size answer in
    ap opened (begins (packing s room) (sheet_of s) held out size packed.0 packed.1 buffer) ∙ opens packed.2
