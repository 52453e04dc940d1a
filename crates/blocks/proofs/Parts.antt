-- Parts of lists.
use Rattle.std.proofs.Common.{◌≤◌, ◌⊎◌, inl, inr, ◌≡◌, ℕ, ◌+◌, ◌<◌, min, List, [], ◌∷◌, ◌++◌, length, get_or, take, drop, sym, ap, ◌∙◌, append_assoc, arith}
use borrow.Rule.Slice.PartMut.{put_mid}
use Rattle.std.proofs.lemmas.List.{length-append, append-nil, take_min, drop_min, take_at, drop_at, drop-drop, take_more, length-take, get_or-take, get_or-drop, get_or_past}
use Rattle.std.proofs.lemmas.Bool.{cases_lt}
use Rattle.std.proofs.lemmas.Grind.{flat_map-append}
use Rattle.std.specs.List.{flat_map}

-- the first n bytes, or all where there are fewer, and what follows them
pub take_to : (xs : List ℕ) (e n : ℕ) → e ≡ min (length xs) n → take e xs ≡ take n xs
take_to xs e n p = ap (λ (k : ℕ). take k xs) (omega arith) ∙ take_min n xs

pub drop_to : (xs : List ℕ) (e n : ℕ) → e ≡ min (length xs) n → drop e xs ≡ drop n xs
drop_to xs e n p = ap (λ (k : ℕ). drop k xs) (omega arith) ∙ drop_min n xs

-- a buffer begins with the bytes that it holds, and goes on as it was from their end on
pub record Holds (held o o₀ : List ℕ) (end : ℕ) : Type 0 where
  pub bytes : o ≡ held ++ drop end o₀
  pub long : length held ≡ end

-- bytes are written after those that are there
pub holds_more : (held o o₀ w : List ℕ) (end k next : ℕ) → Holds held o o₀ end → length w ≡ k → end + k ≡ next → Holds (held ++ w) (put_mid end k o w) o₀ next
holds_more held o o₀ w end k next was w_long e = record {
  bytes = rw (was.bytes, take_at held (drop end o₀) end was.long, drop_at held (drop end o₀) end was.long, drop-drop k end o₀, e) (sym (append_assoc held w (drop next o₀)));
  long = omega (arith, length-append held w, was.long);
}

-- the bytes of one element more
pub flat_map_next : {X : Type 0} (f : X → List ℕ) (xs : List X) (i : ℕ) (d : X) → i < length xs → flat_map f (take (i + 1) xs) ≡ flat_map f (take i xs) ++ f (get_or xs i d)
flat_map_next f xs i d h = ap (flat_map f) (take_more xs i d h) ∙ flat_map-append f (take i xs) (get_or xs i d ∷ []) ∙ ap (λ (y : List ℕ). flat_map f (take i xs) ++ y) (append-nil (f (get_or xs i d)))

-- a list of bytes
abbrev pub Bytes : List ℕ → Type 0
Bytes bs = (i : ℕ) → get_or bs i 0 < 256

pub bytes_take : (k : ℕ) (bs : List ℕ) → Bytes bs → Bytes (take k bs)
bytes_take k bs bytes i = by_place (cases_lt i k)
  where
    by_place : (i < k) ⊎ (k ≤ i) → get_or (take k bs) i 0 < 256
    by_place (inl within) = omega (arith, get_or-take k bs i 0 within, bytes i)
    by_place (inr past) = omega (arith, get_or_past (take k bs) i 0 (omega (arith, length-take k bs)))

pub bytes_drop : (k : ℕ) (bs : List ℕ) → Bytes bs → Bytes (drop k bs)
bytes_drop k bs bytes i = omega (arith, get_or-drop k bs i 0, bytes (k + i))
