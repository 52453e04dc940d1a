-- Sealing and opening undo each other.
use Rattle.std.specs.Prelude.{◌≡◌, ℕ, ◌≤◌, List, length, Ok}
use Rattle.blocks.specs.Sealing.{sheet_of}
use Rattle.blocks.specs.Opening.{opened}

-- the blocks of a stream open to the stream
abbrev pub OpensAgain : List ℕ → Type 0
OpensAgain stream = length stream ≤ 64512 → opened (sheet_of stream) ≡ Ok stream

-- what opens to a stream is, byte for byte, the blocks of that stream
abbrev pub SealedOnly : List ℕ → Type 0
SealedOnly blocks = (stream : List ℕ) → opened blocks ≡ Ok stream → (sheet_of stream ≡ blocks) × (length stream ≤ 64512)
