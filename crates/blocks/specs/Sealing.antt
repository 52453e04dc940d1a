-- Which blocks a stream has.
use Rattle.std.specs.Prelude.{ℕ, zero, suc, ◌-◌, ◌/◌, ◌%◌, cond, List, [], ◌∷◌, ◌++◌, length, take, drop, replicate, Ok, Err, Result, nat_lt}
use Rattle.refusal.specs.declared.Fault.{Fault}
use Rattle.refusal.specs.declared.Refusal.TheVariants.{StreamTooLong}
use Rattle.refusal.specs.Writes.{fault, within}
use Rattle.blocks.specs.Check.{check_of}

-- a number in two bytes and in four, low byte first
abbrev pub two : ℕ → List ℕ
two n = n % 256 ∷ n / 256 % 256 ∷ []

abbrev pub four : ℕ → List ℕ
four n = n % 256 ∷ n / 256 % 256 ∷ n / 65536 % 256 ∷ n / 16777216 % 256 ∷ []

-- the first 508 bytes of a block: number, used length, payload, filling
unfoldable pub front : ℕ → List ℕ → List ℕ
front number payload = two number ++ (two (length payload) ++ (payload ++ replicate (504 - length payload) 0))

-- a block: those, and their check
unfoldable pub block : ℕ → List ℕ → List ℕ
block number payload = front number payload ++ four (check_of (front number payload))

-- so many blocks, with their numbers from the given one, each with the next 504 bytes of the stream or what is left
unfoldable pub blocks_from : ℕ → ℕ → List ℕ → List ℕ
blocks_from zero number stream = []
blocks_from (suc more) number stream = block number (take 504 stream) ++ blocks_from more (suc number) (drop 504 stream)

-- how many blocks a stream has: one even where it is empty
unfoldable pub block_count : List ℕ → ℕ
block_count stream = suc ((length stream - 1) / 504)

-- the blocks of a stream
unfoldable pub sheet_of : List ℕ → List ℕ
sheet_of stream = blocks_from (block_count stream) 0 stream

-- packing a stream into a buffer of that room
unfoldable pub packing : List ℕ → ℕ → Result (List ℕ) Fault
packing stream room = cond (nat_lt 64512 (length stream)) (Err (fault StreamTooLong 0)) (within room (Ok (sheet_of stream)))
