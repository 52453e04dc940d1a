-- Which stream blocks hold, and the first fault for which they are declined.
use Rattle.std.specs.Prelude.{ℕ, zero, suc, ◌+◌, ◌-◌, ◌*◌, ◌/◌, ◌%◌, Bool, true, cond, ◌&&◌, ◌||◌, List, [], ◌∷◌, ◌++◌, length, take, drop, Some, None, Ok, Err, Option, Result, ◌==◌, nat_le, nat_lt, slice_index}
use Rattle.refusal.specs.declared.Fault.{Fault}
use Rattle.refusal.specs.declared.Refusal.TheVariants.{NotWholeBlocks, CheckDiffers, BlockMalformed}
use Rattle.refusal.specs.Writes.{fault, within}
use Rattle.blocks.specs.Check.{check_of}

-- the three numbers of a block that its bytes give
unfoldable pub number_field : List ℕ → ℕ
number_field b = slice_index b 0 + slice_index b 1 * 256

unfoldable pub used_field : List ℕ → ℕ
used_field b = slice_index b 2 + slice_index b 3 * 256

unfoldable pub check_field : List ℕ → ℕ
check_field b = slice_index b 508 + slice_index b 509 * 256 + slice_index b 510 * 65536 + slice_index b 511 * 16777216

unfoldable pub zeros : List ℕ → Bool
zeros [] = true
zeros (x ∷ xs) = x == 0 && zeros xs

-- a block that others follow uses 504; the last uses 1 to 504, and 0 only where it is the first too
unfoldable pub rightly_used : ℕ → ℕ → ℕ → Bool
rightly_used used number more = cond (nat_lt 0 more) (used == 504) (nat_le used 504 && (nat_lt 0 used || number == 0))

-- the check that a block holds is that of its first 508 bytes
unfoldable pub rightly_checked : List ℕ → Bool
rightly_checked b = check_field b == check_of (take 508 b)

-- its number, used length and filling are right, where so many more blocks follow
unfoldable pub rightly_formed : ℕ → ℕ → List ℕ → Bool
rightly_formed number more b = number_field b == number && (rightly_used (used_field b) number more && zeros (take (504 - used_field b) (drop (4 + used_field b) b)))

-- the fault of one block, which is to stand under that number with so many more behind it
unfoldable pub fault_of : ℕ → ℕ → List ℕ → Option Fault
fault_of number more b = cond (rightly_checked b) (cond (rightly_formed number more b) None (Some (fault BlockMalformed number))) (Some (fault CheckDiffers number))

unfoldable pub or_else : Option Fault → Option Fault → Option Fault
or_else (Some f) later = Some f
or_else None later = later

-- the first fault of so many blocks, with their numbers from the given one
unfoldable pub fault_from : ℕ → ℕ → List ℕ → Option Fault
fault_from zero number blocks = None
fault_from (suc more) number blocks = or_else (fault_of number more (take 512 blocks)) (fault_from more (suc number) (drop 512 blocks))

unfoldable pub payload_of : List ℕ → List ℕ
payload_of b = take (used_field b) (drop 4 b)

-- the payloads of so many blocks, one after another
unfoldable pub payloads : ℕ → List ℕ → List ℕ
payloads zero blocks = []
payloads (suc more) blocks = payload_of (take 512 blocks) ++ payloads more (drop 512 blocks)

-- the first fault of blocks that are given one by one, with their numbers from the given one
unfoldable pub first_fault : ℕ → List (List ℕ) → Option Fault
first_fault number [] = None
first_fault number (b ∷ bs) = or_else (fault_of number (length bs) b) (first_fault (suc number) bs)

-- what is found, unless there is a fault
unfoldable pub unless : {X : Type 0} → Option Fault → X → Result X Fault
unless None found = Ok found
unless (Some f) found = Err f

-- 1 to 128 whole blocks
unfoldable pub whole_blocks : ℕ → Bool
whole_blocks size = size % 512 == 0 && (nat_lt 0 size && nat_le size 65536)

-- the stream that blocks hold
unfoldable pub opened : List ℕ → Result (List ℕ) Fault
opened blocks =
    cond (whole_blocks (length blocks)) (unless (fault_from (length blocks / 512) 0 blocks) (payloads (length blocks / 512) blocks)) (Err (fault NotWholeBlocks 0))

-- opening blocks into a buffer of that room
unfoldable pub unpacking : List ℕ → ℕ → Result (List ℕ) Fault
unpacking blocks room = within room (opened blocks)
