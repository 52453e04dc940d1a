-- The definitions tried by evaluation: a stream of the byte 7, and one of 505 bytes.
use Rattle.std.proofs.Common.{◌≡◌, [], ◌∷◌, length, replicate, Ok, refl}
use Rattle.blocks.specs.Check.{sum_from, check_of}
use Rattle.blocks.specs.Sealing.{front, block, blocks_from, block_count, sheet_of}
use Rattle.blocks.specs.Opening.{opened, unless, fault_from, fault_of, or_else, payload_of, payloads, whole_blocks, rightly_formed, rightly_checked, rightly_used, zeros, check_field, used_field, number_field}

seven : check_of (front 0 (7 ∷ [])) ≡ 38
unfolding check_of sum_from front
seven = refl

two_blocks : length (sheet_of (replicate 505 9)) ≡ 1024
unfolding sheet_of blocks_from block_count block front check_of sum_from
two_blocks = refl

opens : opened (sheet_of (replicate 505 9)) ≡ Ok (replicate 505 9)
unfolding sheet_of blocks_from block_count block front check_of sum_from opened unless fault_from fault_of or_else payload_of payloads whole_blocks rightly_formed rightly_checked rightly_used zeros check_field used_field number_field
opens = refl
