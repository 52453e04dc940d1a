-- The check of a block.
use Rattle.std.specs.Prelude.{ℕ, suc, ◌+◌, ◌*◌, ◌%◌, List, [], ◌∷◌}

-- the sum of the bytes, each times its weight, where weights rise by one from the first's
unfoldable pub sum_from : ℕ → List ℕ → ℕ
sum_from weight [] = 0
sum_from weight (b ∷ bs) = weight * b + sum_from (suc weight) bs

-- the sum of (i + 1) × byte i, modulo 65521
unfoldable pub check_of : List ℕ → ℕ
check_of bytes = sum_from 1 bytes % 65521
