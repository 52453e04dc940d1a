-- Terms that fit, and the first byte that cannot stand in bytes that are no term: said of what trees are written as.
use Rattle.std.specs.Prelude.{◌≡◌, ℕ, ◌<◌, ◌≤◌, Bool, true, ◌&&◌, List, [], ◌∷◌, ◌++◌, length, take, nat_le}
use Rattle.calculus.specs.Trees.{Process, terminated, output, input, choice, parallel, restriction, replication, write}

-- every output and every input has a count of at most 8
unfoldable pub counts_fit : Process → Bool
counts_fit terminated = true
counts_fit (output subject objects p) = nat_le (length objects) 8 && counts_fit p
counts_fit (input subject count p) = nat_le count 8 && counts_fit p
counts_fit (choice p q) = counts_fit p && counts_fit q
counts_fit (parallel p q) = counts_fit p && counts_fit q
counts_fit (restriction sort p) = counts_fit p
counts_fit (replication p) = counts_fit p

-- every number is at most 255
unfoldable pub are_bytes : List ℕ → Bool
are_bytes [] = true
are_bytes (n ∷ ns) = nat_le n 255 && are_bytes ns

-- counts, pointers and sorts are in range: bytes can write the process
unfoldable pub in_range : Process → Bool
in_range p = counts_fit p && are_bytes (write p)

-- and it takes at most 4,096 of them
unfoldable pub fits : Process → Bool
fits p = in_range p && nat_le (length (write p)) 4096

-- one whole term, of any length
abbrev pub Whole : List ℕ → Type 0
Whole bytes = (p : Process) × (write p ≡ bytes) × (in_range p ≡ true)

-- one whole term that fits
abbrev pub Fits : List ℕ → Type 0
Fits bytes = (p : Process) × (write p ≡ bytes) × (fits p ≡ true)

-- some whole term begins so
abbrev pub Begins : List ℕ → Type 0
Begins start = (rest : List ℕ) × Whole (start ++ rest)

-- the place of the first byte that cannot stand, or the end where bytes lack: how long the longest start is that goes on
-- to some whole term
abbrev pub LongestStart : List ℕ → ℕ → Type 0
LongestStart bytes place =
    (place ≤ length bytes) × Begins (take place bytes) × ((longer : ℕ) → place < longer → longer ≤ length bytes → Begins (take longer bytes) → ⊥)
