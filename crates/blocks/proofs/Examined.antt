-- One block examined: what its used length may be, and when it has no fault.
use Rattle.std.proofs.Common.{◌≡◌, ℕ, ◌≤◌, true, List, None, arith}
use Rattle.std.proofs.lemmas.Bool.Decides.{nat_tests}
use Rattle.blocks.specs.Opening.{rightly_used, rightly_checked, rightly_formed, fault_of}

pub used_small : (used number more : ℕ) → rightly_used used number more ≡ true → used ≤ 504
unfolding rightly_used
used_small used number more h = grind (arith, nat_tests)

pub fault_none : (number more : ℕ) (b : List ℕ) → rightly_checked b ≡ true → rightly_formed number more b ≡ true → fault_of number more b ≡ None
unfolding fault_of
fault_none number more b h k = rw (h, k)
