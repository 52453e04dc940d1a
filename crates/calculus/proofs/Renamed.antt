-- Renaming a tree, and renaming it back.
use Rattle.std.proofs.Common.{◌≡◌, ℕ, suc, ◌+◌, Bool, true, false, ◌||◌, eqb, List, [], ◌∷◌, map, refl, ap, ap₂}
use Rattle.calculus.specs.Trees.{Process, terminated, output, input, choice, parallel, restriction, replication}
use Rattle.calculus.specs.Names.{rename, raise, lower, exchange, among, free}
use Rattle.calculus.proofs.Pointers.{lower-raise, raise-lower, raise_misses, exchange_twice}

-- a pointer function that another undoes at each depth is undone on lists and trees
pub map_undone : (f g : ℕ → ℕ) → ((p : ℕ) → g (f p) ≡ p) → (os : List ℕ) → map g (map f os) ≡ os
map_undone f g u [] = refl
map_undone f g u (o ∷ os) = ap₂ ◌∷◌ (u o) (map_undone f g u os)

pub rename_undone : (f g : ℕ → ℕ → ℕ) → ((d p : ℕ) → g d (f d p) ≡ p) → (d : ℕ) (t : Process) → rename g d (rename f d t) ≡ t
unfolding rename
rename_undone f g u d terminated = refl
rename_undone f g u d (output s os p) = cc (u d s, map_undone (f d) (g d) (u d) os, rename_undone f g u d p)
rename_undone f g u d (input s n p) = cc (u d s, rename_undone f g u (d + n) p)
rename_undone f g u d (choice p q) = ap₂ choice (rename_undone f g u d p) (rename_undone f g u d q)
rename_undone f g u d (parallel p q) = ap₂ parallel (rename_undone f g u d p) (rename_undone f g u d q)
rename_undone f g u d (restriction s p) = ap (restriction s) (rename_undone f g u (suc d) p)
rename_undone f g u d (replication p) = ap replication (rename_undone f g u d p)

pub lowered-raised : (d : ℕ) (t : Process) → rename lower d (rename raise d t) ≡ t
lowered-raised = rename_undone raise lower lower-raise

pub exchanged_twice : (d : ℕ) (t : Process) → rename exchange d (rename exchange d t) ≡ t
exchanged_twice = rename_undone exchange exchange exchange_twice

-- neither of two tests that do not pass together
pub neither_left : (a b : Bool) → (a || b) ≡ false → a ≡ false
neither_left true b e = e
neither_left false b e = refl

pub neither_right : (a b : Bool) → (a || b) ≡ false → b ≡ false
neither_right true false e = refl
neither_right true true e = e
neither_right false b e = e

pub neither : (a b : Bool) → a ≡ false → b ≡ false → (a || b) ≡ false
neither true b e f = e
neither false b e f = f

raised_lowered_objects : (d : ℕ) (os : List ℕ) → among d os ≡ false → map (raise d) (map (lower d) os) ≡ os
unfolding among
raised_lowered_objects d [] e = refl
raised_lowered_objects d (o ∷ os) e = ap₂ ◌∷◌ (raise-lower d o (neither_left _ _ e)) (raised_lowered_objects d os (neither_right _ _ e))

-- raising undoes lowering where the pointer that lowering drops is not free
pub raised-lowered : (d : ℕ) (t : Process) → free d t ≡ false → rename raise d (rename lower d t) ≡ t
unfolding rename free
raised-lowered d terminated e = refl
raised-lowered d (output s os p) e =
    let rest = neither_right (eqb s d) (among d os || free d p) e in
    cc (raise-lower d s (neither_left (eqb s d) (among d os || free d p) e), raised_lowered_objects d os (neither_left (among d os) (free d p) rest), raised-lowered d p (neither_right (among d os) (free d p) rest))
raised-lowered d (input s n p) e = cc (raise-lower d s (neither_left (eqb s d) (free (d + n) p) e), raised-lowered (d + n) p (neither_right (eqb s d) (free (d + n) p) e))
raised-lowered d (choice p q) e = ap₂ choice (raised-lowered d p (neither_left _ _ e)) (raised-lowered d q (neither_right _ _ e))
raised-lowered d (parallel p q) e = ap₂ parallel (raised-lowered d p (neither_left _ _ e)) (raised-lowered d q (neither_right _ _ e))
raised-lowered d (restriction s p) e = ap (restriction s) (raised-lowered (suc d) p e)
raised-lowered d (replication p) e = ap replication (raised-lowered d p e)

raised_misses_objects : (d : ℕ) (os : List ℕ) → among d (map (raise d) os) ≡ false
unfolding among
raised_misses_objects d [] = refl
raised_misses_objects d (o ∷ os) = neither _ _ (raise_misses d o) (raised_misses_objects d os)

-- a raised tree has a gap: the first pointer that was free before is not free in it
pub raised_misses : (d : ℕ) (t : Process) → free d (rename raise d t) ≡ false
unfolding rename free
raised_misses d terminated = refl
raised_misses d (output s os p) = neither _ _ (raise_misses d s) (neither _ _ (raised_misses_objects d os) (raised_misses d p))
raised_misses d (input s n p) = neither _ _ (raise_misses d s) (raised_misses (d + n) p)
raised_misses d (choice p q) = neither _ _ (raised_misses d p) (raised_misses d q)
raised_misses d (parallel p q) = neither _ _ (raised_misses d p) (raised_misses d q)
raised_misses d (restriction s p) = raised_misses (suc d) p
raised_misses d (replication p) = raised_misses d p
