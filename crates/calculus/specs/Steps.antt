-- Single steps, and lists of them.
use Rattle.std.specs.Prelude.{◌≡◌, ℕ, zero, suc, true, List, [], ◌∷◌, Option}
use Rattle.calculus.specs.Trees.{Process}
use Rattle.calculus.specs.Laws.{Law, Instance}
use Rattle.calculus.specs.Reduction.{Communicates}
use Rattle.calculus.specs.Contexts.{Context, fill, place, active}

-- A law is read left to right, or right to left; then it is told what its right side has lost.
pub data Direction : Type 0 where
  forth : Direction
  back : Option ℕ → Direction

-- an instance of a law, read in a direction
pub data Lawful : Law → Direction → Process → Process → Type 0 where
  read_forth : {law : Law} {lost : Option ℕ} {p q : Process} → Instance law lost p q → Lawful law forth p q
  read_back : {law : Law} {lost : Option ℕ} {p q : Process} → Instance law lost p q → Lawful law (back lost) q p

-- what names a step: which one, and at which place
pub data Label : Type 0 where
  law_at : Law → Direction → ℕ → Label
  communication_at : ℕ → Label

-- one law in one direction at one place, or one communication at one active place
pub data Step : Label → Process → Process → Type 0 where
  law_step : {law : Law} {direction : Direction} (c : Context) {p q : Process} → Lawful law direction p q → Step (law_at law direction (place c)) (fill c p) (fill c q)
  communication_step : (c : Context) → active c ≡ true → {p q : Process} → Communicates p q → Step (communication_at (place c)) (fill c p) (fill c q)

-- each step begins where the one before ended
pub data Steps : List Label → Process → Process → Type 0 where
  no_step : {p : Process} → Steps [] p p
  one_step : {label : Label} {labels : List Label} {p q r : Process} → Step label p q → Steps labels q r → Steps (label ∷ labels) p r

-- how many of the steps are communications
unfoldable pub communications : List Label → ℕ
communications [] = zero
communications (law_at law direction at ∷ labels) = communications labels
communications (communication_at at ∷ labels) = suc (communications labels)
