use borrow.Author.Tests.{tests}
use Rattle.std.proofs.Common.{◌≡◌, ℕ, eqb, List, [], ◌∷◌, sym, refl, ◌∙◌, rules}
use Rattle.std.proofs.lemmas.Iterator.{YieldsList-from_slice}
use Rattle.std.proofs.lemmas.Iterator.Search.{all_from_yields_List}
use Rattle.std.specs.List.{list_all}
use Rattle.blocks.specs.Opening.{zeros}
use Rattle.blocks.proofs.block.all_zero.Goals as goal

zeros_is : (xs : List ℕ) → zeros xs ≡ list_all (λ x. eqb x 0) xs
unfolding zeros
zeros_is [] = refl
zeros_is (x ∷ xs) = rw (zeros_is xs)

pub returns : goal.returns
returns c =
    all_from_yields_List (λ (x : ℕ). eqb x 0) _ _ _ c.all.ensures.ran (YieldsList-from_slice c.args.bytes.now cc) (λ x b q k. search (rules, tests))
    ∙ sym (zeros_is c.args.bytes.now)
