use Rattle.std.proofs.Common.{◌≡◌, ◌^◌, ◌<◌, true, false, sym, rules}
use Rattle.std.proofs.lemmas.Iterator.{cases_from_any, YieldsList-from_slice}
use Rattle.terms.proofs.Rows.{any_by_cases}
use Rattle.terms.proofs.names.any_passes.Goals as goal

pub returns : goal.returns
returns g c known tests =
    let deep : c.args.depth < 2 ^ 64 = c.ranges.depth.fits in
    any_by_cases (known c.args.depth) c.any.result c.args.pointers.now (λ k. (c.type_inv.pointers k).fits)
    (cases_from_any _ _ _ (λ n. n < 256 → known c.args.depth n ≡ true) (λ n. n < 256 → known c.args.depth n ≡ false) c.any.ensures.ran (YieldsList-from_slice c.args.pointers.now (cc))
    (λ x q k small. sym (tests c.args.depth x.now true deep small (search rules))) (λ x q k. search rules))
