use Rattle.std.proofs.Common.{◌≡◌, Err, refl, ap, ◌∙◌, arith}
use Rattle.std.proofs.lemmas.Result.{err_from_is_err_and}
use Rattle.refusal.specs.declared.Fault.{Fault}
use Rattle.terms.proofs.Numbers.{typed_bytes}
use Rattle.terms.proofs.Examined.{ok_term, err_reading, read_fits, read_short, read_tree, declined_as, declined_term, declined_unfit, declined_fits, declined_long, declined_refused}
use Rattle.terms.proofs.reading.read.Goals as goal

pub returns-in_err-examine : goal.returns-in_err-examine
returns-in_err-examine c =
    let ns = c.args.bytes.now in
    let bytes = typed_bytes ns (λ i. omega (arith, c.type_inv.bytes i)) in
    let f = c.in_err-examine.field-0.0 in
    let is = err_reading ns f c.in_err-examine.ensures in
    let exit = err_from_is_err_and c.from_residual.result c.from_residual.ensures.1 in
    let told : c.from_residual.result ≡ Err f = exit.1 ∙ ap (λ (g : Fault). Err g) exit.2 in
    record {
      answer = declined_as ns f is c.from_residual.result told;
      term = declined_term ns f is c.from_residual.result told;
      fits = (declined_fits ns f is c.from_residual.result told, declined_unfit ns f is c.from_residual.result told);
      long = declined_long ns f is c.from_residual.result told;
      refused = declined_refused ns f is c.from_residual.result told bytes;
    }

pub known-requires : goal.known-requires
known-requires c = ok_term c.args.bytes.now c.in_ok-examine.ensures

pub returns : goal.returns
returns c =
    let ns = c.args.bytes.now in
    let term = ok_term ns c.in_ok-examine.ensures in
    record {
      answer = read_tree ns term c.known.result c.known.ensures;
      term = c.known.ensures;
      fits = (λ _. read_fits ns term, λ _. refl);
      long = λ h. absurd (read_short ns term h);
      refused = λ short unfit. absurd (unfit (read_fits ns term));
    }
