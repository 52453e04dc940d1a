use Rattle.std.proofs.Common.{refl}
use Rattle.terms.proofs.Readings.{term_written, term_fits}
use Rattle.terms.proofs.term.Term.bytes.Goals as goal

pub returns : goal.returns
returns c =
    let bytes = c.args.self.now.bytes.now in
    let whole = c.args.self.now.whole in
    record { bytes = refl; term = whole; written = term_written bytes whole; fitting = term_fits bytes whole }
