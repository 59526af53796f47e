use Rattle.std.proofs.Common.{sym, ◌∙◌, arith}
use Rattle.std.proofs.lemmas.Fmt.{decimal_injective}
use Rattle.fleet_text.proofs.word.between.Goals as goal
use Rattle.fleet_text.proofs.word.between.Goals.{then-number-least-via-then-number-least, then-number-least-via-else-number-least+then-number-greatest}

pub returns-then-number-least : goal.returns-then-number-least
returns-then-number-least c = λ x fits e.
    let high = fits.1 in
    let bound = c.ranges.greatest.fits in
    let same = decimal_injective x c.in_ok-number.number (omega (arith, high, bound)) c.in_ok-number.ensures.0 (sym e ∙ c.in_ok-number.ensures.1) in
    elim c.then-number-least.branch [
      | then-number-least-via-then-number-least w ↦ omega (arith, same, fits, w.if-number-least.true)
      | then-number-least-via-else-number-least+then-number-greatest w ↦ omega (arith, same, fits, w.if-number-greatest.true)
    ]
