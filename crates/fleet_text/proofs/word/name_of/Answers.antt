use Rattle.std.proofs.Common.{sym, ◌∙◌, arith}
use Rattle.std.proofs.lemmas.Fmt.{decimal_injective}
use Rattle.fleet_text.proofs.word.name_of.Goals as goal

pub returns-then-name-eq0 : goal.returns-then-name-eq0
returns-then-name-eq0 c = λ x fits e.
    let same = decimal_injective x c.in_ok-name.name (omega (arith, fits)) c.in_ok-name.ensures.0 (sym e ∙ c.in_ok-name.ensures.1) in
    omega (arith, same, fits)
