use Rattle.std.proofs.Common.{sym, ◌∙◌, arith}
use Rattle.std.proofs.lemmas.Fmt.{decimal_injective}
use Rattle.fleet_text.proofs.word.count_of.Goals as goal

pub returns-then-count-eq0 : goal.returns-then-count-eq0
returns-then-count-eq0 c = λ x fits e.
    let small = c.in_ok-count.ensures.0 in
    let same = decimal_injective x c.in_ok-count.count (omega (arith, fits)) (omega (arith, small)) (sym e ∙ c.in_ok-count.ensures.1) in
    omega (arith, same, fits)
