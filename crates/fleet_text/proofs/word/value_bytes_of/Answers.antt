use Rattle.std.proofs.Common.{length, sym, ap, ◌∙◌, arith}
use Rattle.script_laws.proofs.Hexes.{same_bytes}
use Rattle.fleet_text.proofs.word.value_bytes_of.Goals as goal

pub returns-then-len : goal.returns-then-len
returns-then-len c = λ x fits e.
    let read = rw c.in-Some.is at c.in_ok-value.ensures in
    let same = same_bytes x c.in-Some.value fits.0 read.0 (sym e ∙ read.1) in
    let len = ap length same in
    omega (arith, len, fits.1)
