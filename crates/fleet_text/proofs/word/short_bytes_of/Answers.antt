use Rattle.std.proofs.Common.{length, sym, ap, ◌∙◌, arith}
use Rattle.script_laws.proofs.Hexes.{same_bytes}
use Rattle.fleet_text.proofs.word.short_bytes_of.Goals as goal

pub returns-then-len-gt65535 : goal.returns-then-len-gt65535
returns-then-len-gt65535 c = λ x fits e.
    let read = rw c.in-Some.is at c.in_ok-bytes.ensures in
    let same = same_bytes x c.in-Some.bytes fits.0 read.0 (sym e ∙ read.1) in
    let len = ap length same in
    omega (arith, len, fits.1)
