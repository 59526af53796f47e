use Rattle.std.proofs.Common.{◌≡◌, length, sym, ap, ◌∙◌, arith}
use Rattle.script_laws.proofs.Hexes.{same_bytes}
use Rattle.fleet_text.proofs.word.key_of.Goals as goal
use Rattle.fleet_text.proofs.word.key_of.Goals.{then-is_empty-via-then-is_empty, then-is_empty-via-else-is_empty+then-len-gt65535}

pub returns-then-is_empty : goal.returns-then-is_empty
returns-then-is_empty c = λ x fits e.
    let read = rw c.in-Some.is at c.in_ok-key.ensures in
    let same = same_bytes x c.in-Some.key fits.0 read.0 (sym e ∙ read.1) in
    let len = ap length same in
    elim c.then-is_empty.branch [
      | then-is_empty-via-then-is_empty w ↦ let none : length c.in-Some.key ≡ 0 = grind arith in omega (arith, len, none, fits.1)
      | then-is_empty-via-else-is_empty+then-len-gt65535 w ↦ omega (arith, len, fits.2)
    ]
