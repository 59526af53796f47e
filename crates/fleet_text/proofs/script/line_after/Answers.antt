use Rattle.std.proofs.Common.{◌≡◌, sym, ◌∙◌}
use Rattle.script_laws.proofs.SameLines.{same_joined}
use Rattle.fleet_text.specs.Lines.{line_of}
use Rattle.fleet_text.proofs.script.line_after.Goals as goal

pub returns-then-not-may_stand : goal.returns-then-not-may_stand
returns-then-not-may_stand c = λ line fits e.
    let read = rw c.in-Some.is at c.in_ok-line.ensures in
    let same : line ≡ line_of c.in-Some.line = same_joined line (line_of c.in-Some.line) fits.0 read.0 (sym e ∙ read.1) in
    cc (same, fits.1, c.may_stand.ensures, c.if-not-may_stand.true)
