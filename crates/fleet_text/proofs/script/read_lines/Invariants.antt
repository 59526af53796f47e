use Rattle.std.proofs.Common.{length}
use Rattle.fleet_text.proofs.Lines.{ReadsLines}
use Rattle.fleet_text.proofs.script.read_lines.Given as goal

abbrev pub invariant-lines : goal.invariant-lines
invariant-lines l = ReadsLines l.text l.lines.items l.rest

abbrev pub decreases-lines : goal.decreases-lines
decreases-lines l = length l.rest
