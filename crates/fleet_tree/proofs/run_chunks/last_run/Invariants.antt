use Rattle.std.proofs.Common.{◌≡◌, length}
use Rattle.fleet_tree.specs.Lists.{joined}
use Rattle.fleet_tree.proofs.run_chunks.last_run.Given as goal

-- The chunks behind those left are empty.
abbrev pub invariant-chunks : goal.invariant-chunks
invariant-chunks l = joined l.rest ≡ joined l.chunks

abbrev pub decreases-chunks : goal.decreases-chunks
decreases-chunks l = length l.rest
