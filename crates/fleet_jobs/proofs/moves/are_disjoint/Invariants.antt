use Rattle.std.proofs.Common.{◌≡◌, length}
use Rattle.fleet_jobs.specs.Moves.{are_disjoint}
use Rattle.fleet_jobs.proofs.moves.are_disjoint.Given as goal

abbrev pub invariant-rest : goal.invariant-rest
invariant-rest l = are_disjoint l.rest ≡ are_disjoint l.tables

abbrev pub decreases-rest : goal.decreases-rest
decreases-rest l = length l.rest
