use Rattle.std.proofs.Common.{sym, ◌∙◌, arith}
use Rattle.fleet_jobs.proofs.Moved.{short_disjoint}
use Rattle.fleet_jobs.proofs.moves.are_disjoint.Goals as goal

pub returns-clause-disjoint : goal.returns-clause-disjoint
returns-clause-disjoint c = sym (short_disjoint c.rest.rest.now (omega arith)) ∙ c.rest.invariant
