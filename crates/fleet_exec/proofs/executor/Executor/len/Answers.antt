use Rattle.std.proofs.Common.{subst, ap}
use Rattle.fleet_exec.specs.Executors.{AreDistinct}
use Rattle.fleet_exec.proofs.ActiveJobs.{distinct_of}
use Rattle.fleet_exec.proofs.executor.Executor.len.Goals as goal

pub returns-clause-distinct : goal.returns-clause-distinct
returns-clause-distinct c = subst AreDistinct (ap (λ e. e.jobs) c.self.view_is) (distinct_of c.self.inside.jobs c.self.invariant.by_id)
