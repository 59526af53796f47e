use Rattle.std.proofs.Common.{sym, subst}
use Rattle.fleet_book.specs.Records.{AreRising}
use Rattle.fleet_book.proofs.Records.{rising_put}
use Rattle.fleet_book.proofs.job_map.JobMap.insert.Goals as goal

pub invariant_of-self-2 : goal.invariant_of-self-2
invariant_of-self-2 c = subst AreRising (sym c.in_ok-put.ensures.ok) (rising_put _ c.self.inside.jobs c.self.invariant)
