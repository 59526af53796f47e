use Rattle.std.proofs.Common.{take}
use Rattle.fleet_claim.specs.Beginnings.{AreStarts}
use Rattle.fleet_claim.proofs.beginning.begin_all.Given as goal

abbrev pub invariant-jobs : goal.invariant-jobs
invariant-jobs l = AreStarts l.release l.options l.moment l.fn.manifest (take l.job-index l.jobs) l.starts
