use Rattle.std.proofs.Common.{refl}
use Rattle.fleet_book.specs.States.{own_jobs}
use Rattle.fleet_poll.proofs.Records.{none_freed, freed_more}
use Rattle.fleet_poll.proofs.Changed.{same_again}
use Rattle.fleet_poll.proofs.freeing.free_jobs.Goals as goal

pub jobs-init : goal.jobs-init
jobs-init c = (none_freed (own_jobs c.args.state.now), record { manifest = refl; version = refl; epoch = refl })

pub jobs-preserved : goal.jobs-preserved
jobs-preserved c = (
  freed_more c.args.jobs.now c.jobs.job-index c.job-item.result _ _ _ c.jobs-test.true c.job-item.is c.jobs.invariant.0 c.in_ok-free_job.ensures.jobs,
  same_again _ _ _ c.jobs.invariant.1 c.in_ok-free_job.ensures.same,
)
