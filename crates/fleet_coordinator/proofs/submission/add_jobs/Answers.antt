use Rattle.fleet_coordinator.proofs.NewJobs.{add_next}
use Rattle.fleet_coordinator.proofs.submission.add_jobs.Goals as goal

pub jobs-preserved : goal.jobs-preserved
jobs-preserved c =
    add_next c.args.records.now c.jobs.records c.add_job.new.records c.args.named.now c.jobs.new-index c.new-item.result c.jobs-test.true c.new-item.is c.jobs.invariant c.in_ok-add_job.ensures.ok c.in_ok-add_job.ensures.model
