use Rattle.std.proofs.Common.{◌≡◌, ◌≤◌, max}
use Rattle.std.specs.Prelude.{filter}
use Rattle.sched_model.specs.FreshRuns.{above_all, capped_id}
use Rattle.fleet_jobs.specs.Jobs.{is_open}
use Rattle.fleet_sched.specs.Ids.{destinations_in}
use Rattle.fleet_sched.proofs.planning.above_destinations.Given as goal

abbrev pub invariant-jobs : goal.invariant-jobs
invariant-jobs l =
    (l.next ≤ 4294967295)
    × (capped_id (max l.next (above_all (destinations_in (filter is_open l.job-iterator)))) ≡ capped_id (max l.above (above_all (destinations_in (filter is_open l.records.compactions.jobs)))))
