use Rattle.std.proofs.Common.{◌≡◌}
use Rattle.std.specs.Prelude.{filter}
use Rattle.fleet_jobs.specs.Jobs.{is_open, jobs_of}
use Rattle.sched_model.specs.SizeTiered.{free_slots}
use Rattle.fleet_sched.proofs.planning.slots_left.Given as goal

abbrev pub invariant-jobs : goal.invariant-jobs
invariant-jobs l = free_slots l.left (jobs_of (filter is_open l.job-iterator)) ≡ free_slots l.most (jobs_of (filter is_open l.records.compactions.jobs))
