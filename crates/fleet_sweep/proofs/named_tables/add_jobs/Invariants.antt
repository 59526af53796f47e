use Rattle.std.proofs.Common.{◌≡◌, ◌++◌}
use Rattle.fleet_sweep.specs.Named.{ids_in_jobs}
use Rattle.fleet_sweep.proofs.named_tables.add_jobs.Given as goal

abbrev pub invariant-jobs : goal.invariant-jobs
invariant-jobs l = l.ids.items ++ ids_in_jobs l.job-iterator ≡ l.initial.ids.items ++ ids_in_jobs l.records.compactions.jobs
