use Rattle.std.proofs.Common.{◌≡◌, drop}
use Rattle.sched_model.specs.Series.{first_series}
use Rattle.fleet_sched.proofs.series.first_series.Given as goal

abbrev pub invariant-starts : goal.invariant-starts
invariant-starts l = first_series l.options l.used l.runs ≡ first_series l.options l.used (drop l.start l.runs)
