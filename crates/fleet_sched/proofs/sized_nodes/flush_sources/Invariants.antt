use Rattle.std.proofs.Common.{◌≡◌, map, take}
use Rattle.fleet_jobs.specs.Sources.{name_of}
use Rattle.sched_model.specs.Sizes.{flush_names}
use Rattle.fleet_sched.proofs.sized_nodes.flush_sources.Given as goal

abbrev pub invariant-flushes : goal.invariant-flushes
invariant-flushes l = map name_of l.sources.items ≡ flush_names (take l.flush-index l.flushes)
