use Rattle.std.proofs.Common.{◌≡◌, map, take}
use Rattle.std.specs.Prelude.{None, fold}
use Rattle.fleet_model.specs.Sources.{run_ids}
use Rattle.fleet_jobs.specs.Sources.{name_of}
use Rattle.fleet_model.specs.Work.Scheduler.{lower}
use Rattle.fleet_jobs.proofs.places.lowest_run.Given as goal

abbrev pub invariant-sources : goal.invariant-sources
invariant-sources l = l.lowest ≡ fold lower None (run_ids (map name_of (take l.source-index l.sources)))
