use Rattle.std.proofs.Common.{◌≡◌, map, take}
use Rattle.fleet_output.specs.Jobs.{resumed_range}
use Rattle.fleet_output.proofs.job.range_jobs.Given as goal

abbrev pub invariant-parts : goal.invariant-parts
invariant-parts l = l.jobs.items ≡ map (resumed_range l.settings) (take l.part-index l.parts)
