use Rattle.std.proofs.Common.{◌≡◌, ◌≤◌, take}
use Rattle.std.specs.Prelude.{count_by}
use Rattle.fleet_jobs.specs.Texts.{has_output}
use Rattle.fleet_jobs.proofs.compaction.with_output.Given as goal

abbrev pub invariant-counted : goal.invariant-counted
invariant-counted l = (l.count ≡ count_by has_output (take l.range-index l.ranges)) × (l.count ≤ l.range-index)
