use Rattle.std.proofs.Common.{◌≡◌, ◌++◌, drop}
use Rattle.row_model.specs.Ranges.{Unbounded, ranges_from}
use Rattle.fleet_range.specs.Keys.{model_bound}
use Rattle.fleet_plan.specs.Boundaries.{ranges_of}
use Rattle.fleet_plan.proofs.Cuts.{RiseFrom}
use Rattle.fleet_plan.proofs.boundaries.ranges_between.Given as goal

-- The ranges so far, followed by the ranges from the start on, are all ranges. The keys left rise from the
-- start.
abbrev pub invariant-keys : goal.invariant-keys
invariant-keys l = (ranges_of l.ranges.items ++ ranges_from (model_bound l.start) (drop l.key-index l.keys) ≡ ranges_from Unbounded l.keys) × RiseFrom l.start (drop l.key-index l.keys)
