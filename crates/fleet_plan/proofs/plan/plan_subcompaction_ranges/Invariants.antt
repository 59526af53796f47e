use Rattle.std.specs.Prelude.{flat_map}
use Rattle.std.proofs.Common.{drop}
use Rattle.fleet_plan.specs.Anchors.{anchors_of}
use Rattle.fleet_plan.specs.Plans.{greatest_view_size, view_anchors, views_of}
use Rattle.fleet_plan.proofs.Inputs.{Known}
use Rattle.fleet_plan.proofs.plan.plan_subcompaction_ranges.Given as goal

abbrev pub invariant-runs : goal.invariant-runs
invariant-runs l = Known (flat_map view_anchors (views_of l.l0 l.runs)) (greatest_view_size (views_of l.l0 l.runs)) (anchors_of l.inputs.anchors.items) l.inputs.greatest_size (drop l.run-index l.runs)
