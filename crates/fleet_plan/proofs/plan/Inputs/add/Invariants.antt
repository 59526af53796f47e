use Rattle.std.proofs.Common.{◌≡◌, ◌++◌, drop, max}
use Rattle.std.specs.Prelude.{flat_map}
use Rattle.fleet_plan.specs.Anchors.{anchors_of}
use Rattle.fleet_plan.specs.Plans.{greatest_view_size, view_anchors}
use Rattle.fleet_plan.proofs.plan.Inputs.add.Given as goal

-- The anchors so far, followed by the anchors of the views left, are all anchors. The greatest size so far
-- and the one in the views left give the greatest size of all.
abbrev pub invariant-views : goal.invariant-views
invariant-views l =
    (anchors_of l.self.anchors.items ++ flat_map view_anchors (drop l.view-index l.views) ≡ anchors_of l.initial.self.anchors.items ++ flat_map view_anchors l.views)
    × (max l.self.greatest_size (greatest_view_size (drop l.view-index l.views)) ≡ max l.initial.self.greatest_size (greatest_view_size l.views))
