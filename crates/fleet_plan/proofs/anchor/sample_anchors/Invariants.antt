use Rattle.std.proofs.Common.{length}
use Rattle.row_model.specs.Written.Plan.{sample_anchors}
use Rattle.row_model.specs.Ranges.{is_in_range}
use Rattle.fleet_range.specs.Keys.{range_of}
use Rattle.fleet_tree.specs.Handles.{blocks_of}
use Rattle.fleet_plan.specs.Anchors.{anchors_of}
use Rattle.fleet_plan.proofs.Strides.{SoFar}
use Rattle.fleet_plan.proofs.anchor.sample_anchors.Given as goal

abbrev pub invariant-groups : goal.invariant-groups
invariant-groups l =
    SoFar (is_in_range (range_of l.effective_range)) l.stride l.data_end_offset l.blocks (sample_anchors (blocks_of l.blocks) l.data_end_offset l.max_anchors (range_of l.effective_range)) (anchors_of l.anchors.items) l.rest

abbrev pub decreases-groups : goal.decreases-groups
decreases-groups l = length l.rest
