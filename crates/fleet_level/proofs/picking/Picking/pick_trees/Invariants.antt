use Rattle.std.proofs.Common.{List, ◌∷◌, map, take}
use Rattle.std.specs.Prelude.{[]}
use Rattle.fleet_model.specs.Handles.{Handle}
use Rattle.sched_model.specs.Levels as model
use Rattle.fleet_tree.specs.Trees.{RunFlushes, segment_of}
use Rattle.fleet_level.specs.Picks.{SamePicks}
use Rattle.fleet_level.specs.Sizes.{HasSizes}
use Rattle.fleet_level.proofs.picking.Picking.pick_trees.Given as goal

abbrev pub invariant-segments : goal.invariant-segments
invariant-segments l = (handles : List Handle) (flushes : RunFlushes) → HasSizes l.sizes handles
    → SamePicks l.self (model.pick_trees l.options handles (map (segment_of flushes) (([], l.core.tree) ∷ take l.segment-index l.segment-items)) l.fn.self)
