use Rattle.std.specs.Prelude.{[]}
use Rattle.fleet_sched.proofs.Ids.{above_segment}
use Rattle.fleet_sched.proofs.planning.above_runs.Goals as goal

pub segments-preserved : goal.segments-preserved
segments-preserved c =
    above_segment ([], c.args.core.now.tree) c.segments.above c.above_tree-above-in-segments.result c.as_slice-segment-items.result.now c.segments.segment-index
    c.segment-item.result c.segments-test.true c.segment-item.is c.segments.invariant c.above_tree-above-in-segments.ensures
