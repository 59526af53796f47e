use Rattle.std.proofs.Common.{sym, subst, List, map}
use Rattle.fleet_model.specs.Nodes.{Tree}
use Rattle.sched_model.specs.Levels.{pick_flushes, pick_runs}
use Rattle.fleet_tree.specs.Trees.{run_node, segment_of}
use Rattle.fleet_tree.specs.declared.run.SortedRun.{SortedRun}
use Rattle.fleet_level.specs.Picks.{SamePicks}
use Rattle.fleet_level.proofs.SamePicks.{runs_same, then_same}
use Rattle.fleet_level.proofs.TreeParts.{on_ok, runs_are}
use Rattle.fleet_level.proofs.picking.Picking.pick_tree.Goals as goal

pub returns : goal.returns
returns c = λ handles flushes has.
    let o = c.args.options.now in
    let segment = c.args.segment.now in
    let own = flushes segment in
    let mid = c.pick_flushes.new.self in
    let first = pick_flushes o handles (segment_of flushes (segment, c.args.tree.now)) c.args.self.now in
    on_ok c.pick_runs.result (λ same.
    subst (λ (runs : Tree). SamePicks c.pick_runs.new.self (pick_runs o handles segment 0 runs first)) (sym (runs_are own c.args.tree.now))
    (then_same (subst (λ (runs : List SortedRun). SamePicks c.pick_runs.new.self (pick_runs o handles segment 0 (map (run_node own) runs) mid)) c.iter.ensures same)
    (runs_same o handles segment 0 (map (run_node own) c.args.tree.now.compacted) mid first (c.in_ok-pick_flushes.ensures handles flushes has))))
    (c.pick_runs.ensures handles own has)
