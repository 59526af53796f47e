use Rattle.std.proofs.Common.{sym, ap, subst, List, map, arith}
use Rattle.sched_model.specs.Levels.{LevelOptions, pick_flushes_into}
use Rattle.fleet_tree.specs.Trees.{run_node}
use Rattle.fleet_tree.specs.declared.run.SortedRun.{SortedRun}
use Rattle.fleet_jobs.specs.Sources.{name_of}
use Rattle.fleet_level.specs.Picks.{SamePicks}
use Rattle.fleet_level.proofs.Picked.{into_fresh, into_newest}
use Rattle.fleet_level.proofs.TreeParts.{on_ok}
use Rattle.fleet_level.proofs.picking.Picking.pick_flushes_into.Goals as goal

pub returns-then-run_size-options : goal.returns-then-run_size-options
returns-then-run_size-options c = λ handles flushes has.
    let names = map name_of c.args.flushes.items in
    on_ok c.pick_into_run.result (λ same.
    subst (λ (runs : List SortedRun). SamePicks c.pick_into_run.new.self (pick_flushes_into c.args.options.now handles c.args.segment.now names (map (run_node flushes) runs) c.args.self.now)) (sym c.in-Some.ensures.steps)
    (into_newest c.args.options.now handles c.args.segment.now names (run_node flushes c.in-Some.run'.now) (map (run_node flushes) c.next.new.self) c.run_size.result c.args.self.now c.pick_into_run.new.self
    (c.run_size.ensures handles flushes has) (omega (arith, c.if-run_size-options.true, ap (λ (o : LevelOptions). o.base) c.options.view_is)) same))
    c.pick_into_run.ensures

pub returns-else-run_size-options : goal.returns-else-run_size-options
returns-else-run_size-options c = λ handles flushes has.
    let names = map name_of c.args.flushes.items in
    on_ok c.add_fresh-else-run_size-options.result (λ same.
    subst (λ (runs : List SortedRun). SamePicks c.add_fresh-else-run_size-options.new.self (pick_flushes_into c.args.options.now handles c.args.segment.now names (map (run_node flushes) runs) c.args.self.now)) (sym c.in-Some.ensures.steps)
    (into_fresh c.args.options.now handles c.args.segment.now names (run_node flushes c.in-Some.run'.now) (map (run_node flushes) c.next.new.self) c.run_size.result c.args.self.now c.add_fresh-else-run_size-options.new.self
    (c.run_size.ensures handles flushes has) (omega (arith, c.if-run_size-options.false, ap (λ (o : LevelOptions). o.base) c.options.view_is)) same))
    c.add_fresh-else-run_size-options.ensures
