use Rattle.std.proofs.Common.{sym, ◌∙◌, ap, subst, List, map, length, arith, ltb-false, ltb-true}
use Rattle.std.specs.List.{list_any}
use Rattle.std.proofs.lemmas.List.{length-map}
use Rattle.fleet_model.specs.Nodes.{NodeName, L0, Tree, names_contain, runs_of}
use Rattle.sched_model.specs.Levels.{LevelOptions, LevelPicking, pick_flushes_into}
use Rattle.fleet_tree.specs.Trees.{run_node, segment_of, tree_of}
use Rattle.fleet_tree.specs.Views.{View}
use Rattle.fleet_jobs.specs.Sources.{name_of}
use Rattle.fleet_level.specs.Picks.{SamePicks}
use Rattle.fleet_level.proofs.Picked.{flushes_are_few, flushes_are_used, flushes_went}
use Rattle.fleet_level.proofs.TreeParts.{flushes_are, on_ok, runs_are}
use Rattle.fleet_level.proofs.picking.Picking.pick_flushes.Goals as goal

pub returns-then-are_fewer : goal.returns-then-are_fewer
returns-then-are_fewer c = λ handles flushes has. flushes_are_few c.args.options.now handles (segment_of flushes (c.args.segment.now, c.args.tree.now)) _ (flushes_are (flushes c.args.segment.now) c.args.tree.now) c.args.self.now (omega (arith, length-map c.args.tree.now.l0 (λ (view : View). L0 view.id), ap (λ (o : LevelOptions). o.l0_trigger) c.options.view_is, ltb-true (length c.args.tree.now.l0) c.options.inside.l0_trigger (sym c.are_fewer.ensures ∙ c.if-are_fewer.true)))

pub returns-then-uses_any : goal.returns-then-uses_any
returns-then-uses_any c = λ handles flushes has. flushes_are_used c.args.options.now handles (segment_of flushes (c.args.segment.now, c.args.tree.now)) _ (flushes_are (flushes c.args.segment.now) c.args.tree.now) c.args.self.now (ap (λ (p : LevelPicking). list_any (names_contain p.used) (map (λ (view : View). L0 view.id) c.args.tree.now.l0)) (sym c.self.view_is) ∙ sym c.uses_any.ensures ∙ c.if-uses_any.true)

pub returns : goal.returns
returns c = λ handles flushes has. on_ok c.pick_flushes_into.result (λ same. flushes_went c.args.options.now handles (segment_of flushes (c.args.segment.now, c.args.tree.now)) _ (flushes_are (flushes c.args.segment.now) c.args.tree.now) c.args.self.now _ (omega (arith, length-map c.args.tree.now.l0 (λ (view : View). L0 view.id), ap (λ (o : LevelOptions). o.l0_trigger) c.options.view_is, ltb-false (length c.args.tree.now.l0) c.options.inside.l0_trigger (sym c.are_fewer.ensures ∙ c.if-are_fewer.false))) (ap (λ (p : LevelPicking). list_any (names_contain p.used) (map (λ (view : View). L0 view.id) c.args.tree.now.l0)) (sym c.self.view_is) ∙ sym c.uses_any.ensures ∙ c.if-uses_any.false)
    (subst (λ (names : List NodeName). SamePicks c.pick_flushes_into.new.self (pick_flushes_into c.args.options.now handles c.args.segment.now names (runs_of (tree_of (flushes c.args.segment.now) c.args.tree.now)) c.args.self.now))
    c.in_ok-sources.ensures
    (subst (λ (runs : Tree). SamePicks c.pick_flushes_into.new.self (pick_flushes_into c.args.options.now handles c.args.segment.now (map name_of c.in_ok-sources.sources.items) runs c.args.self.now))
    (ap (map (run_node (flushes c.args.segment.now))) c.iter.ensures ∙ sym (runs_are (flushes c.args.segment.now) c.args.tree.now)) same)))
    (c.pick_flushes_into.ensures handles (flushes c.args.segment.now) has)
