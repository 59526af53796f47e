use Rattle.std.proofs.Common.{◌∙◌, subst, ℕ, List, [], ◌∷◌, map}
use Rattle.std.proofs.lemmas.List.{take_all}
use Rattle.sched_model.specs.Levels.{pick_trees}
use Rattle.fleet_tree.specs.Trees.{segment_of}
use Rattle.fleet_tree.specs.declared.tree.LsmTreeState.{LsmTreeState}
use Rattle.fleet_level.specs.Picks.{SamePicks}
use Rattle.fleet_level.proofs.TreesLooked.{tree_more}
use Rattle.fleet_level.proofs.picking.Picking.pick_trees.Goals as goal

pub segments-init : goal.segments-init
segments-init c = λ handles flushes has.
    subst (λ (segment : List ℕ). SamePicks c.pick_tree-2.new.self (pick_trees c.args.options.now handles (segment_of flushes (segment, c.args.core.now.tree) ∷ []) c.args.self.now)) c.new.ensures (c.in_ok-pick_tree.ensures handles flushes has)

pub segments-preserved : goal.segments-preserved
segments-preserved c = λ handles flushes has.
    tree_more c.args.options.now handles flushes ([], c.args.core.now.tree) c.as_slice-segment-items.result.now c.segments.segment-index c.segment-item.result c.args.self.now c.segments.self c.pick_tree-in-segments.new.self
    c.segments-test.true c.segment-item.is (c.segments.invariant handles flushes has) (c.in_ok-pick_tree-2.ensures handles flushes has)

pub returns : goal.returns
returns c = λ handles flushes has.
    subst (λ (trees : List (List ℕ × LsmTreeState)). SamePicks c.segments.self (pick_trees c.args.options.now handles (map (segment_of flushes) (([], c.args.core.now.tree) ∷ trees)) c.args.self.now))
    (take_all c.segments.segment-index c.as_slice-segment-items.result.now c.segments-test.false ∙ c.as_slice-segment-items.ensures) (c.segments.invariant handles flushes has)
