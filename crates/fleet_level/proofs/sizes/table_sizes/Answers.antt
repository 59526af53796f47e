use Rattle.std.proofs.Common.{◌∙◌, ap, ℕ, List}
use Rattle.fleet_tree.specs.declared.tree.LsmTreeState.{LsmTreeState}
use Rattle.std.specs.Option.{option_or}
use Rattle.fleet_sched.specs.Views.{tree_handles}
use Rattle.fleet_level.specs.Sizes.{first_size, tables_of_trees}
use Rattle.std.proofs.lemmas.List.{take_all}
use Rattle.fleet_level.proofs.FirstSizes.{has_all, one_tree_more}
use Rattle.fleet_level.proofs.sizes.table_sizes.Goals as goal

pub segments-preserved : goal.segments-preserved
segments-preserved c = λ id. one_tree_more id c.as_slice-segment-items.result.now c.segments.segment-index c.segment-item.result _ _ _ c.segments-test.true c.segment-item.is (c.segments.invariant id) (c.in_ok-add_tree-2.ensures id)

pub returns : goal.returns
returns c = has_all _ c.args.core.now.tree c.args.core.now.segments (λ id. c.segments.invariant id ∙ ap (λ (trees : List (List ℕ × LsmTreeState)). option_or (first_size id (tree_handles c.args.core.now.tree)) (first_size id (tables_of_trees trees))) (take_all c.segments.segment-index c.as_slice-segment-items.result.now c.segments-test.false ∙ c.as_slice-segment-items.ensures))
