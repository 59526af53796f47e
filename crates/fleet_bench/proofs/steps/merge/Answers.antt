use Rattle.std.proofs.Common.{◌≡◌, ◌∙◌, sym, ap, subst, List, map, false}
use Rattle.row_model.specs.Rows.{Row}
use Rattle.fleet_iter.specs.Iteration.{IteratorState, AreRising}
use Rattle.fleet_iter.specs.declared.iterator.IterationOrder.TheVariants.{Ascending}
use Rattle.fleet_iter.specs.List.{Listed, giving_state}
use Rattle.fleet_iter.specs.Merge.{given_rows, merged_lists}
use Rattle.fleet_iter.specs.MergeState.{merge_of, state_of}
use Rattle.fleet_iter.proofs.Lists.{none_failed, rows_of_lists, rising_rows}
use Rattle.fleet_bench.proofs.steps.merge.Goals as goal

pub new-requires-clause-alive : goal.new-requires-clause-alive
new-requires-clause-alive c κs = none_failed c.args.lists.items

pub returns-clause-rising : goal.returns-clause-rising
returns-clause-rising c =
    let ls : List Listed = c.args.lists.items in
    let rows : List (List Row) = map (λ (l : Listed). l.rows) ls in
    let all : merge_of giving_state c.new.result ≡ merged_lists Ascending rows = c.new.ensures.all ∙ ap (merged_lists Ascending) (rows_of_lists ls) in
    let left : (state_of giving_state c.with_dedup.result).rows ≡ given_rows false (merged_lists Ascending rows) = ap (λ (s : IteratorState). s.rows) c.with_dedup.ensures.rows ∙ ap (given_rows false) all in
    subst AreRising (sym left) (c.merges_rise.ensures false rows (rising_rows ls c.requires))
