use Rattle.std.proofs.Common.{◌≡◌, ◌∙◌, sym, ap, subst, List, map}
use Rattle.row_model.specs.Rows.{Row}
use Rattle.fleet_iter.specs.Iteration.{AreRising}
use Rattle.fleet_iter.specs.declared.iterator.IterationOrder.TheVariants.{Ascending}
use Rattle.fleet_iter.specs.List.{Listed, giving_state}
use Rattle.fleet_iter.specs.Merge.{given_rows, merged_lists}
use Rattle.fleet_iter.specs.MergeState.{merge_of}
use Rattle.fleet_iter.proofs.Lists.{none_failed, rows_of_lists, rising_rows}
use Rattle.fleet_tests.proofs.spelt_rows.merge.Goals as goal

pub new-requires-clause-alive : goal.new-requires-clause-alive
new-requires-clause-alive c _ = none_failed c.in_ok-lists.field-0.items

pub returns-clause-rising : goal.returns-clause-rising
returns-clause-rising c dedup =
    let ls : List Listed = c.in_ok-lists.field-0.items in
    let rows : List (List Row) = map (λ (l : Listed). l.rows) ls in
    let all : merge_of giving_state c.new.result ≡ merged_lists Ascending rows = c.new.ensures.all ∙ ap (merged_lists Ascending) (rows_of_lists ls) in
    let P : List Row → _ = λ rows. AreRising (given_rows dedup rows) in
    subst P (sym all) (c.merges_rise.ensures dedup rows (rising_rows ls c.in_ok-lists.ensures))
