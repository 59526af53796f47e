use Rattle.std.proofs.Common.{◌∙◌, ap, List, ℕ}
use Rattle.row_model.specs.Rows.{Row}
use Rattle.fleet_iter.specs.Iteration.{IteratorState}
use Rattle.fleet_iter.specs.Merge.{merged_lists}
use Rattle.fleet_iter.specs.MergeState as merge
use Rattle.fleet_iter.specs.declared.iterator.IterationOrder.TheVariants.{Ascending}
use Rattle.fleet_range.specs.Keys.{range_of}
use Rattle.fleet_range.specs.Ranges.{Ends}
use Rattle.fleet_table.specs.Iterator.{state_of}
use Rattle.fleet_exec.specs.Ranges.{ranged_sources}
use Rattle.fleet_exec.proofs.SourceOrder.{decides_order}
use Rattle.fleet_exec.proofs.sources.are_sources.Goals as goal

pub returns-clause-answer : goal.returns-clause-answer
returns-clause-answer c =
    let sources = c.args.sources.now in
    decides_order c.merges_sort.ensures sources c.in_ok-stand_in_order.field-0 (merge.state_of state_of c.in_ok-rows.rows).rows
    (ap (λ (s : IteratorState). s.rows) c.in_ok-rows.ensures.rows
    ∙ ap (λ (w : List (List (List Row))). merged_lists Ascending (ranged_sources (range_of c.unbounded-all.result) w)) c.as_slice.ensures
    ∙ ap (λ (r : Ends (List ℕ)). merged_lists Ascending (ranged_sources (range_of r) sources)) c.unbounded-all.ensures)
    c.in_ok-stand_in_order.ensures.ok
