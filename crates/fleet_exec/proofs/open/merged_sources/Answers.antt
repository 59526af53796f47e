use Rattle.row_laws.specs.Sources.{merged_rows}
use Rattle.fleet_iter.specs.MergeState as merge
use Rattle.fleet_range.specs.Keys.{range_of}
use Rattle.fleet_table.specs.Iterator.{state_of}
use Rattle.fleet_exec.specs.Ranges.{ranged_sources}
use Rattle.fleet_exec.proofs.Opened.{ordered, reading_rises}
use Rattle.fleet_exec.proofs.open.merged_sources.Goals as goal

pub seek-requires-clause-rising : goal.seek-requires-clause-rising
seek-requires-clause-rising c =
    let range = range_of c.args.job.now.range in
    let sources = c.args.sources.now in
    reading_rises c.ordered_rows_rise.ensures (merge.state_of state_of c.in_ok-rows.rows) (merged_rows (ranged_sources range sources)) c.in_ok-rows.ensures.rows (ordered range sources c.requires)
