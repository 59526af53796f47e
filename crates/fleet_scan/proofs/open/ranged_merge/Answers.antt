use Rattle.std.proofs.Common.{◌∙◌, sym, subst, map}
use Rattle.std.proofs.lemmas.Result.{err_from_is_err_and}
use Rattle.fleet_iter.specs.Merge.{NoneFailed, merged_lists}
use Rattle.fleet_iter.specs.MergeState as merge
use Rattle.fleet_iter.specs.declared.iterator.IterationOrder.TheVariants.{Ascending}
use Rattle.fleet_range.specs.Keys.{range_of}
use Rattle.fleet_table.specs.Iterator.{state_of}
use Rattle.fleet_exec.specs.Ranges.{ranged_sources}
use Rattle.fleet_exec.proofs.Opened.{none_failed, starts, init_memory, init_ready}
use Rattle.fleet_scan.proofs.Ranged.{merge_is}
use Rattle.fleet_scan.proofs.open.ranged_merge.Goals as goal

pub new-requires-clause-alive : goal.new-requires-clause-alive
new-requires-clause-alive c _ = subst NoneFailed (sym c.in_ok-iterators.ensures.rows) (none_failed (range_of c.args.range.now) c.args.sources.now)

pub returns-in_err-init-clause-memory : goal.returns-in_err-init-clause-memory
returns-in_err-init-clause-memory c =
    let range = range_of c.args.range.now in
    let sources = c.args.sources.now in
    let p = err_from_is_err_and c.from_residual-in_err-init.result c.from_residual-in_err-init.ensures.1 in
    let begun = starts range sources (map state_of c.in_ok-iterators.iterators.items) (merge.state_of state_of c.new.result) (merge.state_of state_of c.with_dedup-rows.result) (merge.merge_of state_of c.new.result) c.in_ok-iterators.ensures.rows c.new.ensures.rows c.new.ensures.all c.with_dedup-rows.ensures.rows in
    rw (p.1, p.2) (init_memory (merge.state_of state_of c.with_dedup-rows.result) (merge.state_of state_of c.init.new.self) c.in_err-init.field-0.0 (merged_lists Ascending (ranged_sources range sources)) begun c.in_err-init.ensures.init)

pub returns-clause-rows : goal.returns-clause-rows
returns-clause-rows c =
    let range = range_of c.args.range.now in
    let sources = c.args.sources.now in
    let begun = starts range sources (map state_of c.in_ok-iterators.iterators.items) (merge.state_of state_of c.new.result) (merge.state_of state_of c.with_dedup-rows.result) (merge.merge_of state_of c.new.result) c.in_ok-iterators.ensures.rows c.new.ensures.rows c.new.ensures.all c.with_dedup-rows.ensures.rows in
    init_ready (merge.state_of state_of c.with_dedup-rows.result) (merge.state_of state_of c.init.new.self) (merged_lists Ascending (ranged_sources range sources)) begun c.in_ok-init.ensures.init
    ∙ merge_is range sources c.requires c.merges_sort.ensures
