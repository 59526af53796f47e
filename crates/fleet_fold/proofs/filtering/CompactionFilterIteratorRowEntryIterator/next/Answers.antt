use Rattle.std.proofs.Common.{rules, ◌≡◌, subst, List, Option, None, Err, false}
use Rattle.row_model.specs.Rows.{Row}
use Rattle.fleet_rows.specs.declared.row.RowEntry.{RowEntry}
use Rattle.fleet_fold.specs.Filter.{Refuses, filtered_rows}
use Rattle.fleet_fold.proofs.Filters.{open_knows, next_refused_filtered, reads, refuses_kept}
use Rattle.fleet_fold.proofs.filtering.CompactionFilterIteratorRowEntryIterator.next.Goals as goal

pub returns-in-Err-clause-next : goal.returns-in-Err-clause-next
returns-in-Err-clause-next g c =
    let f = g.T.RowEntryIterator.state in
    let i = c.args.self.now in
    let alive : i.failure ≡ None = search rules in
    let opened : i.ended ≡ false = search rules in
    next_refused_filtered (g.F.CompactionFilter.answers i.filter) (g.F.CompactionFilter.closing i.filter) i.failure i.ended (g.F.CompactionFilter.is_closed i.filter) (f i.inner) (f c.next.new.self) alive opened (open_knows _ _ _ _ alive c.requires.1) c.fail.new.self c.in-Err.error c.fail.result c.fail.ensures c.in-Err.ensures.next

pub returns-in-Err-next_left-clause-refused : goal.returns-in-Err-next_left-clause-refused
returns-in-Err-next_left-clause-refused g c alive _ begun =
    let f = g.T.RowEntryIterator.state in
    let i = c.args.self.now in
    let answers = g.F.CompactionFilter.answers i.filter in
    let closing = g.F.CompactionFilter.closing i.filter in
    let knows = open_knows _ _ _ _ alive c.requires.1 in
    let read = reads (f i.inner) (f c.next.new.self) c.in-Ok.first (knows.alive, begun) c.in-Ok.ensures.next in
    let after = f c.next_left.new.inner in
    let e = c.in-Err-next_left.error in
    refuses_kept (filtered_rows answers closing (f i.inner).rows) after e c.fail-in-Err-next_left.result _ c.fail-in-Err-next_left.new.self c.fail-in-Err-next_left.ensures
    (subst (λ (rows : List Row). Refuses {A = Option RowEntry} (filtered_rows answers closing rows) after (Err e)) read.rows c.in-Err-next_left.ensures.refused)
