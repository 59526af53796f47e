use Rattle.std.proofs.Common.{rules}
use Rattle.fleet_fold.proofs.KeptNexts.{begins_next}
use Rattle.fleet_fold.proofs.retention.begin.Goals as goal

pub returns-clause-ok : goal.returns-clause-ok
returns-clause-ok g c =
    let f = g.T.RowSource.state in
    begins_next (f c.args.inner.now) (f c.next_row.new.self) c.args.ahead.now c.in_ok-ahead.field-0 (search rules) c.requires.reads.alive c.in_ok-ahead.ensures.next
