use Rattle.std.proofs.Common.{rules}
use Rattle.fleet_iter.specs.Iteration.{is_exact}
use Rattle.fleet_iter.proofs.Resumes.{resumes_at, resumes_by}
use Rattle.fleet_iter.proofs.resuming.first_after.Goals as goal

pub returns-in_ok-row-in-Some-clause-rows : goal.returns-in_ok-row-in-Some-clause-rows
returns-in_ok-row-in-Some-clause-rows g c =
    let f = g.T.RowSource.state in
    let old = f c.args.source.now in
    let moves = c.in_ok-seek_row-in-Some.ensures.seek.answers c.requires.alive c.requires.initialised in
    resumes_at (is_exact old) c.args.cursor.now _ c.as_slice.result.now old (f c.seek_row.new.self) _ (search rules) (search rules) moves c.in_ok-row-in-Some.ensures.rows

pub returns-in_ok-row-in-Some-clause-sought : goal.returns-in_ok-row-in-Some-clause-sought
returns-in_ok-row-in-Some-clause-sought g c =
    let f = g.T.RowSource.state in
    let old = c.args.source.now in
    resumes_by (g.T.RowSource.sought old) c.args.cursor.now _ c.as_slice.result.now (f old) (f c.seek_row.new.self) _ (search rules) (search rules) c.in_ok-seek_row-in-Some.ensures.sought c.in_ok-row-in-Some.ensures.rows
