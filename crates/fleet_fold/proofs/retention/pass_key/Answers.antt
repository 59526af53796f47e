use Rattle.std.proofs.Common.{rules, ◌≡◌, subst, true, false, Option}
use Rattle.std.proofs.lemmas.Result.{err_from_is_err_and}
use Rattle.fleet_rows.specs.declared.row.RowEntry.{RowEntry}
use Rattle.fleet_fold.proofs.LoneRows.{ends_key, PassesKey}
use Rattle.fleet_fold.proofs.PassedKeys.{passes_row, passes_key, passes_no_further}
use Rattle.fleet_fold.proofs.retention.pass_key.Goals as goal

pub rows-preserved : goal.rows-preserved
rows-preserved g c =
    let f = g.T.RowSource.state in
    let more : ends_key c.args.ahead.now c.in_ok-row.row ≡ false = search rules in
    record {
      sound = c.in_ok-row.ensures.sound;
      same = c.rows.invariant.same;
      so_far = passes_row c.args.ahead.now (f c.args.inner.now) (f c.rows.inner) (f c.next_row.new.self) c.in_ok-row.row c.requires.some c.in_ok-row.ensures.next more c.rows.invariant.so_far;
    }

pub returns-then-ends_key-clause-ok : goal.returns-then-ends_key-clause-ok
returns-then-ends_key-clause-ok g c =
    let f = g.T.RowSource.state in
    let ends : ends_key c.args.ahead.now c.in_ok-row.row ≡ true = search rules in
    let later : c.in_ok-row.row ≡ c.replace.new.dest = search rules in
    subst (λ (o : Option RowEntry). PassesKey c.args.ahead.now (f c.args.inner.now) o (f c.next_row.new.self)) later
    (passes_key c.args.ahead.now (f c.args.inner.now) (f c.rows.inner) (f c.next_row.new.self) c.in_ok-row.row c.requires.some c.in_ok-row.ensures.next ends c.rows.invariant.so_far)

pub returns-in_err-row-clause-err : goal.returns-in_err-row-clause-err
returns-in_err-row-clause-err g c =
    let f = g.T.RowSource.state in
    let p = err_from_is_err_and c.from_residual.result c.from_residual.ensures.1 in
    rw (p.1, p.2) (passes_no_further c.args.ahead.now (f c.args.inner.now) (f c.rows.inner) (f c.next_row.new.self) c.in_err-row.field-0.0 c.requires.some c.in_err-row.ensures.next c.rows.invariant.so_far)
