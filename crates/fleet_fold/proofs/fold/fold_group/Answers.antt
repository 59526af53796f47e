use Rattle.std.proofs.Common.{sym, subst, Option}
use Rattle.std.specs.Option.{option_to_list}
use Rattle.std.proofs.lemmas.Result.{err_from_is_err_and}
use Rattle.fleet_rows.specs.Row.{row_of, rows_of}
use Rattle.fleet_rows.specs.declared.row.RowEntry.{RowEntry}
use Rattle.fleet_fold.specs.Groups.{Closes, RefusesClose, with_next}
use Rattle.fleet_fold.proofs.FoldedRows.{folds_group, refuses_joined}
use Rattle.fleet_fold.proofs.Joining.{joins_second, refuses_second, refuses_from}
use Rattle.fleet_fold.proofs.fold.fold_group.Goals as goal

pub returns-in_err-add-clause-err : goal.returns-in_err-add-clause-err
returns-in_err-add-clause-err g c =
    let merge = g.B.BatchMerger.fold c.args.operator.now in
    let f = g.T.RowSource.state in
    let p = err_from_is_err_and c.from_residual-in_err-add.result c.from_residual-in_err-add.ensures.1 in
    rw (p.1, p.2) (refuses_second merge c.args.rule (row_of c.args.first) c.args.second (f c.args.inner.now) _ (c.in_ok-group.ensures.ok merge) c.requires.joins c.requires.second c.in_err-add.field-0.0 c.requires.readable.0 c.in_err-add.ensures.err)

pub returns-in_err-base-clause-err : goal.returns-in_err-base-clause-err
returns-in_err-base-clause-err g c =
    let merge = g.B.BatchMerger.fold c.args.operator.now in
    let f = g.T.RowSource.state in
    let p = err_from_is_err_and c.from_residual-in_err-base.result c.from_residual-in_err-base.ensures.1 in
    let so_far = joins_second merge c.args.rule (row_of c.args.first) c.args.second (f c.args.inner.now) _ (c.in_ok-group.ensures.ok merge) c.requires.joins c.requires.second c.add.new.self c.in_ok-add.ensures.ok in
    rw (p.1, p.2) (refuses_from _ c.args.second (f c.args.inner.now) _ c.in_err-base.field-0.0 (c.in_err-base.ensures.err (row_of c.args.first) (with_next c.args.second (f c.args.inner.now)) so_far))

pub returns-in_err-close_over-in-Some-clause-err : goal.returns-in_err-close_over-in-Some-clause-err
returns-in_err-close_over-in-Some-clause-err g c =
    let merge = g.B.BatchMerger.fold c.args.operator.now in
    let f = g.T.RowSource.state in
    let p = err_from_is_err_and c.from_residual-in_err-close_over-in-Some.result c.from_residual-in_err-close_over-in-Some.ensures.1 in
    let e = c.in_err-close_over-in-Some.field-0.0 in
    let before = with_next c.args.second (f c.args.inner.now) in
    let so_far = joins_second merge c.args.rule (row_of c.args.first) c.args.second (f c.args.inner.now) _ (c.in_ok-group.ensures.ok merge) c.requires.joins c.requires.second c.add.new.self c.in_ok-add.ensures.ok in
    let joins = c.in_ok-base.ensures.ok.group (row_of c.args.first) before so_far in
    let refuses = subst (λ (o : Option RowEntry). RefusesClose merge c.take_rows.new.group (rows_of (option_to_list o)) e) (sym c.in-Some.is) c.in_err-close_over-in-Some.ensures.err in
    rw (p.1, p.2) (refuses_joined merge c.args.rule (row_of c.args.first) before c.in_ok-base.field-0 c.take_rows.new.group c.take_rows.new.ahead (f c.take_rows.new.inner) e joins c.in_ok-base.ensures.ok.readable.0 refuses)

pub returns-in_err-close-in-None-clause-err : goal.returns-in_err-close-in-None-clause-err
returns-in_err-close-in-None-clause-err g c =
    let merge = g.B.BatchMerger.fold c.args.operator.now in
    let f = g.T.RowSource.state in
    let p = err_from_is_err_and c.from_residual-in_err-close-in-None.result c.from_residual-in_err-close-in-None.ensures.1 in
    let e = c.in_err-close-in-None.field-0.0 in
    let before = with_next c.args.second (f c.args.inner.now) in
    let so_far = joins_second merge c.args.rule (row_of c.args.first) c.args.second (f c.args.inner.now) _ (c.in_ok-group.ensures.ok merge) c.requires.joins c.requires.second c.add.new.self c.in_ok-add.ensures.ok in
    let joins = c.in_ok-base.ensures.ok.group (row_of c.args.first) before so_far in
    let refuses = subst (λ (o : Option RowEntry). RefusesClose merge c.take_rows.new.group (rows_of (option_to_list o)) e) (sym c.in-None.is) c.in_err-close-in-None.ensures.err in
    rw (p.1, p.2) (refuses_joined merge c.args.rule (row_of c.args.first) before c.in_ok-base.field-0 c.take_rows.new.group c.take_rows.new.ahead (f c.take_rows.new.inner) e joins c.in_ok-base.ensures.ok.readable.0 refuses)

pub returns-in_ok-close_over-in-Some-clause-ok : goal.returns-in_ok-close_over-in-Some-clause-ok
returns-in_ok-close_over-in-Some-clause-ok g c =
    let merge = g.B.BatchMerger.fold c.args.operator.now in
    let f = g.T.RowSource.state in
    let takes = c.in_ok-base.ensures.ok in
    let before = with_next c.args.second (f c.args.inner.now) in
    let so_far = joins_second merge c.args.rule (row_of c.args.first) c.args.second (f c.args.inner.now) _ (c.in_ok-group.ensures.ok merge) c.requires.joins c.requires.second c.add.new.self c.in_ok-add.ensures.ok in
    let joins = takes.group (row_of c.args.first) before so_far in
    let r = row_of c.in_ok-close_over-in-Some.field-0 in
    let closes = subst (λ (o : Option RowEntry). Closes merge c.take_rows.new.group (rows_of (option_to_list o)) r) (sym c.in-Some.is) c.in_ok-close_over-in-Some.ensures.ok in
    folds_group merge c.args.rule (row_of c.args.first) r before c.in_ok-base.field-0 c.take_rows.new.group c.take_rows.new.ahead (f c.take_rows.new.inner) joins closes takes.readable takes.whole takes.steady

pub returns-in_ok-close-in-None-clause-ok : goal.returns-in_ok-close-in-None-clause-ok
returns-in_ok-close-in-None-clause-ok g c =
    let merge = g.B.BatchMerger.fold c.args.operator.now in
    let f = g.T.RowSource.state in
    let takes = c.in_ok-base.ensures.ok in
    let before = with_next c.args.second (f c.args.inner.now) in
    let so_far = joins_second merge c.args.rule (row_of c.args.first) c.args.second (f c.args.inner.now) _ (c.in_ok-group.ensures.ok merge) c.requires.joins c.requires.second c.add.new.self c.in_ok-add.ensures.ok in
    let joins = takes.group (row_of c.args.first) before so_far in
    let r = row_of c.in_ok-close-in-None.field-0 in
    let closes = subst (λ (o : Option RowEntry). Closes merge c.take_rows.new.group (rows_of (option_to_list o)) r) (sym c.in-None.is) c.in_ok-close-in-None.ensures.ok in
    folds_group merge c.args.rule (row_of c.args.first) r before c.in_ok-base.field-0 c.take_rows.new.group c.take_rows.new.ahead (f c.take_rows.new.inner) joins closes takes.readable takes.whole takes.steady
