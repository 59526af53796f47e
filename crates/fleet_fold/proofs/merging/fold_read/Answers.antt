use Rattle.std.proofs.Common.{◌≡◌, ◌∙◌, ap, sym, subst, false, Some, Option, Ok, Err}
use Rattle.std.specs.Prelude.{Result}
use Rattle.fleet_iter.specs.Iteration.{KeepsRefusal}
use Rattle.fleet_rows.specs.Row.{row_of}
use Rattle.fleet_rows.specs.declared.row.RowEntry.{RowEntry}
use Rattle.fleet_rows.specs.declared.errors.SlateDBError.{SlateDBError}
use Rattle.fleet_fold.specs.Folded.{opens}
use Rattle.fleet_fold.specs.Reading.{is_passed, MakesNext}
use Rattle.fleet_fold.proofs.FoldedRows.{folds_opened, refuses_opened}
use Rattle.fleet_fold.proofs.ReadNexts.{not_false, makes_folded, makes_refused, makes_failed}
use Rattle.fleet_fold.proofs.merging.fold_read.Goals as goal

pub returns-in-Ok-clause-made : goal.returns-in-Ok-clause-made
returns-in-Ok-clause-made g c =
    let merge = g.B.BatchMerger.fold c.args.operator.now in
    let f = g.T.RowSource.state in
    let rule = c.args.rule.now in
    let first = c.in-Ok-Some.first in
    let new = c.fold_opened.new in
    let is = c.in-Ok-Some.is ∙ ap Ok c.in-Ok-Some.field-0-is in
    let opened = not_false (opens rule (row_of first)) (subst (λ (w : Result (Option RowEntry) SlateDBError). is_passed rule w ≡ false) is c.requires.opened) in
    let folds = folds_opened merge rule (row_of first) (row_of new.first) (f c.args.inner.now) new.ahead (f new.inner) opened c.in-Ok.ensures.ok in
    subst (λ (w : Result (Option RowEntry) SlateDBError). MakesNext merge rule (f c.args.inner.now) w c.args.failure.now new.ahead (f new.inner) (Ok (Some new.first))) (sym is)
    (makes_folded merge rule c.args.failure.now new.ahead (f c.args.inner.now) (f new.inner) first new.first c.requires.alive folds)

pub returns-in-Err-fold_opened-clause-made : goal.returns-in-Err-fold_opened-clause-made
returns-in-Err-fold_opened-clause-made g c =
    let merge = g.B.BatchMerger.fold c.args.operator.now in
    let f = g.T.RowSource.state in
    let rule = c.args.rule.now in
    let first = c.in-Ok-Some.first in
    let new = c.fold_opened.new in
    let e = c.in-Err-fold_opened.error in
    let is = c.in-Ok-Some.is ∙ ap Ok c.in-Ok-Some.field-0-is in
    let opened = not_false (opens rule (row_of first)) (subst (λ (w : Result (Option RowEntry) SlateDBError). is_passed rule w ≡ false) is c.requires.opened) in
    let refuses = refuses_opened merge rule (row_of first) (f c.args.inner.now) (f new.inner) e opened c.in-Err-fold_opened.ensures.err in
    subst (λ (w : Result (Option RowEntry) SlateDBError). MakesNext merge rule (f c.args.inner.now) w c.fail.new.self new.ahead (f new.inner) (Err c.fail.result)) (sym is)
    (makes_refused merge rule c.args.failure.now c.fail.new.self new.ahead (f c.args.inner.now) (f new.inner) first e c.fail.result c.requires.alive c.fail.ensures refuses)

pub returns-in-Err-clause-made : goal.returns-in-Err-clause-made
returns-in-Err-clause-made g c =
    let merge = g.B.BatchMerger.fold c.args.operator.now in
    let f = g.T.RowSource.state in
    let rule = c.args.rule.now in
    let kept = c.fail-in-Err.new.self in
    let answer = c.fail-in-Err.result in
    let keeps = subst (λ (e : SlateDBError). KeepsRefusal e c.args.failure.now kept answer) c.replace-cause.ensures.value c.fail-in-Err.ensures in
    subst (λ (w : Result (Option RowEntry) SlateDBError). MakesNext merge rule (f c.args.inner.now) w kept c.args.ahead.now (f c.args.inner.now) (Err answer)) (sym c.in-Err.is)
    (makes_failed merge rule c.args.failure.now kept c.args.ahead.now (f c.args.inner.now) c.in-Err.error answer c.requires.alive c.requires.none keeps)
