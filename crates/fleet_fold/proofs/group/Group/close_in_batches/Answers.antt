use Rattle.std.proofs.Common.{◌≡◌, ◌∙◌, sym, refl, subst, None, [], ℕ, List, Ok}
use Rattle.std.proofs.lemmas.Result.{err_from_is_err_and}
use Rattle.row_model.specs.Fold.{fold_bytes}
use Rattle.row_model.specs.Rows.{Row}
use Rattle.fleet_fold.specs.Folded.{answer_of}
use Rattle.fleet_fold.specs.Groups.{RefusesAs, Closes}
use Rattle.fleet_fold.proofs.GroupCloses.{refuses_flush, refuses_alone, closes_alone}
use Rattle.fleet_fold.proofs.group.Group.close_in_batches.Goals as goal

pub returns-in_err-flush-clause-err : goal.returns-in_err-flush-clause-err
returns-in_err-flush-clause-err g c =
    let merge = g.B.BatchMerger.fold c.args.operator.now in
    let p = err_from_is_err_and c.from_residual.result c.from_residual.ensures.1 in
    rw (p.1, p.2) (refuses_flush merge c.args.self [] c.in_err-flush.field-0.0 refl c.in_err-flush.ensures.err)

pub returns-in_err-bytes-clause-err : goal.returns-in_err-bytes-clause-err
returns-in_err-bytes-clause-err g c =
    let merge = g.B.BatchMerger.fold c.args.operator.now in
    let p = err_from_is_err_and c.from_residual-in_err-bytes.result c.from_residual-in_err-bytes.ensures.1 in
    let e = c.in_err-bytes.field-0.0 in
    let flushed = c.flush.new.self in
    rw (p.1, p.2) (refuses_alone merge c.args.self flushed e c.in_ok-flush.ensures.ok
    (subst (λ (w : List (List ℕ)). RefusesAs (answer_of (fold_bytes merge flushed.key None w)) e) (c.deref.ensures.value ∙ c.reverse.ensures.items) c.in_err-bytes.ensures.err))

pub returns-clause-ok : goal.returns-clause-ok
returns-clause-ok g c =
    let merge = g.B.BatchMerger.fold c.args.operator.now in
    let flushed = c.flush.new.self in
    subst (λ (r : Row). Closes merge c.args.self [] r) (sym c.into_row.ensures)
    (closes_alone merge c.args.self flushed c.in_ok-bytes.bytes c.in_ok-flush.ensures.ok
    (subst (λ (w : List (List ℕ)). answer_of (fold_bytes merge flushed.key None w) ≡ Ok c.in_ok-bytes.bytes) (c.deref.ensures.value ∙ c.reverse.ensures.items) c.in_ok-bytes.ensures.ok))
