use Rattle.std.proofs.Common.{◌≡◌, ◌++◌, ◌∷◌, [], subst, List, Err}
use Rattle.std.proofs.lemmas.List.{append_assoc}
use Rattle.std.proofs.lemmas.Result.{err_from_is_err_and}
use Rattle.row_model.specs.Rows.{Row}
use Rattle.fleet_rows.specs.Row.{row_of}
use Rattle.fleet_fold.specs.Groups.{RefusesAdd}
use Rattle.fleet_fold.specs.Folded.{merged_group}
use Rattle.fleet_fold.proofs.group.Group.add.Goals as goal

pub returns-in_err-flush_if_full-clause-err : goal.returns-in_err-flush_if_full-clause-err
returns-in_err-flush_if_full-clause-err g c =
    let merge = g.B.BatchMerger.fold c.args.operator.now in
    let p = err_from_is_err_and c.from_residual-in_err-flush_if_full.result c.from_residual-in_err-flush_if_full.ensures.1 in
    let e = c.in_err-flush_if_full.field-0.0 in
    let r = row_of c.args.row in
    let refuses : RefusesAdd merge c.args.self.now r e = λ first taken later gathers other.
    subst (λ (w : List Row). merged_group merge (first, w) ≡ Err e) (append_assoc taken (r ∷ []) later) (c.in_err-flush_if_full.ensures.err first (taken ++ r ∷ []) later (c.in_ok-push.ensures merge first taken gathers) other) in
    rw (p.1, p.2) refuses
