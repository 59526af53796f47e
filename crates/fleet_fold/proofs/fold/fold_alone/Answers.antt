use Rattle.std.proofs.Common.{◌≡◌, ◌∙◌, ap, subst, [], Ok}
use Rattle.std.proofs.lemmas.Result.{err_from_is_err_and}
use Rattle.row_model.specs.Rows.{Row}
use Rattle.fleet_rows.specs.Row.{row_of}
use Rattle.fleet_fold.specs.Folded.{merged_group}
use Rattle.fleet_fold.specs.Groups.{RefusesAs}
use Rattle.fleet_fold.proofs.fold.fold_alone.Goals as goal

pub returns-in_err-first-clause-err : goal.returns-in_err-first-clause-err
returns-in_err-first-clause-err g c =
    let merge = g.B.BatchMerger.fold c.args.operator.now in
    let p = err_from_is_err_and c.from_residual-in_err-first.result c.from_residual-in_err-first.ensures.1 in
    let e = c.in_err-first.field-0.0 in
    let copy = c.in_ok-clone.field-0 in
    let same = ap row_of (c.in_ok-clone.ensures.copy ∙ c.merge_alone.ensures.kept c.if-merge_alone.false) in
    rw (p.1, p.2) (subst (λ (r : Row). RefusesAs (merged_group merge (r, [])) e) same (c.in_err-first.ensures.err (row_of copy) [] (c.in_ok-group.ensures.ok merge)))

pub returns-clause-ok : goal.returns-clause-ok
returns-clause-ok g c =
    let merge = g.B.BatchMerger.fold c.args.operator.now in
    let copy = c.in_ok-clone.field-0 in
    let same = ap row_of (c.in_ok-clone.ensures.copy ∙ c.merge_alone.ensures.kept c.if-merge_alone.false) in
    subst (λ (r : Row). merged_group merge (r, []) ≡ Ok (row_of c.in_ok-first.field-0)) same (c.in_ok-first.ensures.ok (row_of copy) [] (c.in_ok-group.ensures.ok merge))
