use Rattle.std.proofs.Common.{◌≡◌, ◌∙◌, ap, subst, [], ◌∷◌, Ok}
use Rattle.std.proofs.lemmas.Result.{err_from_is_err_and}
use Rattle.row_model.specs.Rows.{Row}
use Rattle.fleet_rows.specs.Row.{row_of}
use Rattle.fleet_fold.specs.Folded.{merged_group}
use Rattle.fleet_fold.specs.Groups.{RefusesAs}
use Rattle.fleet_fold.proofs.fold.fold_over.Goals as goal

pub returns-in_err-first-clause-err : goal.returns-in_err-first-clause-err
returns-in_err-first-clause-err g c =
    let merge = g.B.BatchMerger.fold c.args.operator.now in
    let p = err_from_is_err_and c.from_residual-in_err-first.result c.from_residual-in_err-first.ensures.1 in
    let e = c.in_err-first.field-0.0 in
    let copy = c.in_ok-clone.field-0 in
    let base = row_of c.args.base.now in
    let same = ap row_of (c.in_ok-clone.ensures.copy ∙ c.merge_over.ensures.kept c.if-merge_over.false) in
    let refuses = c.in_err-first.ensures.err (row_of copy) [] (c.in_ok-group.ensures.ok merge) in
    rw (p.1, p.2) (subst (λ (r : Row). RefusesAs (merged_group merge (r, base ∷ [])) e) same
    (subst (λ (b : Row). RefusesAs (merged_group merge (row_of copy, b ∷ [])) e) (ap row_of c.in_ok-clone-2.ensures.copy) refuses))

pub returns-clause-ok : goal.returns-clause-ok
returns-clause-ok g c =
    let merge = g.B.BatchMerger.fold c.args.operator.now in
    let copy = c.in_ok-clone.field-0 in
    let made = row_of c.in_ok-first.field-0 in
    let base = row_of c.args.base.now in
    let same = ap row_of (c.in_ok-clone.ensures.copy ∙ c.merge_over.ensures.kept c.if-merge_over.false) in
    let closes = c.in_ok-first.ensures.ok (row_of copy) [] (c.in_ok-group.ensures.ok merge) in
    subst (λ (r : Row). merged_group merge (r, base ∷ []) ≡ Ok made) same
    (subst (λ (b : Row). merged_group merge (row_of copy, b ∷ []) ≡ Ok made) (ap row_of c.in_ok-clone-2.ensures.copy) closes)
