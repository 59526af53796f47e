use Rattle.std.proofs.Common.{◌≡◌, ap, subst, List, ℕ, None, Ok}
use Rattle.row_model.specs.Fold.{fold_bytes}
use Rattle.fleet_rows.specs.Row.{row_of, content_of}
use Rattle.fleet_fold.specs.Folded.{answer_of}
use Rattle.fleet_fold.proofs.LoneGroups.{lone_row, answers_ok}
use Rattle.fleet_fold.proofs.fold.merge_alone.Goals as goal

pub returns-in-Ok-clause-merged : goal.returns-in-Ok-clause-merged
returns-in-Ok-clause-merged g c _ =
    let merge = g.B.BatchMerger.fold c.args.operator.now in
    let row = c.args.row.now in
    let bytes = c.in-Ok.bytes in
    let answer = subst (λ (w : List (List ℕ)). answer_of (fold_bytes merge row.key None w) ≡ Ok bytes) c.from_ref.ensures.value (answers_ok _ bytes c.in-Ok.ensures) in
    lone_row merge (g.met.B.BatchMerger.lawful c.args.operator.now) (row_of row) c.in-Merge.operand bytes (ap content_of c.in-Merge.is) answer
