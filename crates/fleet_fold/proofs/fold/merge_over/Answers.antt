use Rattle.std.proofs.Common.{◌≡◌, ◌∙◌, ◌≤◌, ap, sym, subst, [], ◌∷◌, List, Option, ℕ, Ok, arith}
use Rattle.std.proofs.lemmas.Grind.{common_steps}
use Rattle.row_model.specs.Fold.{fold_bytes}
use Rattle.fleet_rows.specs.Row.{row_of, content_of}
use Rattle.fleet_fold.specs.Folded.{answer_of}
use Rattle.fleet_fold.proofs.GroupCloses.{base_is}
use Rattle.fleet_fold.proofs.LoneGroups.{lone_over, answers_ok}
use Rattle.fleet_fold.proofs.fold.merge_over.Goals as goal

pub returns-in-Ok-merged_batch-clause-merged : goal.returns-in-Ok-merged_batch-clause-merged
returns-in-Ok-merged_batch-clause-merged g c =
    let merge = g.B.BatchMerger.fold c.args.operator.now in
    let row = c.args.row.now in
    let base = c.args.base.now in
    let bytes = c.in-Ok-merged_batch.bytes in
    let below : base.seq ≤ row.seq = grind (arith, common_steps) in
    let existing = c.in-Ok.ensures.copy ∙ sym (base_is base.value c.requires.base) in
    let one = subst (λ (w : List (List ℕ)). answer_of (fold_bytes merge row.key c.in-Ok.existing w) ≡ Ok bytes) c.from_ref.ensures.value (answers_ok _ bytes c.in-Ok-merged_batch.ensures) in
    let answer = subst (λ (b : Option (List ℕ)). answer_of (fold_bytes merge row.key b (c.in-Merge.operand ∷ [])) ≡ Ok bytes) existing one in
    rw (c.greater_stamp-row.ensures, c.lesser_stamp-row.ensures)
    (λ _. lone_over merge (g.met.B.BatchMerger.lawful c.args.operator.now) (row_of row) (row_of base) c.in-Merge.operand bytes (ap content_of c.in-Merge.is) c.requires.base below answer)
