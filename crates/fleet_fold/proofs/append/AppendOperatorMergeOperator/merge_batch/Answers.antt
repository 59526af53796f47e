use Rattle.std.proofs.Common.{◌∙◌, ℕ, List, Option, sym, subst}
use Rattle.row_model.specs.Append.{append}
use Rattle.row_model.specs.Fold.{Outcome, fold_bytes}
use Rattle.fleet_fold.specs.Operator.{AnswersBatch}
use Rattle.fleet_fold.proofs.Batches.{from_none}
use Rattle.fleet_fold.proofs.append.AppendOperatorMergeOperator.merge_batch.Goals as goal

pub returns : goal.returns
returns c =
    let answer = c.joined_all-in-None.result in
    let same = from_none c.args.key.now c.args.operands.now (sym c.is_empty.ensures ∙ c.if-is_empty.false) in
    subst (λ (e : Option (List ℕ)). AnswersBatch (fold_bytes append c.args.key.now e c.args.operands.now) answer) (sym c.in-None.is)
    (subst (λ (o : Option Outcome). AnswersBatch o answer) same c.joined_all-in-None.ensures)
