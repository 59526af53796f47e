use Rattle.std.proofs.Common.{◌∙◌, sym, ap, subst, ℕ, List, Ok, Err}
use Rattle.std.specs.Prelude.{option_map, reverse}
use Rattle.row_model.specs.Fold.{Outcome, fold_bytes}
use Rattle.fleet_fold.specs.Operator.{AnswersBatch}
use Rattle.fleet_rows.specs.declared.errors.MergeOperatorError.{MergeOperatorError}
use Rattle.fleet_scan.proofs.Folds.{merged_is, refused_is, not_empty}
use Rattle.fleet_scan.proofs.key_rows.folded.Goals as goal

pub returns-in-Ok-clause-answer : goal.returns-in-Ok-clause-answer
returns-in-Ok-clause-answer g c =
    let merge = g.B.BatchMerger.fold c.args.operator.now in
    let given = subst (λ (w : List (List ℕ)). AnswersBatch (fold_bytes merge c.args.key c.args.base w) (Ok c.in-Ok.value)) (c.deref.ensures.value ∙ c.reverse.ensures.items) c.in-Ok.ensures in
    sym (ap (option_map (λ (o : Outcome). (c.args.key, o))) (merged_is (fold_bytes merge c.args.key c.args.base (reverse c.args.operands.items)) c.in-Ok.value given))

pub returns-in-Err-Callback-clause-answer : goal.returns-in-Err-Callback-clause-answer
returns-in-Err-Callback-clause-answer g c =
    let merge = g.B.BatchMerger.fold c.args.operator.now in
    let given = subst (λ (w : List (List ℕ)). AnswersBatch (fold_bytes merge c.args.key c.args.base w) (Err c.in-Err-Callback.field-0)) (c.deref.ensures.value ∙ c.reverse.ensures.items) c.in-Err-Callback.ensures in
    let refused = subst (λ (e : MergeOperatorError). AnswersBatch (fold_bytes merge c.args.key c.args.base (reverse c.args.operands.items)) (Err e)) c.in-Err-Callback.field-0-is given in
    sym (ap (option_map (λ (o : Outcome). (c.args.key, o))) (refused_is (fold_bytes merge c.args.key c.args.base (reverse c.args.operands.items)) c.in-Err-Callback.message refused))

pub unreachable-requires : goal.unreachable-requires
unreachable-requires g c =
    let merge = g.B.BatchMerger.fold c.args.operator.now in
    let given = subst (λ (w : List (List ℕ)). AnswersBatch (fold_bytes merge c.args.key c.args.base w) (Err c.in-Err-EmptyBatch.field-0)) (c.deref.ensures.value ∙ c.reverse.ensures.items) c.in-Err-EmptyBatch.ensures in
    let empty = subst (λ (e : MergeOperatorError). AnswersBatch (fold_bytes merge c.args.key c.args.base (reverse c.args.operands.items)) (Err e)) c.in-Err-EmptyBatch.field-0-is given in
    not_empty merge c.args.key c.args.base c.args.operands.items c.requires.some empty
