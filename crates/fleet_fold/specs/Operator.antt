-- What a call of a merge operator may answer.
use Rattle.std.specs.Prelude.{◌≡◌, ℕ, List, Option, Some, None, Result, Ok, Err, ⊤}
use Rattle.row_model.specs.Fold.{Outcome, Merged, Refused}
use Rattle.fleet_rows.specs.declared.errors.MergeOperatorError.{MergeOperatorError}
use Rattle.fleet_rows.specs.declared.errors.MergeOperatorError.TheVariants.{EmptyBatch, Callback, Memory}

-- The call has this outcome, or it fails with `Memory`.
abbrev pub Answers : Outcome → Result (List ℕ) MergeOperatorError → Type 0
Answers (Merged bytes) (Ok answer) = answer ≡ bytes
Answers (Merged bytes) (Err EmptyBatch) = ⊥
Answers (Merged bytes) (Err (Callback message)) = ⊥
Answers (Merged bytes) (Err Memory) = ⊤
Answers (Refused message) (Ok answer) = ⊥
Answers (Refused message) (Err EmptyBatch) = ⊥
Answers (Refused message) (Err (Callback answer)) = answer ≡ message
Answers (Refused message) (Err Memory) = ⊤

-- The call on a batch has this outcome, or it fails with `Memory`. If there is neither an operand nor an
-- existing value, there is no outcome, and the call fails with `EmptyBatch` or `Memory`.
abbrev pub AnswersBatch : Option Outcome → Result (List ℕ) MergeOperatorError → Type 0
AnswersBatch (Some outcome) answer = Answers outcome answer
AnswersBatch None (Ok answer) = ⊥
AnswersBatch None (Err EmptyBatch) = ⊤
AnswersBatch None (Err (Callback message)) = ⊥
AnswersBatch None (Err Memory) = ⊤
