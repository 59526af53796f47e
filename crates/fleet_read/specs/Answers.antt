-- What a read of a key over a store answers.
use Rattle.std.specs.Prelude.{ℕ, ℤ, if◌then◌else◌, List, Option, Some, None}
use Rattle.row_model.specs.Fold.{Operator, Outcome, Merged, Refused}
use Rattle.fleet_model.specs.Reads.{stored_read}
use Rattle.fleet_model.specs.Store.{Store}
use Rattle.script_model.specs.Lines.Looks.{is_not_retained}
use Rattle.fleet_read.specs.declared.answer.ReadAnswer.{ReadAnswer}
use Rattle.fleet_read.specs.declared.answer.ReadAnswer.TheVariants.{Value, Nothing, NotRetained, Callback}

-- The outcome of a read, as the program's answer.
abbrev pub answer_of : Option Outcome → ReadAnswer
answer_of None = Nothing
answer_of (Some (Merged bytes)) = Value bytes
answer_of (Some (Refused message)) = Callback message

-- The answer of a read of a key over the rows that the nodes of the segment's tree hold. Below the horizon or
-- before the tick there is none.
abbrev pub stored_answer : (merge : Operator) (store : Store) → (segment key : List ℕ) → (seq : ℕ) (now : ℤ)
    → ReadAnswer
stored_answer merge store segment key seq now =
    if is_not_retained store.manifest seq now then NotRetained store.manifest.horizon store.manifest.tick
    else answer_of (stored_read merge store segment key seq now)
