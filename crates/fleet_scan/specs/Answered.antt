-- What a scan has left to answer, and what its calls answer.
use Rattle.std.specs.Prelude.{◌≡◌, ℕ, List, [], ◌∷◌, Option, Some, None, Bool, true, false, Result, Ok, Err}
use Rattle.row_model.specs.Fold as model
use Rattle.row_model.specs.Fold.{Outcome}
use Rattle.fleet_rows.specs.declared.errors.SlateDBError.{SlateDBError}
use Rattle.fleet_rows.specs.declared.errors.SlateDBError.TheVariants.{IteratorFailed, Memory}
use Rattle.fleet_scan.specs.declared.answer.KeyAnswer.{KeyAnswer}
use Rattle.fleet_scan.specs.declared.answer.KeyAnswer.TheVariants.{Found, Refused}

-- An answer of the program as the model's.
abbrev pub pair_of : KeyAnswer → List ℕ × Outcome
pair_of (Found key value) = (key, model.Merged value)
pair_of (Refused key message) = (key, model.Refused message)

-- A scan as contracts see it: the answers left, and whether a call failed it.
pub record Scanning : Type 0 where
  pub left : List (List ℕ × Outcome)
  pub failed : Bool

-- A call takes the first answer left. None means that no answer is left, and only running out of memory fails
-- the scan.
abbrev pub Takes : (old new : Scanning) (result : Result (Option KeyAnswer) SlateDBError) → Type 0
Takes old new (Ok None) = (old.left ≡ []) × (new ≡ old)
Takes old new (Ok (Some answer)) = old ≡ record new { left = pair_of answer ∷ new.left }
Takes old new (Err e) = (e ≡ Memory) × (new.failed ≡ true)

-- A call of a failed scan answers `IteratorFailed` and changes nothing.
pub record StaysFailed (old new : Scanning) (result : Result (Option KeyAnswer) SlateDBError) : Type 0 where
  pub answer : result ≡ Err IteratorFailed
  pub same : new ≡ old

pub record Nexts (old new : Scanning) (result : Result (Option KeyAnswer) SlateDBError) : Type 0 where
  pub failed : old.failed ≡ true → StaysFailed old new result
  pub takes : old.failed ≡ false → Takes old new result
