-- What the private functions that read the rows of an iterator that merges operands say of it.
use Rattle.std.specs.Prelude.{◌≡◌, Bool, true, Option, None, Result, IfErr}
use Rattle.row_model.specs.Fold.{Operator}
use Rattle.fleet_iter.specs.Iteration.{IteratorState}
use Rattle.fleet_iter.specs.Merge.{head_passes}
use Rattle.fleet_rows.specs.declared.row.RowEntry.{RowEntry}
use Rattle.fleet_rows.specs.declared.errors.SlateDBError.{SlateDBError}
use Rattle.fleet_fold.specs.Retention.{from_ahead}
use Rattle.fleet_fold.specs.Folded.{opens}
use Rattle.fleet_fold.specs.Groups.{RefusesNext}
use Rattle.fleet_fold.specs.declared.group.GroupRule.{GroupRule}

-- Whether there is a row that opens a group.
abbrev pub next_opens : GroupRule → Option RowEntry → Bool
next_opens rule row = head_passes (opens rule) row

-- If the inner iterator failed in a call, its error is the error of the call of an iterator with these parts.
-- Otherwise that is the error of the first group left. It may be `Memory` instead.
abbrev pub RefusesUnless : {A : Type 0} → Operator → GroupRule → Option SlateDBError → Option RowEntry
    → IteratorState → IteratorState → Result A SlateDBError → Type 0
RefusesUnless merge rule failure ahead old new result =
    IfErr result (λ e. failure ≡ None → old.initialised ≡ true → RefusesNext merge rule (from_ahead ahead old) old new e)
