-- What an iterator that merges operands makes of a row that was read.
use Rattle.std.specs.Prelude.{◌≡◌, Bool, true, false, not, Option, None, Result, Ok, Err, IfErr}
use Rattle.row_model.specs.Fold.{Operator}
use Rattle.fleet_iter.specs.Iteration.{IteratorState, Nexts}
use Rattle.fleet_iter.specs.Merge.{head_passes}
use Rattle.fleet_rows.specs.declared.row.RowEntry.{RowEntry}
use Rattle.fleet_rows.specs.declared.errors.SlateDBError.{SlateDBError}
use Rattle.fleet_fold.specs.Folded.{opens}
use Rattle.fleet_fold.specs.Groups.{RefusesNext}
use Rattle.fleet_fold.specs.Merging.{merging, ReadsGroups}
use Rattle.fleet_fold.specs.declared.group.GroupRule.{GroupRule}

-- Whether a row that was read opens no group, or no row is left.
abbrev pub is_passed : GroupRule → Result (Option RowEntry) SlateDBError → Bool
is_passed rule (Ok row) = not (head_passes (opens rule) row)
is_passed rule (Err e) = false

-- What a call for the next row gives, and what it leaves. Before it, no row was read ahead.
pub record GivesNext (merge : Operator) (rule : GroupRule) (before : IteratorState) (failure : Option SlateDBError)
    (ahead : Option RowEntry) (after : IteratorState) (given : Result (Option RowEntry) SlateDBError) : Type 0 where
  pub next : Nexts (merging None merge rule None before) (merging failure merge rule ahead after) given
  pub handed : IfErr given (λ e. before.initialised ≡ true → RefusesNext merge rule before.rows before after e)
  pub reads : ReadsGroups merge rule failure ahead after

-- A row was read of the inner iterator, which has come to the state `mid`, and it becomes what is given.
abbrev pub MakesNext : Operator → GroupRule → (mid : IteratorState) (read : Result (Option RowEntry) SlateDBError)
    → Option SlateDBError → Option RowEntry → IteratorState → Result (Option RowEntry) SlateDBError → Type 0
MakesNext merge rule mid read failure ahead after given = (before : IteratorState) → Nexts before mid read
    → ReadsGroups merge rule None None before → GivesNext merge rule before failure ahead after given
