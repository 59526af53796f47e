-- Looking at the next row.
use Rattle.std.proofs.Common.{Option, Some, None, Result, Ok, Err}
use Rattle.fleet_rows.specs.declared.row.RowEntry.{RowEntry}
use Rattle.fleet_rows.specs.declared.errors.SlateDBError.{SlateDBError}
use Rattle.fleet_iter.specs.Iteration.{IteratorState}
use Rattle.fleet_iter.specs.Peek.{Peeks, PeekAnswers, Looks, LookAnswers}

-- What holds of the states of a look ahead holds of its answer.
pub looks : (s t : IteratorState) (r : Result (Option RowEntry) SlateDBError) → Peeks s t r → Looks s r
looks s t r h = record {
  failed = λ q. (h.failed q).answer;
  uninitialised = λ q k. (h.uninitialised q k).answer;
  answers = λ q k. by r (h.answers q k);
}
  where
    by : (r : Result (Option RowEntry) SlateDBError) → PeekAnswers s t r → LookAnswers s r
    by (Ok None) e = (e.rows, e.whole)
    by (Ok (Some x)) e = e.first
    by (Err e) f = (f.cause, f.known)
