-- What the private functions that pass over the rows of a key say, of which retention keeps the newest one alone.
use Rattle.std.specs.Prelude.{◌≡◌, Bool, not, ◌&&◌, List, ◌++◌, Option}
use Rattle.std.specs.Option.{option_to_list}
use Rattle.row_model.specs.Rows.{Row, same_key, is_tombstone, is_expired}
use Rattle.row_model.specs.Settings.{Settings}
use Rattle.fleet_iter.specs.Iteration.{IteratorState}
use Rattle.fleet_iter.specs.Merge.{head_passes}
use Rattle.fleet_rows.specs.Row.{rows_of}
use Rattle.fleet_rows.specs.declared.row.RowEntry.{RowEntry}
use Rattle.fleet_fold.specs.Retention.{ends_walk, HaveOneKey, from_ahead, IsReadable, ReadsKey}

-- Retention keeps this row as it is, if it is the newest one of its key, and it keeps no older row.
abbrev pub is_kept_alone : Settings → Row → Bool
is_kept_alone settings r =
    (ends_walk settings.cut r && not (is_expired r settings.tick)) && not (settings.last_run && is_tombstone r.content)

-- The row that was read ahead is kept as it is, and no other row of its key is.
abbrev pub stands_alone : Settings → Option RowEntry → Bool
stands_alone settings ahead = head_passes (is_kept_alone settings) ahead

-- The next row does not have the key of the row that was read ahead, or there is none.
abbrev pub ends_key : Option RowEntry → Option RowEntry → Bool
ends_key ahead row = not (head_passes (λ r. head_passes (λ first. same_key first r) ahead) row)

-- Some rows with the key of the row that was read ahead are passed.
pub record PassesSoFar (ahead : Option RowEntry) (old new : IteratorState) : Type 0 where
  pub passed : List RowEntry
  pub parts : from_ahead ahead old ≡ rows_of (option_to_list ahead ++ passed) ++ new.rows
  pub alike : HaveOneKey (rows_of (option_to_list ahead ++ passed))
  pub readable : IsReadable new
  pub whole : new.whole ≡ old.whole
  pub steady : new.steady ≡ old.steady
  pub refusal : new.refusal ≡ old.refusal

-- All rows with the key of the row that was read ahead are passed. The first row after them is read ahead, if
-- there is one.
abbrev pub PassesKey : Option RowEntry → IteratorState → Option RowEntry → IteratorState → Type 0
PassesKey ahead old later new = (others : List RowEntry) × ReadsKey ahead old (option_to_list ahead ++ others) later new
