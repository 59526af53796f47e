-- The row that a group becomes, and the rows after the group.
use Rattle.std.proofs.Common.{◌≡◌, ◌∙◌, refl, ap, subst, List, [], ◌∷◌, ◌++◌, Bool, true, false, length, Option, None, Ok}
use Rattle.std.specs.Prelude.{Result, if◌then◌else◌}
use Rattle.std.specs.Option.{option_to_list}
use Rattle.row_model.specs.Rows.{Row}
use Rattle.row_model.specs.Fold.{Operator}
use Rattle.fleet_iter.specs.Iteration.{IteratorState, AreRising}
use Rattle.fleet_fold.proofs.Keys.{rising_back}
use Rattle.fleet_rows.specs.Row.{rows_of}
use Rattle.fleet_rows.specs.declared.row.RowEntry.{RowEntry}
use Rattle.fleet_rows.specs.declared.errors.SlateDBError.{SlateDBError}
use Rattle.fleet_fold.specs.declared.group.Group.{Group}
use Rattle.fleet_fold.specs.declared.group.GroupRule.{GroupRule}
use Rattle.fleet_fold.specs.Retention.{from_ahead, IsReadable}
use Rattle.fleet_fold.specs.Folded.{joining, merged_group, folded_after, opens}
use Rattle.fleet_fold.specs.Groups.{Joins, Closes, RefusesClose, RefusesGroup, FoldsGroup, Folds, RefusesNext}

module _ (merge : Operator) (rule : GroupRule) where
  pub folds_group : (first r : Row) (old : IteratorState) (base : Option RowEntry) (g : Group) (later : Option RowEntry) (new : IteratorState) → Joins merge rule first old base g later new
      → Closes merge g (rows_of (option_to_list base)) r → IsReadable new → new.whole ≡ old.whole → new.steady ≡ old.steady → FoldsGroup merge rule first old r later new
  folds_group first r old base g later new h closes readable whole steady = record {
    group = ap (λ (rows : List Row). merged_group merge (first, rows)) h.joined ∙ closes first h.taken h.gathers;
    parts = h.parts;
    readable = readable;
    whole = whole;
    steady = steady;
  }

  -- A group whose rows were all read is refused if it cannot be closed.
  pub refuses_joined : (first : Row) (old : IteratorState) (base : Option RowEntry) (g : Group) (later : Option RowEntry) (new : IteratorState) (e : SlateDBError) → Joins merge rule first old base g later new → new.failure ≡ None
      → RefusesClose merge g (rows_of (option_to_list base)) e → RefusesGroup merge rule first old new e
  refuses_joined first old base g later new e h alive refuses = record {
    read = λ failed. absurd (failed alive);
    handed = λ failed. absurd (failed alive);
    merged = λ _ other. ap (λ (rows : List Row). merged_group merge (first, rows)) h.joined ∙ refuses first h.taken h.gathers other;
  }

  -- The rows that a group has taken are skipped.
  after_taken : (xs later : List Row) → folded_after merge rule (length xs) (xs ++ later) ≡ folded_after merge rule 0 later
  after_taken [] later = refl
  after_taken (x ∷ xs) later = after_taken xs later

  opened : (r : Row) (rows : List Row) → opens rule r ≡ true → folded_after merge rule 0 (r ∷ rows) ≡ merged_group merge (r, joining rule r rows) ∷ folded_after merge rule (length (joining rule r rows)) rows
  opened r rows h =
      ap (λ (b : Bool). if b then merged_group merge (r, joining rule r rows) ∷ folded_after merge rule (length (joining rule r rows)) rows else Ok r ∷ folded_after merge rule 0 rows) h

  passed : (r : Row) (rows : List Row) → opens rule r ≡ false → folded_after merge rule 0 (r ∷ rows) ≡ Ok r ∷ folded_after merge rule 0 rows
  passed r rows h =
      ap (λ (b : Bool). if b then merged_group merge (r, joining rule r rows) ∷ folded_after merge rule (length (joining rule r rows)) rows else Ok r ∷ folded_after merge rule 0 rows) h

  -- If a row opens a group, the row that the group becomes is the next folded row.
  pub folds_opened : (first r : Row) (old : IteratorState) (later : Option RowEntry) (new : IteratorState) → opens rule first ≡ true → FoldsGroup merge rule first old r later new → Folds merge rule first old r later new
  folds_opened first r old later new is h =
      let taken : List Row = joining rule first old.rows in
      record {
        rows = opened first old.rows is
            ∙ (ap (λ (a : Result Row SlateDBError). a ∷ folded_after merge rule (length taken) old.rows) h.group
            ∙ ap (λ (others : List (Result Row SlateDBError)). Ok r ∷ others) (ap (folded_after merge rule (length taken)) h.parts ∙ after_taken taken (from_ahead later new)));
        readable = h.readable;
        whole = h.whole;
        steady = h.steady;
        rising = λ rises. rising_back taken (from_ahead later new) (subst AreRising h.parts rises);
      }

  pub folds_passed : (first : Row) (old : IteratorState) → opens rule first ≡ false → IsReadable old → Folds merge rule first old first None old
  folds_passed first old is readable = record { rows = passed first old.rows is; readable = readable; whole = refl; steady = refl; rising = λ rises. rises }

  pub refuses_opened : (first : Row) (old new : IteratorState) (e : SlateDBError) → opens rule first ≡ true → RefusesGroup merge rule first old new e → RefusesNext merge rule (first ∷ old.rows) old new e
  refuses_opened first old new e is h = record {
    read = h.read;
    handed = h.handed;
    merged = λ alive other. (
      folded_after merge rule (length (joining rule first old.rows)) old.rows,
      opened first old.rows is ∙ ap (λ (a : Result Row SlateDBError). a ∷ folded_after merge rule (length (joining rule first old.rows)) old.rows) (h.merged alive other),
    );
  }
