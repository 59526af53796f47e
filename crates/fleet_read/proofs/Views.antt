-- What a read takes of one table.
use Rattle.std.proofs.Common.{◌≡◌, sym, ◌∙◌, ap, ℕ, List, [], ◌∷◌, Option, Some, None, Result, Ok, Err, append-nil}
use Rattle.std.specs.Prelude.{OnOk}
use Rattle.row_model.specs.Ranges.{Range, rows_in}
use Rattle.row_model.specs.Rows.{Row, rows_of_key}
use Rattle.fleet_model.specs.Store.{Store}
use Rattle.fleet_scan.specs.KeyReads.{KeyReading, TakesRows}
use Rattle.fleet_store.specs.Tables.{held_rows}
use Rattle.fleet_tree.specs.Views.{View}
use Rattle.fleet_read.specs.Stored.{IsHeldView, only_key, rows_or_none, view_rows}
use Rattle.fleet_read.proofs.HeldRows.{held_are}
use Rattle.fleet_read.proofs.OneKey.{only_rows}
use Rattle.fleet_read.proofs.Taken.{takes_same}

held_view : (store : Store) (view : View) (key : List ℕ) (found : Option (List Row)) → IsHeldView store view → found ≡ held_rows view.sst.id store → view_rows store key (view ∷ []) ≡ rows_of_key key (rows_or_none found)
held_view store view key found held is =
    append-nil (rows_of_key key _) ∙ ap (rows_of_key key) (sym (held_are store view.sst.id held.held) ∙ ap rows_or_none (sym is))

-- A table that is not there has no row. (No held table is missing.)
pub missing_none : (store : Store) (view : View) (key : List ℕ) (found : Option (List Row)) → IsHeldView store view → found ≡ held_rows view.sst.id store → found ≡ None → view_rows store key (view ∷ []) ≡ []
missing_none store view key found held is none = held_view store view key found held is ∙ ap (λ (o : Option (List Row)). rows_of_key key (rows_or_none o)) none

-- The rows that the iterator over the key's range gave are those of the view's table.
pub table_taken : (store : Store) (view : View) (key : List ℕ) (range : Range) (rows left : List Row) (found : Option (List Row)) {A E : Type 0} (r : Result A E) (first last : KeyReading) → IsHeldView store view → range ≡ only_key key → found ≡ held_rows view.sst.id store → found ≡ Some rows
    → left ≡ rows_in range rows → OnOk r (TakesRows first left last) → OnOk r (TakesRows first (view_rows store key (view ∷ [])) last)
table_taken store view key range rows left found (Ok x) first last held only is there given taken =
    takes_same first last left (view_rows store key (view ∷ []))
    (given ∙ (ap (λ (w : Range). rows_in w rows) only ∙ (only_rows key rows ∙ (ap (λ (o : Option (List Row)). rows_of_key key (rows_or_none o)) (sym there) ∙ sym (held_view store view key found held is))))) taken
table_taken store view key range rows left found (Err e) first last held only is there given taken = tt
