-- What calls leave of tables: a table that is held stays held, unless it is deleted, and its rows stay.
use Rattle.std.proofs.Common.{◌≡◌, refl, ◌∙◌, ap, ℕ, ◌+◌, ◌<◌, List, [], ◌∷◌, ◌++◌, cond, Bool, true, false, Some, None, arith}
use Rattle.std.specs.Prelude.{IsTrue, ◌==◌, ◌||◌, find}
use Rattle.row_model.specs.Rows.{Row}
use Rattle.row_model.specs.Fold.{Operator}
use Rattle.fleet_model.specs.Nodes.{Tables, is_among, table_rows, rows_or_none}
use Rattle.fleet_model.specs.Jobs.{contains, drawn_base}
use Rattle.fleet_model.specs.History.{Party}
use Rattle.fleet_model.specs.Store.{Store, is_held, WerePut}
use Rattle.fleet_model.specs.Exchanges.{Exchange, Plain, DrawsJob, DrawsTable, PutsTable, PutsManifest, PutsRecords, ListsTables, DeletesTable, records_version, after_exchange}
use Rattle.step_model.specs.Past.{World}
use Rattle.step_model.specs.Entries.{drawn_tables}
use Rattle.step_model.specs.Rivals.{Strike, store_after_call, is_deletion}
use Rattle.step_model.specs.Kept.Keeps.{Keeps}
use Rattle.step_laws.proofs.Elements.{all_at, all_true_front, any_push_yes, is_itself, contains_in}
use Rattle.step_laws.proofs.Held.{is_held_so, held_grows, held_put, rows_stay}
use Rattle.step_laws.proofs.FlushNodes.{small_number}
use Rattle.rival_laws.proofs.FreeTables.{refused}

-- The table is held and has these rows.
pub record HasRows (id : ℕ) (rows : List Row) (store : Store) : Type 0 where
  pub held : IsTrue (is_held store id)
  pub same : table_rows store.tables id ≡ rows

-- An exchange that deletes no table leaves a held table held, with its rows.
performed_rows : (x : Exchange) (store : Store) (id : ℕ) (rows : List Row) → is_deletion x ≡ false → HasRows id rows store → HasRows id rows (after_exchange x store)
performed_rows (Plain event) store id rows none h = h
performed_rows (DrawsJob moment) store id rows none h = record { held = h.held; same = h.same }
performed_rows (DrawsTable moment) store id rows none h = record { held = h.held; same = h.same }
performed_rows (PutsTable table new) store id rows none h = record { held = held_grows store (table, new) id h.held; same = rows_stay store.tables (table, new) id (held_put store id h.held) ∙ h.same }
performed_rows (PutsManifest version change value) store id rows none h = by (version == store.manifest.version)
  where
    by : (b : Bool) → HasRows id rows (cond b (record store { manifest = record value { version = version + 1 } }) store)
    by true = record { held = h.held; same = h.same }
    by false = h
performed_rows (PutsRecords version change epoch jobs) store id rows none h = by (version == records_version store.records)
  where
    by : (b : Bool) → HasRows id rows (cond b (record store { records = Some (record { version = version + 1; epoch = epoch; jobs = jobs }) }) store)
    by true = record { held = h.held; same = h.same }
    by false = h
performed_rows ListsTables store id rows none h = h
performed_rows (DeletesTable table) store id rows none h = absurd (cc none)

pub call_rows : (line : ℕ) (party : Party) (x : Exchange) (strike : Strike) (store : Store) (id : ℕ) (rows : List Row) → is_deletion x ≡ false → HasRows id rows store → HasRows id rows (store_after_call line party x strike store)
call_rows line party x None store id rows none h = let done = performed_rows x store id rows none h in record { held = done.held; same = done.same }
call_rows line party x (Some true) store id rows none h = let done = performed_rows x store id rows none h in record { held = done.held; same = done.same }
call_rows line party x (Some false) store id rows none h = record { held = h.held; same = h.same }

-- ---- a table that is put

new_rows : (tables : Tables) (id : ℕ) (rows : List Row) → is_among tables id ≡ false → table_rows (tables ++ (id, rows) ∷ []) id ≡ rows
new_rows [] id rows new = ap (λ b. rows_or_none (cond b (Some (id, rows)) None)) (is_itself id)
new_rows (table ∷ tables) id rows new = by (table.0 == id) (new_rows tables id rows) new
  where
    by : (b : Bool) → (is_among tables id ≡ false → table_rows (tables ++ (id, rows) ∷ []) id ≡ rows) → (b || is_among tables id) ≡ false
        → rows_or_none (cond b (Some table) (find (λ held. held.0 == id) (tables ++ (id, rows) ∷ []))) ≡ rows
    by true rest none = absurd (cc none)
    by false rest none = rest none

not_deleted : (store : Store) (id : ℕ) → WerePut store store.deleted → is_among store.tables id ≡ false → contains store.deleted id ≡ false
not_deleted store id put new = by (contains store.deleted id) refl
  where
    by : (b : Bool) → contains store.deleted id ≡ b → b ≡ false
    by true e = absurd (refused (is_among store.tables id) new (all_at (λ n. IsTrue (is_among store.tables n)) store.deleted id (all_true_front (is_among store.tables) store.deleted put) (contains_in store.deleted id e)))
    by false e = refl

-- A table that is put under a new id is held, with its rows.
pub put_has_rows : (line : ℕ) (party : Party) (store : Store) (id : ℕ) (rows : List Row) → WerePut store store.deleted → is_among store.tables id ≡ false → HasRows id rows (store_after_call line party (PutsTable id rows) None store)
put_has_rows line party store id rows put new =
    let there : is_among (store.tables ++ (id, rows) ∷ []) id ≡ true = any_push_yes (λ (table : ℕ × List Row). table.0 == id) store.tables (id, rows) (is_itself id) in
    record {
      held = rw (is_held_so (record store { tables = store.tables ++ (id, rows) ∷ [] }) id, there, not_deleted store id put new) refl;
      same = new_rows store.tables id rows new;
    }

-- ---- ids

-- A drawn table has no name of a flush.
pub drawn_is_high : (merge : Operator) (world : World) (id : ℕ) → Keeps merge world → IsTrue (contains (drawn_tables world.store.history) id) → id < drawn_base → ⊥
drawn_is_high merge world id kept drawn low =
    let high = (all_at _ (drawn_tables world.store.history) id kept.facts.draws.tables_counted (contains_in (drawn_tables world.store.history) id drawn)).0 in
    let number = small_number id low in
    omega (arith, high, number, low)
