-- Calls lead to later stores.
use Rattle.std.proofs.Common.{◌≡◌, refl, ap, sym, ◌∙◌, subst, ℕ, ◌+◌, ◌==◌, Bool, true, false, if◌then◌else◌, cond, ◌||◌, IsTrue, List, [], ◌∷◌, ◌++◌, append_assoc, Some, None, arith}
use Rattle.std.specs.Prelude.{find}
use Rattle.std.proofs.lemmas.Bool.{eqb-true}
use Rattle.std.proofs.lemmas.List.{append-nil}
use Rattle.fleet_model.specs.Nodes.{Tables, is_among, rows_or_none, table_rows}
use Rattle.fleet_model.specs.Exchanges.{Exchange, Plain, DrawsJob, DrawsTable, PutsTable, ListsTables, DeletesTable, after_exchange, records_version}
use Rattle.fleet_model.specs.Exchanges as exchange
use Rattle.fleet_model.specs.History.{Entry, Party}
use Rattle.fleet_model.specs.Store.{Records, Store}
use Rattle.fleet_model.specs.Store as model_store
use Rattle.step_model.specs.Past.{World}
use Rattle.step_model.specs.Later.{IsLater}
use Rattle.step_model.specs.Rivals.{Caller, RivalCall, Rivals, RivalsFrom, Strike, store_after_call, after_rival}
use Rattle.step_laws.specs.Later.{CallsLeadLater, TableStays}

pub later_itself : (store : Store) → IsLater store store
later_itself store = record { manifest_rises = omega arith; manifest_stays = λ e. refl; records_rise = omega arith; records_stay = λ e. refl; more = []; tables_added = sym (append-nil store.tables) }

-- A store that is later than a later store is later than the first one.
pub later_then : (a b c : Store) → IsLater a b → IsLater b c → IsLater a c
later_then a b c one two = record {
  manifest_rises = omega (arith, one.manifest_rises, two.manifest_rises);
  manifest_stays = λ e.
      one.manifest_stays (omega (arith, one.manifest_rises, two.manifest_rises, e)) ∙ two.manifest_stays (omega (arith, one.manifest_rises, two.manifest_rises, e));
  records_rise = omega (arith, one.records_rise, two.records_rise);
  records_stay = λ e.
      one.records_stay (omega (arith, one.records_rise, two.records_rise, e)) ∙ two.records_stay (omega (arith, one.records_rise, two.records_rise, e));
  more = one.more ++ two.more;
  tables_added = two.tables_added ∙ (ap (λ t. t ++ two.more) one.tables_added ∙ append_assoc a.tables one.more two.more);
}

-- A store with another history is later than the same.
with_history : {history : List Entry} (new old : Store) → IsLater old new → IsLater old (record new { history = history })
with_history new old later = record {
  manifest_rises = later.manifest_rises;
  manifest_stays = later.manifest_stays;
  records_rise = later.records_rise;
  records_stay = later.records_stay;
  more = later.more;
  tables_added = later.tables_added;
}

-- ---- one call

-- A put of a manifest leads to a later store, whether it takes effect or not.
put_manifest_later : (version : ℕ) (value : model_store.Manifest) (store : Store)
    → IsLater store (if version == store.manifest.version then record store { manifest = record value { version = version + 1 } } else store)
put_manifest_later version value store = by (version == store.manifest.version) refl
  where
    by : (b : Bool) → (version == store.manifest.version) ≡ b → IsLater store (if b then record store { manifest = record value { version = version + 1 } } else store)
    by true e =
        let same = eqb-true version store.manifest.version e in
        record {
          manifest_rises = omega (arith, same);
          manifest_stays = λ stays. absurd (omega (arith, same, stays));
          records_rise = omega arith;
          records_stay = λ stays. refl;
          more = [];
          tables_added = sym (append-nil store.tables);
        }
    by false e = later_itself store

-- A put of records with the next version leads to a later store, whether it takes effect or not.
put_records_later : (version : ℕ) (value : Records) (store : Store) → value.version ≡ version + 1
    → IsLater store (if version == records_version store.records then record store { records = Some value } else store)
put_records_later version value store next = by (version == records_version store.records) refl
  where
    by : (b : Bool) → (version == records_version store.records) ≡ b → IsLater store (if b then record store { records = Some value } else store)
    by true e =
        let same = eqb-true version (records_version store.records) e in
        record {
          manifest_rises = omega arith;
          manifest_stays = λ stays. refl;
          records_rise = omega (arith, same, next);
          records_stay = λ stays. absurd (omega (arith, same, stays, next));
          more = [];
          tables_added = sym (append-nil store.tables);
        }
    by false e = later_itself store

performed_later : (x : Exchange) (store : Store) → IsLater store (after_exchange x store)
performed_later (Plain event) store = later_itself store
performed_later (DrawsJob moment) store = record { manifest_rises = omega arith; manifest_stays = λ e. refl; records_rise = omega arith; records_stay = λ e. refl; more = []; tables_added = sym (append-nil store.tables) }
performed_later (DrawsTable moment) store = record { manifest_rises = omega arith; manifest_stays = λ e. refl; records_rise = omega arith; records_stay = λ e. refl; more = []; tables_added = sym (append-nil store.tables) }
performed_later (PutsTable table rows) store = record { manifest_rises = omega arith; manifest_stays = λ e. refl; records_rise = omega arith; records_stay = λ e. refl; more = (table, rows) ∷ []; tables_added = refl }
performed_later (exchange.PutsManifest version change value) store = put_manifest_later version value store
performed_later (exchange.PutsRecords version change epoch jobs) store = put_records_later version (record { version = version + 1; epoch = epoch; jobs = jobs }) store refl
performed_later ListsTables store = later_itself store
performed_later (DeletesTable table) store = record { manifest_rises = omega arith; manifest_stays = λ e. refl; records_rise = omega arith; records_stay = λ e. refl; more = []; tables_added = sym (append-nil store.tables) }

-- A call leads to a later store.
pub call_later : (line : ℕ) (party : Party) (x : Exchange) (strike : Strike) (store : Store) → IsLater store (store_after_call line party x strike store)
call_later line party x None store = with_history (after_exchange x store) store (performed_later x store)
call_later line party x (Some true) store = with_history (after_exchange x store) store (performed_later x store)
call_later line party x (Some false) store = with_history store store (later_itself store)

-- ---- calls of others

-- Calls of others lead to a later store.
pub rivals_later : (who : Caller) (old met : World) → Rivals who old met → IsLater old.store met.store
rivals_later who old met r = by r.calls old r.lead
  where
    by : (calls : List RivalCall) (from : World) → RivalsFrom who calls from met → IsLater from.store met.store
    by [] from lead = subst (λ (t : World). IsLater from.store t.store) lead (later_itself from.store)
    by (c ∷ calls) from lead =
        later_then from.store (after_rival c from).store met.store (call_later c.line c.party c.exchange c.strike from.store) (by calls (after_rival c from) lead.1)

-- ---- tables

-- A table that is among the first ones is found before the others.
found_before : (id : ℕ) (tables more : Tables) → IsTrue (is_among tables id) → IsTrue (is_among (tables ++ more) id) × (table_rows (tables ++ more) id ≡ table_rows tables id)
found_before id [] more among = absurd (cc among)
found_before id (t ∷ tables) more among = by (t.0 == id) refl among (found_before id tables more)
  where
    by : (b : Bool) → (t.0 == id) ≡ b → IsTrue (b || is_among tables id)
        → (IsTrue (is_among tables id) → IsTrue (is_among (tables ++ more) id) × (table_rows (tables ++ more) id ≡ table_rows tables id))
        → IsTrue (b || is_among (tables ++ more) id) × (rows_or_none (cond b (Some t) (find (λ held. held.0 == id) (tables ++ more))) ≡ rows_or_none (cond b (Some t) (find (λ held. held.0 == id) tables)))
    by true e here rest = (refl, refl)
    by false e here rest = rest here

pub table_stays : (id : ℕ) (old new : Store) → IsLater old new → IsTrue (is_among old.tables id) → TableStays id old new
table_stays id old new later among =
    let found = found_before id old.tables later.more among in
    record {
      there = subst (λ tables. IsTrue (is_among tables id)) (sym later.tables_added) found.0;
      rows = ap (λ tables. table_rows tables id) later.tables_added ∙ found.1;
    }

pub calls_lead : CallsLeadLater
calls_lead = record { itself = later_itself; on = later_then; call = call_later; rivals = rivals_later; tables = table_stays }
