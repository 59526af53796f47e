-- What a lawful call of a party leaves of what others hold, and of flushes that are to come.
use Rattle.std.proofs.Common.{◌≡◌, ◌≢◌, refl, sym, ◌∙◌, ap, subst, ℕ, ◌+◌, ◌≤◌, List, [], ◌∷◌, cond, Bool, true, false, Some, None, arith}
use Rattle.std.specs.Prelude.{IsTrue, ◌==◌, ◌&&◌, ⊤}
use Rattle.std.proofs.lemmas.Bool.Decides.{Decides-eqb}
use Rattle.row_model.specs.Fold.{Operator}
use Rattle.fleet_model.specs.History.{Party, Writer, Sweeper, Worker, Coordinator, Entry, stood}
use Rattle.fleet_model.specs.Store.{records_epoch}
use Rattle.fleet_model.specs.Work.Parties.{LiveWorker, LiveCoordinator}
use Rattle.fleet_model.specs.Exchanges.{Exchange, Plain, DrawsJob, DrawsTable, PutsTable, PutsManifest, PutsRecords, ListsTables, DeletesTable, records_version, after_exchange}
use Rattle.step_model.specs.Past.{World}
use Rattle.step_model.specs.Entries.{party_eq, is_epoch_put, did_put_epoch, is_pending_in, last_from}
use Rattle.step_model.specs.Lawful.{Lawful}
use Rattle.step_model.specs.Rivals.{Caller, Strike, store_after_call}
use Rattle.step_model.specs.Fits.{WorkerHolds, CoordinatorHolds}
use Rattle.step_laws.proofs.Elements.{any_front}
use Rattle.rival_laws.specs.FitLaws.{SparesTables}
use Rattle.rival_laws.proofs.Workers.{workers_keep}
use Rattle.rival_laws.proofs.Coordinators.{after_epoch}
use Rattle.course_laws.proofs.Later.{entry_by, call_history}
use Rattle.course_laws.proofs.Sweeps.{last_other, NonePending}
use Rattle.line_laws.proofs.Courses.{CallsHold}

-- ---- workers

-- Only a sweeper may delete, so a call of another party spares all tables.
spares_unless : (w : LiveWorker) (merge : Operator) (party : Party) (world : World) (x : Exchange) → party ≢ Sweeper → Lawful merge party world x → SparesTables w x
spares_unless w merge party world (DeletesTable table) other lawful = absurd (other lawful.by)
spares_unless w merge party world (Plain event) other lawful = tt
spares_unless w merge party world (DrawsJob moment) other lawful = tt
spares_unless w merge party world (DrawsTable moment) other lawful = tt
spares_unless w merge party world (PutsTable table rows) other lawful = tt
spares_unless w merge party world (PutsManifest version change value) other lawful = tt
spares_unless w merge party world (PutsRecords version change epoch jobs) other lawful = tt
spares_unless w merge party world ListsTables other lawful = tt

pub worker_holds : (who : Caller) (w : LiveWorker) → who.party ≢ Sweeper → who.party ≢ Worker w.number → CallsHold who (λ x. ⊤) (λ world. WorkerHolds who.merge world w)
worker_holds who w no_sweep other x strike world kept lawful may one h =
    workers_keep who.merge x who.line who.party strike world w kept other lawful may (spares_unless w who.merge who.party world x no_sweep lawful) h

pub spared_worker_holds : (who : Caller) (w : LiveWorker) → who.party ≢ Worker w.number → CallsHold who (SparesTables w) (λ world. WorkerHolds who.merge world w)
spared_worker_holds who w other x strike world kept lawful may one h = workers_keep who.merge x who.line who.party strike world w kept other lawful may one h

-- ---- coordinators

-- A lawful call never lowers the epoch of the records.
performed_epoch : (merge : Operator) (party : Party) (world : World) (x : Exchange) → Lawful merge party world x → records_epoch world.store.records ≤ records_epoch (after_exchange x world.store).records
performed_epoch merge party world (Plain event) lawful = omega arith
performed_epoch merge party world (DrawsJob moment) lawful = omega arith
performed_epoch merge party world (DrawsTable moment) lawful = omega arith
performed_epoch merge party world (PutsTable table rows) lawful = omega arith
performed_epoch merge party world (PutsManifest version change value) lawful = by (version == world.store.manifest.version)
  where
    by : (b : Bool) → records_epoch world.store.records ≤ records_epoch (cond b (record world.store { manifest = record value { version = version + 1 } }) world.store).records
    by true = omega arith
    by false = omega arith
performed_epoch merge party world (PutsRecords version change epoch jobs) lawful = by (version == records_version world.store.records) refl
  where
    by : (b : Bool) → (version == records_version world.store.records) ≡ b
        → records_epoch world.store.records ≤ records_epoch (cond b (record world.store { records = Some (record { version = version + 1; epoch = epoch; jobs = jobs }) }) world.store).records
    by true e = after_epoch merge world party change epoch jobs (lawful.1 ((Decides-eqb version (records_version world.store.records)).0 e))
    by false e = omega arith
performed_epoch merge party world ListsTables lawful = omega arith
performed_epoch merge party world (DeletesTable table) lawful = omega arith

-- The epoch of the records never falls.
called_epoch : (merge : Operator) (line : ℕ) (party : Party) (world : World) (x : Exchange) (strike : Strike) → Lawful merge party world x → records_epoch world.store.records ≤ records_epoch (store_after_call line party x strike world.store).records
called_epoch merge line party world x None lawful = performed_epoch merge party world x lawful
called_epoch merge line party world x (Some true) lawful = performed_epoch merge party world x lawful
called_epoch merge line party world x (Some false) lawful = omega arith

-- A coordinator that holds no local state fits after each lawful call, also after its own.
pub coordinator_holds : (who : Caller) (c : LiveCoordinator) → CallsHold who (λ x. ⊤) (λ world. CoordinatorHolds world c None)
coordinator_holds who c x strike world kept lawful may one h =
    let rises = called_epoch who.merge who.line who.party world x strike lawful in
    let low = h.recorded in
    record {
      counted = h.counted;
      put = subst (λ (history : List Entry). IsTrue (did_put_epoch (Coordinator c.number) history c.epoch)) (sym (call_history who.line who.party x strike world.store))
          (any_front (λ (e : Entry). party_eq (Coordinator c.number) e.party && is_epoch_put c.epoch e.event && stood e.answer) world.store.history (entry_by who.line who.party x strike world.store ∷ []) h.put);
      recorded = omega (arith, rises, low);
      merges = λ manifest records. tt;
      known = λ manifest records. tt;
    }

-- ---- flushes

-- No call of another party than the writer puts a table for a flush.
pub none_pending_holds : (who : Caller) → party_eq Writer who.party ≡ false → CallsHold who (λ x. ⊤) (λ world. NonePending world.store)
none_pending_holds who other x strike world kept lawful may one none = λ table.
    ap (is_pending_in table) (ap (λ (history : List Entry). last_from None Writer history) (call_history who.line who.party x strike world.store) ∙ last_other Writer world.store.history (entry_by who.line who.party x strike world.store) None other) ∙ none table
