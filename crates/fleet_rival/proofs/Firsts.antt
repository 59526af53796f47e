-- The first records of a store.
use Rattle.std.proofs.Common.{◌≡◌, refl, ap, sym, ◌∙◌, subst, ℕ, ◌||◌, ◌&&◌, ◌==◌, Bool, true, false, if◌then◌else◌, List, [], ◌∷◌, ◌++◌, None, IsTrue, eq-eqb, arith}
use Rattle.std.specs.List.{list_any}
use Rattle.fleet_model.specs.Exchanges.{PutsManifest, answer_of, event_of}
use Rattle.fleet_model.specs.History.{Coordinator, Entry, ManifestEpoch, RecordsEpoch, stood}
use Rattle.fleet_model.specs.Jobs.{trimmed_jobs}
use Rattle.fleet_model.specs.Store.{Store, jobs_in, records_epoch}
use Rattle.step_model.specs.Entries.{did_put_epoch, party_eq, is_epoch_put}
use Rattle.step_model.specs.LawfulRecords.{RecordsFit}
use Rattle.step_model.specs.Past.{World}
use Rattle.step_model.specs.Rivals.{Caller}
use Rattle.step_model.specs.Views.{StoreView}
use Rattle.fleet_book.specs.declared.compactions.Compactions.{Compactions}
use Rattle.fleet_history.specs.declared.record_change.RecordChange.TheVariants as change
use Rattle.fleet_store.specs.Asks.{RecordsPutFit}
use Rattle.fleet_store.proofs.Calls.{same_history}
use Rattle.fleet_rival.specs.Starts.{epoch_world, next_epoch}
use Rattle.step_laws.proofs.RanLaws.{only_met}
use Rattle.fleet_rival.proofs.Rivals.{no_names, nothing}

any_last : {A : Type 0} (p : A → Bool) (xs : List A) (x : A) → p x ≡ true → IsTrue (list_any p (xs ++ x ∷ []))
any_last p [] x holds = rw holds refl
any_last p (y ∷ xs) x holds = by (p y) (any_last p xs x holds)
  where
    by : (b : Bool) → IsTrue (list_any p (xs ++ x ∷ [])) → IsTrue (b || list_any p (xs ++ x ∷ []))
    by true rest = refl
    by false rest = rest

same_number : (n : ℕ) → (n == n) ≡ true
same_number n = eq-eqb n n refl

-- After its put the coordinator did put the epoch.
did_put : (world : World) → IsTrue (did_put_epoch (Coordinator 1) (epoch_world world).store.history (next_epoch world))
did_put world =
    let x = PutsManifest world.store.manifest.version (ManifestEpoch (next_epoch world)) (record world.store.manifest { epoch = next_epoch world }) in
    let entry : Entry = record { line = 0; party = Coordinator 1; event = event_of x world.store; answer = answer_of x world.store } in
    subst (λ (history : List Entry). IsTrue (did_put_epoch (Coordinator 1) history (next_epoch world))) (sym (ap (λ history. history ++ entry ∷ []) (same_history x world.store)))
    (any_last (λ (e : Entry). party_eq (Coordinator 1) e.party && is_epoch_put (next_epoch world) e.event && stood e.answer) world.store.history entry
    (rw (same_number (next_epoch world), same_number world.store.manifest.version) refl))

chosen_records : (b : Bool) (one other : Store) → one.records ≡ other.records → (if b then one else other).records ≡ other.records
chosen_records true one other same = same
chosen_records false one other same = refl

-- The records are as they were.
raised_records : (world : World) → (epoch_world world).store.records ≡ world.store.records
raised_records world = chosen_records (world.store.manifest.version == world.store.manifest.version) _ world.store refl

-- If the store has no records, the coordinator that has raised the manifest's epoch may put the first
-- ones.
records_fit_here : (who : Caller) (world : World) → who.party ≡ Coordinator 1 → world.store.records ≡ None
    → RecordsFit who.merge who.party (epoch_world world) (RecordsEpoch (next_epoch world)) (next_epoch world) []
records_fit_here who world by empty =
    let none = raised_records world ∙ empty in
    record {
      there = refl;
      unrecorded = nothing;
      makes_jobs = ap (λ records. trimmed_jobs (jobs_in records)) (sym none);
      makes_epoch = refl;
      fits = record {
        by = subst (λ party. IsTrue (did_put_epoch party (epoch_world world).store.history (next_epoch world))) (sym by) (did_put world);
        above = omega (arith, ap records_epoch none);
      };
    }

-- So it may put the first records, with that epoch and no jobs.
pub records_fit : (view : StoreView) (world : World) (value : Compactions) (epoch : ℕ) → view.who.alone ≡ true → view.who.party ≡ Coordinator 1 → world.store.records ≡ None
    → view.world ≡ epoch_world world → value ≡ record { compactor_epoch = epoch; jobs = [] } → epoch ≡ next_epoch world → RecordsPutFit view 0 value (change.Epoch epoch)
records_fit view world value epoch alone by empty left is next = rw (is, next) (record {
  lawful = λ met rivals. (
    no_names view.who.party met,
    λ same.
        subst (λ (t : World). RecordsFit view.who.merge view.who.party t (RecordsEpoch (next_epoch world)) (next_epoch world) [])
        (sym left ∙ only_met view.who view.world met alone rivals) (records_fit_here view.who world by empty),
  );
  shown = λ met rivals same. tt;
})
