-- A put of an epoch into the records keeps the invariant: the manifest has that epoch or a later one.
use Rattle.std.proofs.Common.{◌≡◌, refl, sym, ◌∙◌, subst, ℕ, ◌+◌, ◌≤◌, List, [], ◌∷◌, Bool, true, false, inl}
use Rattle.std.specs.Prelude.{IsTrue, ◌==◌, ◌&&◌}
use Rattle.std.specs.List.{AllByRecursion}
use Rattle.std.proofs.lemmas.List.{append-nil}
use Rattle.std.proofs.lemmas.Bool.Decides.{Decides-eqb}
use Rattle.row_model.specs.Fold.{Operator}
use Rattle.fleet_model.specs.Jobs.{Jobs}
use Rattle.fleet_model.specs.History.{Party, Event, PutManifest, PutRecords, ManifestEpoch, RecordsEpoch, Entry, stood}
use Rattle.fleet_model.specs.Store.{stored_jobs}
use Rattle.fleet_model.specs.Exchanges.{records_version}
use Rattle.step_model.specs.Entries.{party_eq, did_put_epoch, is_epoch_put, put_epochs, epoch_in}
use Rattle.step_model.specs.Kept.Facts.{EpochsKept}
use Rattle.step_laws.proofs.Elements.{IsIn, all_at, all_to, Passes, any_element}
use Rattle.step_laws.proofs.Mute.{IsQuietFor}
use Rattle.step_laws.proofs.Grown.{named_grows}
use Rattle.step_laws.proofs.Bodies.{JobKept, whole_of, keeps_of}
use Rattle.step_laws.proofs.Deletions.{in_flat}
use Rattle.step_laws.proofs.Quiet.{draws_mute, puts_kept, table_none}
use Rattle.step_laws.proofs.RecordsBodies.{with_records, objects_after, body_with_records}
use Rattle.step_laws.proofs.RecordsPuts.{StandingPutKeeps}
use Rattle.step_laws.proofs.Changed.{kept_quiet}

-- An epoch that a party put is at most the stored one.
pub put_epoch_low : (epoch put : ℕ) (party : Party) (history : List Entry) → EpochsKept epoch history → IsTrue (did_put_epoch party history put) → put ≤ epoch
put_epoch_low epoch put party history h did = at (any_element (λ (e : Entry). party_eq party e.party && is_epoch_put put e.event && stood e.answer) history did)
  where
    listed : (own took : Bool) (event : Event) → (own && is_epoch_put put event && took) ≡ true → IsIn put (epoch_in took event)
    listed true true (PutManifest (ManifestEpoch other)) e = by (put == other) refl e
      where
        by : (b : Bool) → (put == other) ≡ b → (true && b && true) ≡ true → IsIn put (other ∷ [])
        by true same e = inl (sym ((Decides-eqb put other).0 same))
        by false same e = absurd (cc e)
    listed true false (PutManifest (ManifestEpoch other)) e = absurd (by (put == other) e)
      where
        by : (b : Bool) → (true && b && false) ≡ true → ⊥
        by true e = absurd (cc e)
        by false e = absurd (cc e)
    listed true took event e = absurd (cc e)
    listed false took event e = absurd (cc e)

    at : Passes (λ (e : Entry). party_eq party e.party && is_epoch_put put e.event && stood e.answer) history → put ≤ epoch
    at found = all_at (λ n. n ≤ epoch) (put_epochs history) put h.up_to
        (in_flat (λ (e : Entry). epoch_in (stood e.answer) e.event) history found.element put found.there (listed (party_eq party found.element.party) (stood found.element.answer) found.element.event found.passes))

quiet_epoch : (took : Bool) (epoch job : ℕ) → IsQuietFor took (PutRecords (RecordsEpoch epoch)) job
quiet_epoch true epoch job = record { beats = refl; beaten = refl; joins = refl }
quiet_epoch false epoch job = record { beats = refl; beaten = refl; joins = refl }

-- A lawful put of an epoch into the records that takes effect keeps the invariant.
pub records_epochs_keep : (merge : Operator) (epoch : ℕ) → StandingPutKeeps merge (RecordsEpoch epoch)
records_epochs_keep merge put line party answer world epoch jobs took k names fits =
    let entry : Entry = record { line = line; party = party; event = PutRecords (RecordsEpoch put); answer = answer } in
    let w = whole_of merge world k in
    let b = w.body in
    let specs = k.stored.replay.specs in
    let same : stored_jobs world.store ≡ jobs = sym (fits.makes_jobs ∙ b.trimmed_already) in
    let low : put ≤ world.store.manifest.epoch = put_epoch_low world.store.manifest.epoch put party world.store.history b.epochs fits.fits.by in
    keeps_of merge (with_records world (record { version = records_version world.store.records + 1; epoch = epoch; jobs = jobs }) entry) specs (record {
      body = body_with_records merge world specs (record { version = records_version world.store.records + 1; epoch = epoch; jobs = jobs }) line party (RecordsEpoch put) answer took
          (record {
            objects = objects_after world specs line party (RecordsEpoch put) answer fits.unrecorded (records_version world.store.records) epoch jobs took refl fits.makes_jobs fits.makes_epoch tt;
            job_ids = rw (← same) b.sound.job_ids;
            epochs = rw fits.makes_epoch low;
            held_once = rw (← same) b.held_once;
            name_apart = rw (← same) b.name_apart;
            trimmed_already = rw (← same) b.trimmed_already;
            agrees = tt;
            drawn = tt;
            later = λ a up. (named_grows world.store.history entry a.0 up.0, rw (← same) up.1);
            own = tt;
            once = rw append-nil b.once;
            jobs = subst (λ (js : Jobs). AllByRecursion (JobKept merge (with_records world (record { version = records_version world.store.records + 1; epoch = epoch; jobs = jobs }) entry) specs) js) same (all_to _ _ (stored_jobs world.store) (λ job there kept. kept_quiet merge world specs (record { version = records_version world.store.records + 1; epoch = epoch; jobs = jobs }) entry job b (quiet_epoch (stood answer) put job.id) there kept) b.jobs);
          }) b;
      draws = draws_mute world.store.jobs_drawn world.store.tables_drawn world.store.history entry refl refl w.draws;
      puts = puts_kept world.store.history entry world.store.tables (table_none (stood answer) entry.event refl) (rw took tt) w.puts;
    })
