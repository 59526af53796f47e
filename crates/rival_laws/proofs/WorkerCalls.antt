-- What notes, deletions, tables and manifests of others leave of a worker's fit.
use Rattle.std.proofs.Common.{◌≡◌, refl, sym, ◌∙◌, ap, subst, ℕ, ◌+◌, List, [], ◌∷◌, ◌++◌, Bool, false, inl, inr, Some, None}
use Rattle.std.specs.Prelude.{IsTrue, IfSome, ◌&&◌, flat_map, if◌then◌else◌}
use Rattle.row_model.specs.Rows.{Row}
use Rattle.row_model.specs.Settings.{Settings}
use Rattle.row_model.specs.Fold.{Operator}
use Rattle.fleet_model.specs.Jobs.{JobSpec, Job, Running, has_status, job_with, contains}
use Rattle.fleet_model.specs.History.{Party, Worker, Event, Entry, stood}
use Rattle.fleet_model.specs.Handles.{tree_tables}
use Rattle.fleet_model.specs.Store.{Manifest, stored_jobs, is_held, AreHeld}
use Rattle.fleet_model.specs.Work.Parties.{Attempt, LiveWorker}
use Rattle.fleet_model.specs.Sweeps.{attempt_tables}
use Rattle.fleet_model.specs.Invariants.JobsFit.{SettingsFit}
use Rattle.fleet_model.specs.Past.Claimed.{beaten_in, if_earlier, origin}
use Rattle.step_model.specs.Past.{World}
use Rattle.step_model.specs.Entries.{is_claim_of, was_claimed, did_event, party_eq, is_put_of}
use Rattle.step_model.specs.LawfulTables.{MayUse, IsOwnTable}
use Rattle.step_model.specs.Kept.TablesKept.{PutsKept}
use Rattle.step_model.specs.Fits.{AttemptHeld}
use Rattle.step_laws.proofs.Elements.{IsIn, all_to, all_true_front, all_true_from, any_front}
use Rattle.step_laws.proofs.Mute.{IsMute, quiet_for}
use Rattle.step_laws.proofs.Worlds.{beaten_stays, settings_stay, ranges_stay}
use Rattle.step_laws.proofs.Alike.{settings_same}
use Rattle.step_laws.proofs.Grown.{drawn_table_grows}
use Rattle.step_laws.proofs.Bodies.{Body}
use Rattle.step_laws.proofs.Held.{held_grows, rows_stay}
use Rattle.step_laws.proofs.MuteBodies.{entered, faithful_before}
use Rattle.step_laws.proofs.TableBodies.{with_table, same_with_table, faithful_without_table}
use Rattle.step_laws.proofs.ManifestEpochs.{no_new_piece}
use Rattle.step_laws.proofs.ManifestBodies.{with_manifest, faithful_before_manifest}
use Rattle.rival_laws.proofs.WorkerFollows.{Follows}

-- ---- what grows with the history

pub claim_grows : (history : List Entry) (entry : Entry) (worker job number : ℕ) → IsTrue (was_claimed history worker job number) → IsTrue (was_claimed (history ++ entry ∷ []) worker job number)
claim_grows history entry worker job number h = any_front (λ (e : Entry). is_claim_of worker job number e.event && stood e.answer) history (entry ∷ []) h

pub did_grows : (is : Event → Bool) (party : Party) (history : List Entry) (entry : Entry) → IsTrue (did_event is party history) → IsTrue (did_event is party (history ++ entry ∷ []))
did_grows is party history entry h = any_front (λ (e : Entry). party_eq party e.party && is e.event && stood e.answer) history (entry ∷ []) h

-- The sources of an attempt are those of its stored job.
pub held_sources : (world : World) (n : ℕ) (a : Attempt) (job : Job) → AttemptHeld world n a → job_with a.job (stored_jobs world.store) ≡ Some job → a.sources ≡ job.source_tables
held_sources world n a job h e = subst (λ o. IfSome o (λ (j : Job). a.sources ≡ j.source_tables)) e h.sources

-- An entry that is no heartbeat of the attempt's job leaves its origin.
origin_quiet : (history : List Entry) (entry : Entry) (a : Attempt) → (if stood entry.answer then beaten_in a.job entry.event else None) ≡ None → origin history a.job a.number ≡ origin (history ++ entry ∷ []) a.job a.number
origin_quiet history entry a quiet = sym (ap (if_earlier a.number) (beaten_stays a.job history entry quiet))

-- ---- an entry alone

-- A mute entry leaves all that a worker's fit reads, if the tables of the worker's attempts stay held.
pub follows_entry : (world : World) (w : LiveWorker) (deleted : List ℕ) (jobs_drawn tables_drawn : ℕ) (entry : Entry) → IsMute (stood entry.answer) entry.event
    → ((a : Attempt) → IsIn a w.attempts → AreHeld world.store (attempt_tables a) → AreHeld (record world.store { deleted = deleted }) (attempt_tables a)) → Follows world (entered world deleted jobs_drawn tables_drawn entry) w
follows_entry world w deleted jobs_drawn tables_drawn entry mute held = record {
  grows = λ job number h. claim_grows world.store.history entry w.number job number h;
  faithful = λ specs f. faithful_before world specs deleted jobs_drawn tables_drawn entry f;
  origins = λ a there h. origin_quiet world.store.history entry a (quiet_for _ _ a.job mute.quiet).beaten;
  settings_found = λ specs f a there h s e. settings_stay world.store.tables specs world.store.history entry a.job a.number s (quiet_for _ _ a.job mute.quiet).beaten e;
  ranges_found = λ a there h ranges e. ranges_stay world.store.history entry a.job a.number ranges (quiet_for _ _ a.job mute.quiet).beaten e;
  held = held;
  rows = λ id put. refl;
  jobs = λ a there h job e runs. e;
  sources = λ a there h job e. held_sources world w.number a job h e;
  settings = λ job there runs s fit. fit;
  use_still = λ job there runs t may. still job t may;
}
  where
    still : (job : Job) (t : ℕ) → MayUse (Worker w.number) world job t → MayUse (Worker w.number) (entered world deleted jobs_drawn tables_drawn entry) job t
    still job t (inl old) = inl old
    still job t (inr own) = inr (record { drawn = drawn_table_grows world.store.history entry t own.drawn; put = did_grows (is_put_of t) (Worker w.number) world.store.history entry own.put; unused = own.unused; unnamed = own.unnamed })

-- ---- a table

-- A new table leaves all that a worker's fit reads.
pub follows_table : (world : World) (w : LiveWorker) (new : ℕ × List Row) → PutsKept world.store.history world.store.tables → Follows world (with_table world new) w
follows_table world w new puts = record {
  grows = λ job number h. h;
  faithful = λ specs f. faithful_without_table world new specs puts f;
  origins = λ a there h. refl;
  settings_found = λ specs f a there h s e. settings_same (world.store.tables ++ new ∷ []) world.store.tables specs specs world.store.history a.job a.number (same_with_table world new specs puts) refl ∙ e;
  ranges_found = λ a there h ranges e. e;
  held = λ a there held. all_true_from (is_held (with_table world new).store) (attempt_tables a) (all_to _ _ (attempt_tables a) (λ id one it. held_grows world.store new id it) (all_true_front (is_held world.store) (attempt_tables a) held));
  rows = λ id put. rows_stay world.store.tables new id put;
  jobs = λ a there h job e runs. e;
  sources = λ a there h job e. held_sources world w.number a job h e;
  settings = λ job there runs s fit. fit;
  use_still = λ job there runs t may. still job t may;
}
  where
    still : (job : Job) (t : ℕ) → MayUse (Worker w.number) world job t → MayUse (Worker w.number) (with_table world new) job t
    still job t (inl old) = inl old
    still job t (inr own) = inr (record { drawn = own.drawn; put = own.put; unused = own.unused; unnamed = own.unnamed })

-- ---- a manifest

-- What a new manifest leaves of Running jobs: settings that fit, and tables that no node holds.
pub record ManifestSpares (world : World) (manifest : Manifest) (worker : ℕ) : Type 0 where
  pub settings : (job : Job) → IsIn job (stored_jobs world.store) → IsTrue (has_status Running job) → (s : Settings) → SettingsFit world.store.manifest job.spec s → SettingsFit manifest job.spec s
  pub tables : (job : Job) → IsIn job (stored_jobs world.store) → IsTrue (has_status Running job) → (t : ℕ) → IsOwnTable (Worker worker) world job.id t → contains (flat_map tree_tables manifest.trees) t ≡ false

-- The next manifest leaves all that a worker's fit reads, if it spares the settings and the tables of Running jobs.
pub follows_manifest : (merge : Operator) (world : World) (specs : ℕ → JobSpec) (w : LiveWorker) (manifest : Manifest) (entry : Entry) → Body merge world specs → manifest.version ≡ world.store.manifest.version + 1
    → ((job : ℕ) → (if stood entry.answer then beaten_in job entry.event else None) ≡ None) → ManifestSpares world manifest w.number → Follows world (with_manifest world manifest entry) w
follows_manifest merge world specs w manifest entry b next quiet spares = record {
  grows = λ job number h. claim_grows world.store.history entry w.number job number h;
  faithful = λ others f. faithful_before_manifest merge world specs others manifest entry b next f;
  origins = λ a there h. origin_quiet world.store.history entry a (quiet a.job);
  settings_found = λ others f a there h s e. settings_stay world.store.tables others world.store.history entry a.job a.number s (quiet a.job) e;
  ranges_found = λ a there h ranges e. ranges_stay world.store.history entry a.job a.number ranges (quiet a.job) e;
  held = λ a there held. held;
  rows = λ id put. refl;
  jobs = λ a there h job e runs. e;
  sources = λ a there h job e. held_sources world w.number a job h e;
  settings = spares.settings;
  use_still = λ job there runs t may. still job there runs t may;
}
  where
    still : (job : Job) → IsIn job (stored_jobs world.store) → IsTrue (has_status Running job) → (t : ℕ) → MayUse (Worker w.number) world job t → MayUse (Worker w.number) (with_manifest world manifest entry) job t
    still job there runs t (inl old) = inl old
    still job there runs t (inr own) = inr (record {
      drawn = drawn_table_grows world.store.history entry t own.drawn;
      put = did_grows (is_put_of t) (Worker w.number) world.store.history entry own.put;
      unused = no_new_piece world.past manifest t (spares.tables job there runs t own) own.unused;
      unnamed = own.unnamed;
    })
