-- A job whose attempt is finished has outputs that are one merge.
use Rattle.std.proofs.Common.{◌≡◌, refl, sym, ◌∙◌, ap, subst, ℕ, ◌<◌, List, [], ◌∷◌, cond, Bool, true, false, inl, inr, Option, Some}
use Rattle.std.specs.Prelude.{IsTrue, ◌==◌, ◌&&◌, ◌||◌, option_map}
use Rattle.std.specs.List.{AllByRecursion, concat}
use Rattle.std.proofs.lemmas.Bool.Decides.{Decides-eqb}
use Rattle.row_model.specs.Lists.{Pairs}
use Rattle.row_model.specs.Fold.{Operator}
use Rattle.row_model.specs.Settings.{Settings}
use Rattle.row_model.specs.JobRows.{job_rows}
use Rattle.fleet_model.specs.Jobs.{Job, Jobs, Scheduled, Running, Compacted, has_status, is_active, changed_jobs, trimmed_jobs, job_with}
use Rattle.fleet_model.specs.History.{Entry}
use Rattle.fleet_model.specs.Store.{Records, stored_jobs, is_held}
use Rattle.fleet_model.specs.Past.Claimed.{settings_of, without_cut}
use Rattle.fleet_model.specs.Work.Attempts.{noted_rows, source_rows}
use Rattle.fleet_model.specs.Invariants.JobsFit.{OutputsFit, OpenedStands, cut_or}
use Rattle.fleet_model.specs.Work.Parties.{Attempt, is_leased_to, is_live, runs_attempt}
use Rattle.fleet_model.specs.Work.Records.{Unrecorded, finished_by}
use Rattle.step_model.specs.Past.{World}
use Rattle.step_model.specs.Kept.Keeps.{Keeps}
use Rattle.step_laws.proofs.Elements.{IsIn, all_at, all_from, all_true_from, contains_in, in_contains}
use Rattle.step_laws.proofs.Bodies.{whole_of}
use Rattle.step_laws.proofs.Changed.{on_these, IsFound, found_job, job_found}
use Rattle.step_laws.proofs.RecordsBodies.{with_records}
use Rattle.rival_laws.proofs.JobsMerged.{StayActive, changed_stay, with_changed}
use Rattle.worker_laws.specs.FinishReports.{IsFinished}
use Rattle.worker_laws.proofs.Live.{IsLive, live_at, live_active}
use Rattle.worker_laws.proofs.Sources.{sources_held}

-- The put of a finish leaves its job as a finished one.
finished_stored : (f : Job → Job) (jobs : Jobs) (job : Job) → ((j : Job) → (f j).id ≡ j.id) → ((j : Job) → IsTrue (is_active (f j))) → Pairs (λ a b. a.id < b.id) jobs → trimmed_jobs jobs ≡ jobs → job_with job.id jobs ≡ Some job
    → IsTrue (is_active job) → job_with job.id (trimmed_jobs (changed_jobs f (job.id ∷ []) jobs)) ≡ Some (f job)
finished_stored f jobs job ids ends rise short stored active =
    ap (job_with job.id) (changed_stay f (job.id ∷ []) jobs stay short) ∙ with_changed f (job.id ∷ []) job.id jobs ids ∙ ap (option_map (on_these f (job.id ∷ []))) stored
    ∙ ap (λ b. Some (cond b (f job) job)) (in_contains (job.id ∷ []) job.id (inl refl))
  where
    some : (one : Job) → Some job ≡ Some one → job ≡ one
    some one e = cc e

    same : (one : Job) → IsIn one jobs → IsIn one.id (job.id ∷ []) → job ≡ one
    same one there (inl e) = some one (sym stored ∙ ap (λ id. job_with id jobs) e ∙ found_job jobs one rise there)
    same one there (inr none) = absurd none

    stay : StayActive f (job.id ∷ []) jobs
    stay = all_from _ jobs (λ one there e. (subst (λ (j : Job). IsTrue (is_active j)) (same one there (contains_in (job.id ∷ []) one.id e)) active, ends one))

-- A live attempt's job is Running, so its sources are held.
pub running : (worker number : ℕ) (job : Job) → IsTrue (runs_attempt worker number (Some job)) → IsTrue (has_status Scheduled job || has_status Running job)
running worker number job runs = by (has_status Scheduled job) (has_status Running job) (is_leased_to worker job.lease) (number == job.attempt) runs
  where
    by : (x y z v : Bool) → IsTrue (y && z && v) → IsTrue (x || y)
    by true y z v h = refl
    by false true z v h = refl
    by false false z v h = absurd (cc h)

-- ---- settings

-- Settings are the same if they are so but for their cut, and both cuts are those that the job kept.
same_settings : (s t : Settings) (kept : Option ℕ) → without_cut s ≡ without_cut t → s.cut ≡ cut_or s.floor kept → t.cut ≡ cut_or t.floor kept → s ≡ t
same_settings s t kept e cut other =
    ap (λ (x : Settings). record x { cut = s.cut }) e ∙ ap (λ (c : ℕ). record t { cut = c }) (cut ∙ ap (λ (x : Settings). cut_or x.floor kept) e ∙ sym other)

-- The job of a live attempt is at its number.
number_run : (worker number : ℕ) (job : Job) → IsTrue (runs_attempt worker number (Some job)) → number ≡ job.attempt
number_run worker number job runs = (Decides-eqb number job.attempt).0 (by (has_status Running job) (is_leased_to worker job.lease) (number == job.attempt) runs)
  where
    by : (x y z : Bool) → (x && y && z) ≡ true → z ≡ true
    by true true z h = h
    by true false z h = absurd (cc h)
    by false y z h = absurd (cc h)

-- ---- the job after the put of a finish

-- The job is finished with these outputs. They have all rows that the settings of the attempt make of its sources.
pub record MergedJob (merge : Operator) (at new : World) (a : Attempt) (u : Unrecorded) (outputs : List (List ℕ)) (k : Keeps merge new) : Type 0 where
  pub finished : IsFinished merge new.store a.job outputs
  pub under : (s : Settings) (sources : List ℕ) → ((job : Job) → job_with a.job (stored_jobs at.store) ≡ Some job → sources ≡ job.source_tables)
      → settings_of new.store.tables k.stored.replay.specs new.store.history a.job a.number ≡ Some (without_cut s) → s.cut ≡ cut_or s.floor u.kept_cut
      → job_rows merge s (source_rows new.store.tables sources) ≡ record { rows = noted_rows new.store.tables (concat outputs); whole = true }

-- After the put of a finish, its job has outputs that are one merge.
pub merged_job : (merge : Operator) (at new : World) (worker : ℕ) (a : Attempt) (u : Unrecorded) (outputs : List (List ℕ)) (records : Records) (entry : Entry) → Keeps merge at → (k : Keeps merge new) → is_live (stored_jobs at.store) worker a ≡ true
    → new ≡ with_records at records entry → stored_jobs new.store ≡ trimmed_jobs (changed_jobs (finished_by worker u outputs) (a.job ∷ []) (stored_jobs at.store)) → MergedJob merge at new a u outputs k
merged_job merge at new worker a u outputs records entry before k live is made = record {
  finished = record {
    job = job;
    stored = stored;
    waits = refl;
    has = refl;
    merged = record { replay = k.stored.replay; settings = fit.settings; claimed = fit.claimed; cut = fit.cut; rows = whole };
  };
  under = λ s sources from claimed cut.
      let both : Some (without_cut s) ≡ Some (without_cut fit.settings) =
      sym claimed ∙ ap (λ (n : ℕ). settings_of new.store.tables k.stored.replay.specs new.store.history a.job n) (number_run worker a.number l.job l.runs)
      ∙ ap (λ (id : ℕ). settings_of new.store.tables k.stored.replay.specs new.store.history id l.job.attempt) (sym was.same) ∙ fit.claimed in
      let same : s ≡ fit.settings = same_settings s fit.settings u.kept_cut (cc both) cut fit.cut in
      ap (λ (x : Settings). job_rows merge x (source_rows new.store.tables sources)) same ∙ ap (λ (xs : List ℕ). job_rows merge fit.settings (source_rows new.store.tables xs)) (from l.job l.stored) ∙ whole;
}
  where
    l : IsLive worker (stored_jobs at.store) a
    l = live_at worker (stored_jobs at.store) a live

    f : Job → Job
    f = finished_by worker u outputs

    job : Job
    job = f l.job

    was : IsFound a.job (stored_jobs at.store) l.job
    was = job_found a.job (stored_jobs at.store) l.job l.stored

    stored : job_with a.job (stored_jobs new.store) ≡ Some job
    stored = ap (job_with a.job) made ∙ subst (λ id. job_with id (trimmed_jobs (changed_jobs f (id ∷ []) (stored_jobs at.store))) ≡ Some job) was.same
        (finished_stored f (stored_jobs at.store) l.job (λ j. refl) (λ j. refl) before.stored.sound.job_ids before.facts.names.trimmed_already (subst (λ id. job_with id (stored_jobs at.store) ≡ Some l.job) (sym was.same) l.stored) (live_active worker a l.job l.runs))

    there : IsIn job (stored_jobs new.store)
    there = (job_found a.job (stored_jobs new.store) job stored).there

    fit : OutputsFit merge new.store k.stored.replay.specs job
    fit = all_at (λ (j : Job). IsTrue (has_status Compacted j) → OutputsFit merge new.store k.stored.replay.specs j) (stored_jobs new.store) job k.stored.outputs there refl

    held : AllByRecursion (λ id. IsTrue (is_held new.store id)) job.source_tables
    held = subst (λ (world : World). AllByRecursion (λ id. IsTrue (is_held world.store id)) l.job.source_tables) (sym is)
        (sources_held merge at before.stored.replay.specs l.job (whole_of merge at before).body ((all_at (OpenedStands at.store) (stored_jobs at.store) l.job before.stored.sources was.there).0 (running worker a.number l.job l.runs)))

    whole : job_rows merge fit.settings (source_rows new.store.tables job.source_tables) ≡ record { rows = noted_rows new.store.tables (concat outputs); whole = true }
    whole = fit.rows (all_true_from (is_held new.store) job.source_tables held)
