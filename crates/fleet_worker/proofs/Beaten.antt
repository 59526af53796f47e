-- Records in which leases are renewed.
use Rattle.std.proofs.Common.{◌≡◌, refl, sym, ◌∙◌, ap, subst, ℕ, ◌==◌, ◌&&◌, Bool, true, false, cond, not, map, List, [], ◌∷◌, Option, Some, None, option_map}
use Rattle.std.specs.Prelude.{filter, flat_map, is_some, IfSome}
use Rattle.std.specs.List.{AllByRecursion}
use Rattle.std.proofs.lemmas.Cmp.{nat_eq_equiv}
use Rattle.fleet_model.specs.Exchanges.{PutsRecords}
use Rattle.fleet_model.specs.History as model
use Rattle.fleet_model.specs.Jobs.{Jobs, changed_jobs, contains, trimmed_jobs}
use Rattle.fleet_model.specs.Work.Parties.{Attempt, attempt_at, attempt_jobs, is_live, named_attempts}
use Rattle.fleet_model.specs.Work.Records.{Unrecorded, beaten_by, firsts, jobs_after}
use Rattle.fleet_model.specs.Store.{Store}
use Rattle.step_model.specs.Steps.BeatSteps as step
use Rattle.step_model.specs.Steps.BeatSteps.{Beaten, beat_by, beat_of, beat_report, published_by}
use Rattle.step_model.specs.Courses.Course.{Course, Ends}
use Rattle.step_model.specs.Courses.StepEnds.{StepEnd, Reports}
use Rattle.fleet_plan.specs.Parts.{Part}
use Rattle.fleet_tree.specs.declared.handle.SsTableHandle.{SsTableHandle}
use Rattle.fleet_jobs.specs.Contexts.{ranges_in}
use Rattle.fleet_jobs.specs.Parts.JobParts.{JobParts}
use Rattle.fleet_jobs.specs.Jobs.{job_handles, job_of, jobs_of}
use Rattle.fleet_book.specs.Records.{kept_records}
use Rattle.fleet_book.specs.VersionedRecords.{VersionedRecords}
use Rattle.fleet_book.specs.Versions.{records_of}
use Rattle.fleet_book.specs.declared.compactions.Compactions.{Compactions}
use Rattle.fleet_history.specs.declared.record_change.RecordChange.TheVariants as change
use Rattle.fleet_store.specs.Exchanges.{records_put}
use Rattle.fleet_store.specs.Handles.{IsDescribed}
use Rattle.fleet_store.specs.Records.{DescribeTables}
use Rattle.fleet_store.proofs.Described.{kept_describe}
use Rattle.fleet_worker.specs.declared.beat.BeatPut.{BeatPut}
use Rattle.fleet_worker.specs.declared.beat.BeatReport.{BeatReport}
use Rattle.fleet_worker.specs.Beats.{BeatenRecords, Beats, IsBeatOf, IsBeatPut, IsReport, beat_ends_over, beaten_record, beaten_with, live_at, live_parts}
use Rattle.fleet_worker.specs.Releases.{live_among}
use Rattle.fleet_step.specs.Steps.{puts_and}
use Rattle.fleet_worker.specs.Workers.{AreNoted, AttemptParts, IsNoted, WorkerParts, attempt_of, live_of}
use Rattle.fleet_claim.proofs.Lists.{filter_changed}
use Rattle.step_laws.proofs.Elements.{all_append, all_back, all_front}

-- ---- lists

jobs_are : (xs : List AttemptParts) → map (λ a. a.job) xs ≡ attempt_jobs (map attempt_of xs)
jobs_are [] = refl
jobs_are (a ∷ xs) = ap (λ jobs. a.job ∷ jobs) (jobs_are xs)

no_jobs : (live : List Attempt) → attempt_jobs live ≡ [] → live ≡ []
no_jobs [] e = refl
no_jobs (a ∷ live) e = absurd (cc e)

all_ranges : (P : SsTableHandle → Type 0) (ranges : List Part) → AllByRecursion (λ part. AllByRecursion P part.output_ssts) ranges → AllByRecursion P (flat_map (λ part. part.output_ssts) ranges)
all_ranges P [] all = tt
all_ranges P (part ∷ ranges) all = all_append P part.output_ssts _ all.0 (all_ranges P ranges all.1)

-- ---- the live attempt at a job

module _ (jobs : List JobParts) (worker : ℕ) where
  abbrev lives : Attempt → Bool
  lives a = is_live (jobs_of jobs) worker a

  abbrev LIVE : List AttemptParts → List Attempt
  LIVE xs = live_among jobs worker xs

  -- The live attempts name a job exactly if one of them is at it.
  named_at : (xs : List AttemptParts) (id : ℕ) → contains (firsts (named_attempts (LIVE xs))) id ≡ is_some (live_at jobs worker xs id)
  named_at [] id = refl
  named_at (x ∷ xs) id = by (lives (attempt_of x)) (named_at xs id)
    where
      here : (e : Bool) (C : Bool) (F : Option AttemptParts) → C ≡ is_some F → cond e true C ≡ is_some (cond (e && true) (Some x) F)
      here true C F rest = refl
      here false C F rest = rest

      not_here : (e : Bool) (C : Bool) (F : Option AttemptParts) → C ≡ is_some F → C ≡ is_some (cond (e && false) (Some x) F)
      not_here true C F rest = rest
      not_here false C F rest = rest

      by : (l : Bool) → contains (firsts (named_attempts (LIVE xs))) id ≡ is_some (live_at jobs worker xs id)
          → contains (firsts (named_attempts (cond l (attempt_of x ∷ LIVE xs) (LIVE xs)))) id ≡ is_some (cond ((x.job == id) && l) (Some x) (live_at jobs worker xs id))
      by true rest = here (x.job == id) _ _ rest
      by false rest = not_here (x.job == id) _ _ rest

  -- The attempt at a job among the live ones is the worker's live attempt at it.
  found_at : (xs : List AttemptParts) (id : ℕ) → attempt_at id (LIVE xs) ≡ option_map attempt_of (live_at jobs worker xs id)
  found_at [] id = refl
  found_at (x ∷ xs) id = by (lives (attempt_of x)) (found_at xs id)
    where
      here : (e : Bool) (C : Option Attempt) (F : Option AttemptParts) → C ≡ option_map attempt_of F → cond e (Some (attempt_of x)) C ≡ option_map attempt_of (cond (e && true) (Some x) F)
      here true C F rest = refl
      here false C F rest = rest

      not_here : (e : Bool) (C : Option Attempt) (F : Option AttemptParts) → C ≡ option_map attempt_of F → C ≡ option_map attempt_of (cond (e && false) (Some x) F)
      not_here true C F rest = rest
      not_here false C F rest = rest

      by : (l : Bool) → attempt_at id (LIVE xs) ≡ option_map attempt_of (live_at jobs worker xs id)
          → attempt_at id (cond l (attempt_of x ∷ LIVE xs) (LIVE xs)) ≡ option_map attempt_of (cond ((x.job == id) && l) (Some x) (live_at jobs worker xs id))
      by true rest = ap (λ b. cond b (Some (attempt_of x)) (attempt_at id (LIVE xs))) (nat_eq_equiv.symm id x.job) ∙ here (x.job == id) _ _ rest
      by false rest = not_here (x.job == id) _ _ rest

  -- Its tables are described.
  noted_at : (store : Store) (xs : List AttemptParts) (id : ℕ) → AreNoted xs store → IfSome (live_at jobs worker xs id) (IsNoted store)
  noted_at store [] id noted = tt
  noted_at store (x ∷ xs) id noted = by ((x.job == id) && lives (attempt_of x)) noted.0 (noted_at store xs id noted.1)
    where
      by : (b : Bool) → IsNoted store x → IfSome (live_at jobs worker xs id) (IsNoted store) → IfSome (cond b (Some x) (live_at jobs worker xs id)) (IsNoted store)
      by true here rest = here
      by false here rest = rest

  -- ---- the jobs

  module _ (moment : ℕ) (xs : List AttemptParts) where
    abbrev beat_job : JobParts → JobParts
    beat_job job = beaten_record worker moment (live_at jobs worker xs job.id) job

    abbrev unrecorded : Unrecorded
    unrecorded = record { moment = moment; published = published_by (LIVE xs); kept_cut = None; tables_of = λ spec. [] }

    pub same_id : (job : JobParts) → (beat_job job).id ≡ job.id
    same_id job = by (live_at jobs worker xs job.id)
      where
        by : (o : Option AttemptParts) → (beaten_record worker moment o job).id ≡ job.id
        by None = refl
        by (Some a) = refl

    one_job : (job : JobParts) → job_of (beat_job job) ≡ cond (contains (firsts (named_attempts (LIVE xs))) job.id) (beaten_by worker unrecorded (job_of job)) (job_of job)
    one_job job = rw (named_at xs job.id, found_at xs job.id) (by (live_at jobs worker xs job.id))
      where
        by : (o : Option AttemptParts)
            → job_of (beaten_record worker moment o job) ≡ cond (is_some o) (record (job_of job) { lease = Some (record { worker = worker; heartbeat = moment }); context = step.context_of (option_map attempt_of o) }) (job_of job)
        by None = refl
        by (Some a) = refl

    model_jobs : (js : List JobParts) → jobs_of (map beat_job js) ≡ changed_jobs (beaten_by worker unrecorded) (firsts (named_attempts (LIVE xs))) (jobs_of js)
    model_jobs [] = refl
    model_jobs (job ∷ js) = rw (one_job job, model_jobs js) refl

    describe_jobs : (store : Store) → AreNoted xs store → (js : List JobParts) → DescribeTables js store → DescribeTables (map beat_job js) store
    describe_jobs store noted [] all = tt
    describe_jobs store noted (job ∷ js) all =
        all_append (IsDescribed store.tables) (job_handles (beat_job job)) _
        (by (live_at jobs worker xs job.id) (noted_at store xs job.id noted) (all_front (IsDescribed store.tables) (job_handles job) _ all))
        (describe_jobs store noted js (all_back (IsDescribed store.tables) (job_handles job) _ all))
      where
        by : (o : Option AttemptParts) → IfSome o (IsNoted store) → AllByRecursion (IsDescribed store.tables) (job_handles job)
            → AllByRecursion (IsDescribed store.tables) (job_handles (beaten_record worker moment o job))
        by None noted all = all
        by (Some a) noted all =
            all_append (IsDescribed store.tables) (flat_map (λ part. part.output_ssts) a.ctx.ranges) _ (all_ranges (IsDescribed store.tables) a.ctx.ranges noted.noted)
            (all_back (IsDescribed store.tables) (flat_map (λ part. part.output_ssts) (ranges_in job.ctx)) _ all)

-- ---- the report, and the course

module _ (moment : ℕ) (w : WorkerParts) (jobs : List JobParts) (report : BeatReport) (is : IsReport w jobs report) where
  report_is : beat_report (live_of w) (jobs_of jobs) ≡ beaten_with (live_parts jobs w.number w.attempts) report
  report_is =
      let p = is_live (jobs_of jobs) w.number in
      rw (is.beat_is, is.lost_is, jobs_are (live_parts jobs w.number w.attempts), jobs_are (filter (λ a. not (p (attempt_of a))) w.attempts), filter_changed p attempt_of w.attempts, filter_changed (λ a. not (p a)) attempt_of w.attempts) refl

  live_none : report.beat ≡ [] → live_among jobs w.number w.attempts ≡ []
  live_none none = no_jobs (live_among jobs w.number w.attempts) (ap attempt_jobs (filter_changed (is_live (jobs_of jobs) w.number) attempt_of w.attempts) ∙ (sym (jobs_are (live_parts jobs w.number w.attempts)) ∙ (sym is.beat_is ∙ none)))

-- There are no records.
pub beats_none : (moment : ℕ) (w : WorkerParts) (report : BeatReport) → IsReport w [] report → IsBeatOf moment w None report None
beats_none moment w report is again = ap (λ r. Ends (Reports r)) (report_is moment w [] report is)

module _ (moment : ℕ) (w : WorkerParts) (got : VersionedRecords) (report : BeatReport) (is : IsReport w got.compactions.jobs report) where
  ends : Ends (Reports (beat_report (live_of w) (jobs_of got.compactions.jobs))) ≡ Ends (beat_ends_over w (report, Some got))
  ends = ap (λ r. Ends (Reports r)) (report_is moment w got.compactions.jobs report is)

  -- No attempt is live.
  pub beats_nobody : report.beat ≡ [] → IsBeatOf moment w (Some got) report None
  beats_nobody none again = ap (λ live. beat_of moment (live_of w) (records_of got) live again) (live_none moment w got.compactions.jobs report is none) ∙ ends

  same_put : (v v' : ℕ) (c c' : model.RecordChange) (e e' : ℕ) (j j' : Jobs) (r r' : Course (StepEnd Beaten)) (again : ℕ → Course (StepEnd Beaten)) → v ≡ v' → c ≡ c' → e ≡ e' → j ≡ j' → r ≡ r'
      → puts_and (PutsRecords v c e j) v r again ≡ puts_and (PutsRecords v' c' e' j') v' r' again
  same_put v v' c c' e e' j j' r r' again a b x y z = rw (a, b, x, y, z) refl

  -- The put renews the leases.
  pub beats_by : (report.beat ≡ [] → ⊥) → (put : BeatPut) → IsBeatPut moment w got put → Beats moment w (Some got) report put
  beats_by some put puts = record {
    next = λ again. by (live_among got.compactions.jobs w.number w.attempts) refl again;
    described = λ store all noted.
        subst (λ jobs. DescribeTables jobs store) (sym (puts.made.kept ∙ ap kept_records puts.made.each))
        (kept_describe (map (beat_job got.compactions.jobs w.number moment w.attempts) got.compactions.jobs) store (describe_jobs got.compactions.jobs w.number moment w.attempts store noted got.compactions.jobs all));
  }
    where
      made : jobs_of put.value.jobs ≡ trimmed_jobs (changed_jobs (beaten_by w.number (unrecorded got.compactions.jobs w.number moment w.attempts)) (firsts (named_attempts (live_among got.compactions.jobs w.number w.attempts))) (jobs_of got.compactions.jobs))
      made = puts.made.trim ∙ ap trimmed_jobs (ap jobs_of puts.made.each ∙ model_jobs got.compactions.jobs w.number moment w.attempts got.compactions.jobs)

      by : (live : List Attempt) → live ≡ live_among got.compactions.jobs w.number w.attempts → (again : ℕ → Course (StepEnd Beaten))
          → beat_of moment (live_of w) (records_of got) live again ≡ puts_and (records_put put.version put.value put.why) put.version (Ends (beat_ends_over w (report, Some got))) again
      by [] e again = absurd (some (is.beat_is ∙ (jobs_are (live_parts got.compactions.jobs w.number w.attempts) ∙ ap attempt_jobs (sym (filter_changed (is_live (jobs_of got.compactions.jobs) w.number) attempt_of w.attempts) ∙ sym e))))
      by (a ∷ live) e again =
          same_put _ _ _ _ _ _ _ _ _ _ again (sym puts.at) (ap (λ l. model.Beat w.number (named_attempts l)) e ∙ sym puts.why) (sym puts.made.epoch)
          (ap (λ l. jobs_after (record { moment = moment; published = published_by l; kept_cut = None; tables_of = λ spec. [] }) (model.Beat w.number (named_attempts l)) (jobs_of got.compactions.jobs)) e ∙ sym made) ends

-- The put that was made of these parts.
pub beat_put_is : (moment : ℕ) (w : WorkerParts) (got : VersionedRecords) (number : ℕ) (attempts : List AttemptParts) (version : ℕ) (live : List (ℕ × ℕ)) (value : Compactions) → number ≡ w.number → attempts ≡ w.attempts → version ≡ got.id
    → live ≡ named_attempts (live_among got.compactions.jobs number attempts) → BeatenRecords number moment attempts got.compactions value → IsBeatPut moment w got (record { version = version; value = value; why = change.Beat number live })
beat_put_is moment w got number attempts version live value at of is are made = record {
  at = is;
  why = ap (λ l. model.Beat number l) are ∙ by;
  made = subst (λ n. BeatenRecords n moment w.attempts got.compactions value) at (subst (λ a. BeatenRecords number moment a got.compactions value) of made);
}
  where
    by : model.Beat number (named_attempts (live_among got.compactions.jobs number attempts)) ≡ model.Beat w.number (named_attempts (live_among got.compactions.jobs w.number w.attempts))
    by = ap (λ n. model.Beat n (named_attempts (live_among got.compactions.jobs n attempts))) at ∙ ap (λ a. model.Beat w.number (named_attempts (live_among got.compactions.jobs w.number a))) of
