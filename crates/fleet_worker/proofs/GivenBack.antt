-- Records in which jobs are given back.
use Rattle.std.proofs.Common.{◌≡◌, refl, sym, ◌∙◌, ap, subst, ℕ, Bool, true, false, cond, List, [], ◌∷◌}
use Rattle.std.specs.Prelude.{map, flat_map, Some, None}
use Rattle.std.specs.List.{AllByRecursion}
use Rattle.fleet_model.specs.Jobs.{Jobs, changed_jobs, contains, trimmed_jobs}
use Rattle.fleet_model.specs.History as model
use Rattle.fleet_model.specs.Work.Records.{firsts, to_waiting}
use Rattle.fleet_jobs.specs.Parts.JobParts.{JobParts}
use Rattle.fleet_jobs.specs.Jobs.{job_handles, job_of, jobs_of}
use Rattle.fleet_book.specs.Records.{AreRising, kept_records}
use Rattle.fleet_book.specs.declared.compactions.Compactions.{Compactions}
use Rattle.fleet_store.specs.Records.{DescribeTables}
use Rattle.fleet_store.proofs.Described.{kept_describe}
use Rattle.fleet_model.specs.Exchanges.{PutsRecords}
use Rattle.fleet_model.specs.Work.Records.{jobs_after}
use Rattle.step_model.specs.Steps.BeatSteps.{release_live}
use Rattle.step_model.specs.Steps.ClaimSteps.{at_moment}
use Rattle.step_model.specs.Courses.Course.{Course}
use Rattle.step_model.specs.Courses.StepEnds.{StepEnd}
use Rattle.fleet_book.specs.VersionedRecords.{VersionedRecords}
use Rattle.fleet_book.specs.Versions.{records_of}
use Rattle.fleet_store.specs.Exchanges.{records_put}
use Rattle.fleet_step.specs.Steps.{puts_and}
use Rattle.fleet_model.specs.Work.Parties.{Attempt, attempt_jobs, named_attempts}
use Rattle.fleet_history.specs.declared.record_change.RecordChange.TheVariants as change
use Rattle.fleet_claim.proofs.Puts.{named_contains}
use Rattle.fleet_claim.proofs.Lists.{rising_map}
use Rattle.fleet_worker.specs.Workers.{AttemptParts, WorkerParts, live_of}
use Rattle.fleet_worker.specs.Releases.{GivesBack, IsReleaseOf, MakesRecords, given_back, is_named, live_among, released_are, waiting_record}

module _ (attempts : List (ℕ × ℕ)) where
  same_id : (job : JobParts) → (given_back attempts job).id ≡ job.id
  same_id job = by (is_named attempts job.id)
    where
      by : (b : Bool) → (cond b (waiting_record job) job).id ≡ job.id
      by true = refl
      by false = refl

  same_handles : (job : JobParts) → job_handles (given_back attempts job) ≡ job_handles job
  same_handles job = by (is_named attempts job.id)
    where
      by : (b : Bool) → job_handles (cond b (waiting_record job) job) ≡ job_handles job
      by true = refl
      by false = refl

  model_job : (job : JobParts) → job_of (given_back attempts job) ≡ cond (contains (firsts attempts) job.id) (to_waiting (job_of job)) (job_of job)
  model_job job = by (is_named attempts job.id) ∙ ap (λ b. cond b (to_waiting (job_of job)) (job_of job)) (named_contains attempts job.id)
    where
      by : (b : Bool) → job_of (cond b (waiting_record job) job) ≡ cond b (to_waiting (job_of job)) (job_of job)
      by true = refl
      by false = refl

  model_jobs : (jobs : List JobParts) → jobs_of (map (given_back attempts) jobs) ≡ changed_jobs to_waiting (firsts attempts) (jobs_of jobs)
  model_jobs [] = refl
  model_jobs (job ∷ jobs) = rw (model_job job, model_jobs jobs) refl

  all_handles : (jobs : List JobParts) → flat_map job_handles (map (given_back attempts) jobs) ≡ flat_map job_handles jobs
  all_handles [] = refl
  all_handles (job ∷ jobs) = rw (same_handles job, all_handles jobs) refl

  pub still_rising : (jobs : List JobParts) → AreRising jobs → AreRising (map (given_back attempts) jobs)
  still_rising = rising_map (given_back attempts) same_id

  pub makes_records : (worker : ℕ) (old new : Compactions) (put : List JobParts) → put ≡ map (given_back attempts) old.jobs → new.compactor_epoch ≡ old.compactor_epoch → new.jobs ≡ kept_records put → jobs_of new.jobs ≡ trimmed_jobs (jobs_of put)
      → MakesRecords old new (model.Release worker attempts)
  makes_records worker old new put is epoch kept trim = record {
    jobs = trim ∙ ap trimmed_jobs (ap jobs_of is ∙ model_jobs old.jobs);
    epoch = epoch;
    described = λ store all.
        subst (λ jobs. DescribeTables jobs store) (sym (kept ∙ ap kept_records is)) (kept_describe (map (given_back attempts) old.jobs) store (subst (AllByRecursion _) (sym (all_handles old.jobs)) all));
  }

-- ---- the put of a release

firsts_named : (live : List Attempt) → firsts (named_attempts live) ≡ attempt_jobs live
firsts_named [] = refl
firsts_named (a ∷ live) = ap (λ jobs. a.job ∷ jobs) (firsts_named live)

-- Equal puts are one course.
same_put : (v v' : ℕ) (c c' : model.RecordChange) (e e' : ℕ) (j j' : Jobs) (r r' : List ℕ) (again : ℕ → Course (StepEnd (List ℕ))) → v ≡ v' → c ≡ c' → e ≡ e' → j ≡ j' → r ≡ r'
    → puts_and (PutsRecords v c e j) v (released_are r) again ≡ puts_and (PutsRecords v' c' e' j') v' (released_are r') again
same_put v v' c c' e e' j j' r r' again a b x y z = rw (a, b, x, y, z) refl

module _ (w : WorkerParts) (number : ℕ) (attempts : List AttemptParts) (named_are : List (ℕ × ℕ)) (at : number ≡ w.number) (of : attempts ≡ w.attempts) where
  -- There are no records.
  pub no_records : IsReleaseOf w None None
  no_records again = refl

  module _ (got : VersionedRecords) (are : named_are ≡ named_attempts (live_among got.compactions.jobs number attempts)) where
    these : named_are ≡ named_attempts (live_among got.compactions.jobs w.number w.attempts)
    these = rw (sym at, sym of) are

    -- No attempt is live.
    pub none_live : named_are ≡ [] → IsReleaseOf w (Some got) None
    none_live none again = by (live_among got.compactions.jobs w.number w.attempts) (sym these ∙ none)
      where
        by : (live : List Attempt) → named_attempts live ≡ [] → release_live (live_of w) (records_of got) live released_are again ≡ released_are []
        by [] e = refl
        by (a ∷ live) e = absurd (cc e)

    -- The put that was made of the live attempts gives them back.
    pub gives_back : (value : Compactions) (version : ℕ) (slice slice' : List (ℕ × ℕ)) (jobs : List ℕ) → (named_are ≡ [] → ⊥) → version ≡ got.id → slice ≡ named_are → MakesRecords got.compactions value (model.Release number slice)
        → slice' ≡ named_are → jobs ≡ firsts slice' → GivesBack w (Some got) (record { version = version; value = value; why = change.Release number named_are; jobs = jobs })
    gives_back value version slice slice' jobs some of_version one made two firsts_are = record {
      next = λ again.
          by (live_among got.compactions.jobs w.number w.attempts) these again
          (ap (λ l. jobs_after (at_moment 0) (model.Release number l) (jobs_of got.compactions.jobs)) one);
      described = made.described;
    }
      where
        by : (live : List Attempt) → named_are ≡ named_attempts live → (again : ℕ → Course (StepEnd (List ℕ)))
            → jobs_after (at_moment 0) (model.Release number slice) (jobs_of got.compactions.jobs) ≡ jobs_after (at_moment 0) (model.Release number named_are) (jobs_of got.compactions.jobs)
            → release_live (live_of w) (records_of got) live released_are again ≡ puts_and (records_put version value (change.Release number named_are)) version (released_are jobs) again
        by [] is again same = absurd (some is)
        by (a ∷ live) is again same =
            same_put _ _ _ _ _ _ _ _ _ _ again (sym of_version) (ap (λ l. model.Release w.number l) (sym is) ∙ ap (λ n. model.Release n named_are) (sym at)) (sym made.epoch)
            (ap (λ l. jobs_after (at_moment 0) (model.Release number l) (jobs_of got.compactions.jobs)) (sym is) ∙ sym (made.jobs ∙ same)) (sym (firsts_are ∙ (ap firsts (two ∙ is) ∙ firsts_named (a ∷ live))))
