-- The records that the end of a job puts are the model's.
use Rattle.std.proofs.Common.{◌≡◌, refl, sym, ◌∙◌, ap, subst, ℕ, ◌<◌, Bool, true, false, cond, List, [], ◌∷◌, ◌++◌}
use Rattle.std.specs.Prelude.{◌==◌, map, flat_map}
use Rattle.std.specs.List.{AllByRecursion}
use Rattle.fleet_model.specs.Jobs.{changed_jobs, contains, trimmed_jobs}
use Rattle.fleet_model.specs.Work.Records.{finished_by}
use Rattle.fleet_model.specs.Store.{Store}
use Rattle.fleet_tree.specs.declared.handle.SsTableHandle.{SsTableHandle}
use Rattle.fleet_jobs.specs.Contexts.{table_ids}
use Rattle.fleet_jobs.specs.Parts.JobParts.{JobParts}
use Rattle.fleet_jobs.specs.Jobs.{job_handles, job_of, jobs_of}
use Rattle.fleet_book.specs.Records.{AreRising, kept_records}
use Rattle.fleet_book.specs.declared.compactions.Compactions.{Compactions}
use Rattle.fleet_store.specs.Handles.{IsDescribed}
use Rattle.fleet_store.specs.Records.{DescribeTables}
use Rattle.fleet_store.proofs.Described.{kept_describe}
use Rattle.fleet_finish.specs.Puts.{AreShown, EndsRecords, Outputs, compacted_record, ended_record, unrecorded_of}
use Rattle.fleet_finish.specs.declared.put.EndedAttempt.{EndedAttempt}

-- ---- lists

joined : {A : Type 0} (P : A → Type 0) (xs ys : List A) → AllByRecursion P xs → AllByRecursion P ys → AllByRecursion P (xs ++ ys)
joined P [] ys all rest = rest
joined P (x ∷ xs) ys all rest = (all.0, joined P xs ys all.1 rest)

front : {A : Type 0} (P : A → Type 0) (xs ys : List A) → AllByRecursion P (xs ++ ys) → AllByRecursion P xs
front P [] ys all = tt
front P (x ∷ xs) ys all = (all.0, front P xs ys all.1)

back : {A : Type 0} (P : A → Type 0) (xs ys : List A) → AllByRecursion P (xs ++ ys) → AllByRecursion P ys
back P [] ys all = all
back P (x ∷ xs) ys all = back P xs ys all.1

flat : (P : SsTableHandle → Type 0) (outputs : Outputs) → AllByRecursion (λ tables. AllByRecursion P tables) outputs → AllByRecursion P (flat_map (λ tables. tables) outputs)
flat P [] all = tt
flat P (tables ∷ outputs) all = joined P tables (flat_map (λ tables. tables) outputs) all.0 (flat P outputs all.1)

-- ---- the jobs

module _ (attempt : EndedAttempt) (outputs : Outputs) where
  abbrev ended : JobParts → JobParts
  ended = ended_record attempt outputs

  same_id : (job : JobParts) → (ended job).id ≡ job.id
  same_id job = by (attempt.job == job.id)
    where
      by : (b : Bool) → (cond b (compacted_record attempt outputs job) job).id ≡ job.id
      by true = refl
      by false = refl

  abbrev finished : List (List ℕ)
  finished = map table_ids outputs

  model_job : (job : JobParts) → job_of (ended job) ≡ cond (contains (attempt.job ∷ []) job.id) (finished_by attempt.worker (unrecorded_of attempt) finished (job_of job)) (job_of job)
  model_job job = by (attempt.job == job.id)
    where
      by : (b : Bool) → job_of (cond b (compacted_record attempt outputs job) job) ≡ cond (cond b true false) (finished_by attempt.worker (unrecorded_of attempt) finished (job_of job)) (job_of job)
      by true = refl
      by false = refl

  model_jobs : (jobs : List JobParts) → jobs_of (map ended jobs) ≡ changed_jobs (finished_by attempt.worker (unrecorded_of attempt) finished) (attempt.job ∷ []) (jobs_of jobs)
  model_jobs [] = refl
  model_jobs (job ∷ jobs) = rw (model_job job, model_jobs jobs) refl

  described_jobs : (store : Store) → AreShown outputs store → (jobs : List JobParts) → DescribeTables jobs store → DescribeTables (map ended jobs) store
  described_jobs store shown [] all = tt
  described_jobs store shown (job ∷ jobs) all =
      joined (IsDescribed store.tables) (job_handles (ended job)) (flat_map job_handles (map ended jobs)) (by (attempt.job == job.id))
      (described_jobs store shown jobs (back (IsDescribed store.tables) (job_handles job) (flat_map job_handles jobs) all))
    where
      by : (b : Bool) → AllByRecursion (IsDescribed store.tables) (job_handles (cond b (compacted_record attempt outputs job) job))
      by true = flat (IsDescribed store.tables) outputs shown
      by false = front (IsDescribed store.tables) (job_handles job) (flat_map job_handles jobs) all

  pub still_rising : (jobs : List JobParts) → AreRising jobs → AreRising (map ended jobs)
  still_rising [] rise = tt
  still_rising (job ∷ jobs) rise = (subst (λ n. AllByRecursion (λ b. n < b.id) (map ended jobs)) (sym (same_id job)) (above jobs rise.0), still_rising jobs rise.1)
    where
      above : (jobs : List JobParts) → AllByRecursion (λ b. job.id < b.id) jobs → AllByRecursion (λ b. job.id < b.id) (map ended jobs)
      above [] all = tt
      above (other ∷ jobs) all = (rw (same_id other) all.0, above jobs all.1)

  pub ends_records : (old new : Compactions) (put : List JobParts) → put ≡ map ended old.jobs → new.compactor_epoch ≡ old.compactor_epoch → new.jobs ≡ kept_records put → jobs_of new.jobs ≡ trimmed_jobs (jobs_of put)
      → EndsRecords attempt outputs old new
  ends_records old new put is epoch kept trim = record {
    jobs = trim ∙ ap trimmed_jobs (ap jobs_of is ∙ model_jobs old.jobs);
    epoch = epoch;
    described = λ store shown all. subst (λ jobs. DescribeTables jobs store) (sym (kept ∙ ap kept_records is)) (kept_describe (map ended old.jobs) store (described_jobs store shown old.jobs all));
  }
