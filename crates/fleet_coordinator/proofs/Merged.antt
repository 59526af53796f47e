-- The jobs that a poll merges describe no other tables than its own jobs and the newer ones.
use Rattle.std.proofs.Common.{Bool, true, false, cond, List, [], ◌∷◌, ◌++◌}
use Rattle.std.specs.Prelude.{◌==◌, nat_lt, flat_map}
use Rattle.std.specs.List.{AllByRecursion}
use Rattle.fleet_model.specs.Store.{Store}
use Rattle.fleet_jobs.specs.Parts.JobParts.{JobParts}
use Rattle.fleet_jobs.specs.Jobs.{job_handles}
use Rattle.fleet_book.specs.Records.{put_record, record_with}
use Rattle.fleet_book.specs.States.{merged_jobs, takes, with_stored}
use Rattle.fleet_store.specs.Handles.{IsDescribed}
use Rattle.fleet_store.specs.Records.{DescribeTables}

module _ {A : Type 0} (P : A → Type 0) where
  joined : (xs ys : List A) → AllByRecursion P xs → AllByRecursion P ys → AllByRecursion P (xs ++ ys)
  joined [] ys all rest = rest
  joined (x ∷ xs) ys all rest = (all.0, joined xs ys all.1 rest)

  front : (xs ys : List A) → AllByRecursion P (xs ++ ys) → AllByRecursion P xs
  front [] ys all = tt
  front (x ∷ xs) ys all = (all.0, front xs ys all.1)

  back : (xs ys : List A) → AllByRecursion P (xs ++ ys) → AllByRecursion P ys
  back [] ys all = all
  back (x ∷ xs) ys all = back xs ys all.1

module _ (store : Store) where
  -- A job describes its tables.
  abbrev Describes : JobParts → Type 0
  Describes job = AllByRecursion (IsDescribed store.tables) (job_handles job)

  by_job : (jobs : List JobParts) → DescribeTables jobs store → AllByRecursion Describes jobs
  by_job [] all = tt
  by_job (job ∷ jobs) all =
      (front (IsDescribed store.tables) (job_handles job) (flat_map job_handles jobs) all, by_job jobs (back (IsDescribed store.tables) (job_handles job) (flat_map job_handles jobs) all))

  of_jobs : (jobs : List JobParts) → AllByRecursion Describes jobs → DescribeTables jobs store
  of_jobs [] all = tt
  of_jobs (job ∷ jobs) all = joined (IsDescribed store.tables) (job_handles job) (flat_map job_handles jobs) all.0 (of_jobs jobs all.1)

  put_all : (new : JobParts) (jobs : List JobParts) → Describes new → AllByRecursion Describes jobs → AllByRecursion Describes (put_record new jobs)
  put_all new [] one all = (one, tt)
  put_all new (job ∷ jobs) one all = by (nat_lt job.id new.id) (job.id == new.id) (put_all new jobs one all.1)
    where
      by : (low same : Bool) → AllByRecursion Describes (put_record new jobs) → AllByRecursion Describes (cond low (job ∷ put_record new jobs) (cond same (new ∷ jobs) (new ∷ job ∷ jobs)))
      by true same rest = (all.0, rest)
      by false true rest = (one, all.1)
      by false false rest = (one, all)

  merged_all : (jobs stored : List JobParts) → AllByRecursion Describes jobs → AllByRecursion Describes stored → AllByRecursion Describes (merged_jobs jobs stored)
  merged_all jobs [] all news = all
  merged_all jobs (new ∷ stored) all news = merged_all (with_stored jobs new) stored (by (takes (record_with new.id jobs) new)) news.1
    where
      by : (b : Bool) → AllByRecursion Describes (cond b (put_record new jobs) jobs)
      by true = put_all new jobs news.0 all
      by false = all

  pub merged_describe : (jobs stored : List JobParts) → DescribeTables jobs store → DescribeTables stored store → DescribeTables (merged_jobs jobs stored) store
  merged_describe jobs stored all news = of_jobs (merged_jobs jobs stored) (merged_all jobs stored (by_job jobs all) (by_job stored news))
