-- What describes its tables does so with fewer jobs.
use Rattle.std.proofs.Common.{Bool, true, false, cond, List, [], ◌∷◌, ◌++◌}
use Rattle.std.specs.Prelude.{flat_map}
use Rattle.std.specs.List.{AllByRecursion}
use Rattle.fleet_model.specs.Store.{Store}
use Rattle.fleet_jobs.specs.Parts.JobParts.{JobParts}
use Rattle.fleet_jobs.specs.Jobs.{is_open, job_handles}
use Rattle.fleet_book.specs.Records.{kept_records, over_later}
use Rattle.fleet_store.specs.Handles.{IsDescribed}
use Rattle.fleet_store.specs.Records.{DescribeTables}

module _ {A : Type 0} (P : A → Type 0) where
  back_part : (xs ys : List A) → AllByRecursion P (xs ++ ys) → AllByRecursion P ys
  back_part [] ys all = all
  back_part (x ∷ xs) ys all = back_part xs ys all.1

  other_back : (xs ys zs : List A) → AllByRecursion P (xs ++ ys) → (AllByRecursion P ys → AllByRecursion P zs) → AllByRecursion P (xs ++ zs)
  other_back [] ys zs all rest = rest all
  other_back (x ∷ xs) ys zs all rest = (all.0, other_back xs ys zs all.1 rest)

-- What describes its tables does so with fewer jobs.
pub kept_describe : (jobs : List JobParts) (store : Store) → DescribeTables jobs store → DescribeTables (kept_records jobs) store
kept_describe [] store all = tt
kept_describe (job ∷ jobs) store all = by (is_open job) (over_later jobs) (kept_describe jobs store)
  where
    keep : (DescribeTables jobs store → DescribeTables (kept_records jobs) store) → DescribeTables (job ∷ kept_records jobs) store
    keep rest = other_back (IsDescribed store.tables) (job_handles job) (flat_map job_handles jobs) (flat_map job_handles (kept_records jobs)) all rest

    by : (b later : Bool) → (DescribeTables jobs store → DescribeTables (kept_records jobs) store)
        → DescribeTables (cond b (job ∷ kept_records jobs) (cond later (kept_records jobs) (job ∷ kept_records jobs))) store
    by true later rest = keep rest
    by false true rest = rest (back_part (IsDescribed store.tables) (job_handles job) (flat_map job_handles jobs) all)
    by false false rest = keep rest
