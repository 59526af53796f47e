-- What a trim keeps of jobs.
use Rattle.std.proofs.Common.{◌≡◌, refl, sym, ◌∙◌, ap, List, [], ◌∷◌, Bool, true, false, cond, not, ◌||◌}
use Rattle.std.specs.Prelude.{filter}
use Rattle.fleet_jobs.specs.Parts.JobParts.{JobParts}
use Rattle.fleet_jobs.specs.Jobs.{is_open}
use Rattle.fleet_book.specs.Laws.{LastOverJobsAreKept, OpenJobsAreKept, RepeatedTrimsAreIdle, last_of, over_jobs}
use Rattle.fleet_book.specs.Records.{kept_records, over_later}

pub open_jobs_are_kept : OpenJobsAreKept
open_jobs_are_kept [] = refl
open_jobs_are_kept (job ∷ jobs) = by (is_open job) refl (over_later jobs) (open_jobs_are_kept jobs)
  where
    by : (b : Bool) → is_open job ≡ b → (later : Bool) → filter is_open (kept_records jobs) ≡ filter is_open jobs
        → filter is_open (cond b (job ∷ kept_records jobs) (cond later (kept_records jobs) (job ∷ kept_records jobs))) ≡ cond b (job ∷ filter is_open jobs) (filter is_open jobs)
    by true e later rest = ap (λ b. cond b (job ∷ filter is_open (kept_records jobs)) (filter is_open (kept_records jobs))) e ∙ ap (λ js. job ∷ js) rest
    by false e true rest = rest
    by false e false rest = ap (λ b. cond b (job ∷ filter is_open (kept_records jobs)) (filter is_open (kept_records jobs))) e ∙ rest

-- A list is empty exactly if no job is over.
none_over : (jobs : List JobParts) → over_later jobs ≡ false → over_jobs jobs ≡ []
none_over [] none = refl
none_over (job ∷ jobs) none = by (is_open job) none (none_over jobs)
  where
    by : (b : Bool) → (not b || over_later jobs) ≡ false → (over_later jobs ≡ false → over_jobs jobs ≡ []) → cond (not b) (job ∷ over_jobs jobs) (over_jobs jobs) ≡ []
    by true clear rest = rest clear
    by false clear rest = absurd (cc clear)

-- A job has no say if a later one is over.
last_later : (job : JobParts) (jobs : List JobParts) → over_later jobs ≡ true → last_of (job ∷ over_jobs jobs) ≡ last_of (over_jobs jobs)
last_later job [] some = absurd (cc some)
last_later job (next ∷ jobs) some = by (is_open next) some (last_later job jobs)
  where
    by : (b : Bool) → (not b || over_later jobs) ≡ true → (over_later jobs ≡ true → last_of (job ∷ over_jobs jobs) ≡ last_of (over_jobs jobs))
        → last_of (job ∷ cond (not b) (next ∷ over_jobs jobs) (over_jobs jobs)) ≡ last_of (cond (not b) (next ∷ over_jobs jobs) (over_jobs jobs))
    by true there rest = rest there
    by false there rest = refl

-- Of the jobs that are over, a trim keeps the last one alone.
pub last_over_jobs_are_kept : LastOverJobsAreKept
last_over_jobs_are_kept [] = refl
last_over_jobs_are_kept (job ∷ jobs) = by (is_open job) refl (over_later jobs) refl (last_over_jobs_are_kept jobs)
  where
    kept : List JobParts
    kept = kept_records jobs

    first : is_open job ≡ false → over_jobs (job ∷ kept) ≡ job ∷ over_jobs kept
    first e = ap (λ b. cond (not b) (job ∷ over_jobs kept) (over_jobs kept)) e

    by : (b : Bool) → is_open job ≡ b → (later : Bool) → over_later jobs ≡ later → over_jobs kept ≡ last_of (over_jobs jobs)
        → over_jobs (cond b (job ∷ kept) (cond later kept (job ∷ kept))) ≡ last_of (cond (not b) (job ∷ over_jobs jobs) (over_jobs jobs))
    by true e later f rest = ap (λ b. cond (not b) (job ∷ over_jobs kept) (over_jobs kept)) e ∙ rest
    by false e true f rest = rest ∙ sym (last_later job jobs f)
    by false e false f rest =
        let none = none_over jobs f in
        first e ∙ ap (λ js. job ∷ js) (rest ∙ ap last_of none) ∙ sym (ap (λ js. last_of (job ∷ js)) none)

-- A trim leaves a job that is over exactly if there was one.
later_kept : (jobs : List JobParts) → over_later (kept_records jobs) ≡ over_later jobs
later_kept [] = refl
later_kept (job ∷ jobs) = by (is_open job) refl (over_later jobs) refl (later_kept jobs)
  where
    first : (b : Bool) → is_open job ≡ b → over_later (job ∷ kept_records jobs) ≡ (not b || over_later (kept_records jobs))
    first b e = ap (λ b. not b || over_later (kept_records jobs)) e

    by : (b : Bool) → is_open job ≡ b → (later : Bool) → over_later jobs ≡ later → over_later (kept_records jobs) ≡ over_later jobs
        → over_later (cond b (job ∷ kept_records jobs) (cond later (kept_records jobs) (job ∷ kept_records jobs))) ≡ (not b || over_later jobs)
    by true e later f rest = first true e ∙ rest
    by false e true f rest = rest ∙ f
    by false e false f rest = first false e

-- A trim of jobs that are trimmed drops none.
pub repeated_trims_are_idle : RepeatedTrimsAreIdle
repeated_trims_are_idle [] = refl
repeated_trims_are_idle (job ∷ jobs) = by (is_open job) refl (over_later jobs) refl (repeated_trims_are_idle jobs)
  where
    kept : List JobParts
    kept = kept_records jobs

    by : (b : Bool) → is_open job ≡ b → (later : Bool) → over_later jobs ≡ later → kept_records kept ≡ kept
        → kept_records (cond b (job ∷ kept) (cond later kept (job ∷ kept))) ≡ cond b (job ∷ kept) (cond later kept (job ∷ kept))
    by true e later f rest =
        ap (λ b. cond b (job ∷ kept_records kept) (cond (over_later kept) (kept_records kept) (job ∷ kept_records kept))) e ∙ ap (λ js. job ∷ js) rest
    by false e true f rest = rest
    by false e false f rest =
        ap (λ b. cond b (job ∷ kept_records kept) (cond (over_later kept) (kept_records kept) (job ∷ kept_records kept))) e
        ∙ ap (λ l. cond l (kept_records kept) (job ∷ kept_records kept)) (later_kept jobs ∙ f)
        ∙ ap (λ js. job ∷ js) rest
