-- A job that is over stays as it is, whatever records are taken over.
use Rattle.std.proofs.Common.{◌≡◌, refl, sym, ◌∙◌, ap, ℕ, List, [], ◌∷◌, Bool, true, false, cond, not}
use Rattle.std.specs.Prelude.{◌==◌, nat_lt, Some, None}
use Rattle.std.proofs.lemmas.Bool.{eqb-true}
use Rattle.fleet_model.specs.Jobs.{Status, Submitted, Scheduled, Running, Compacted, Completed, Failed, is_finished}
use Rattle.step_model.specs.Steps.Merging.{adopts}
use Rattle.fleet_jobs.specs.Parts.JobParts.{JobParts}
use Rattle.fleet_jobs.specs.Jobs.{is_open}
use Rattle.fleet_book.specs.Records.{put_record, record_with}
use Rattle.fleet_book.specs.States.{takes, with_stored, merged_jobs}
use Rattle.fleet_jobs.specs.Status.{status_of}

-- Putting a record under another id changes no answer for this id.
pub put_other : (id : ℕ) (new : JobParts) (jobs : List JobParts) → (new.id == id) ≡ false → record_with id (put_record new jobs) ≡ record_with id jobs
put_other id new [] apart = ap (λ b. cond b (Some new) None) apart
put_other id new (job ∷ jobs) apart = by (nat_lt job.id new.id) (job.id == new.id) refl (put_other id new jobs apart)
  where
    same_apart : (job.id == new.id) ≡ true → (job.id == id) ≡ false
    same_apart f = ap (λ n. n == id) (eqb-true job.id new.id f) ∙ apart

    by : (b c : Bool) → (job.id == new.id) ≡ c → record_with id (put_record new jobs) ≡ record_with id jobs
        → record_with id (cond b (job ∷ put_record new jobs) (cond c (new ∷ jobs) (new ∷ job ∷ jobs))) ≡ cond (job.id == id) (Some job) (record_with id jobs)
    by true c f rest = ap (λ o. cond (job.id == id) (Some job) o) rest
    by false true f rest = ap (λ b. cond b (Some new) (record_with id jobs)) apart ∙ sym (ap (λ b. cond b (Some job) (record_with id jobs)) (same_apart f))
    by false false f rest = ap (λ b. cond b (Some new) (cond (job.id == id) (Some job) (record_with id jobs))) apart

-- A job that is over is not replaced by a stored one.
over_stays : (own stored : Status) → not (is_finished own) ≡ false → adopts own stored ≡ false
over_stays Submitted stored over = absurd (cc over)
over_stays Scheduled stored over = absurd (cc over)
over_stays Running stored over = absurd (cc over)
over_stays Compacted stored over = absurd (cc over)
over_stays Completed stored over = refl
over_stays Failed stored over = refl

-- A job that is over stays as it is when a stored record is seen.
step_keeps : (id : ℕ) (job : JobParts) (jobs : List JobParts) (stored : JobParts) → record_with id jobs ≡ Some job → is_open job ≡ false → record_with id (with_stored jobs stored) ≡ Some job
step_keeps id job jobs stored found over = by (stored.id == id) refl
  where
    other : (t : Bool) → (stored.id == id) ≡ false → record_with id (cond t (put_record stored jobs) jobs) ≡ Some job
    other true apart = put_other id stored jobs apart ∙ found
    other false apart = found

    by : (b : Bool) → (stored.id == id) ≡ b → record_with id (with_stored jobs stored) ≡ Some job
    by true e =
        let looked = ap (λ n. record_with n jobs) (eqb-true stored.id id e) ∙ found in
        let kept = ap (λ o. takes o stored) looked ∙ over_stays (status_of job.status) (status_of stored.status) over in
        ap (λ t. record_with id (cond t (put_record stored jobs) jobs)) kept ∙ found
    by false e = other (takes (record_with stored.id jobs) stored) e

pub over_kept : (id : ℕ) (job : JobParts) (jobs stored : List JobParts) → record_with id jobs ≡ Some job → is_open job ≡ false → record_with id (merged_jobs jobs stored) ≡ Some job
over_kept id job jobs [] found over = found
over_kept id job jobs (first ∷ stored) found over = over_kept id job (with_stored jobs first) stored (step_keeps id job jobs first found over) over
