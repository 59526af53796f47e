-- How records of jobs are found, and which ones stay.
use Rattle.std.proofs.Common.{◌≡◌, refl, sym, ◌∙◌, ap, subst, ℕ, List, [], ◌∷◌, Bool, true, false, cond}
use Rattle.std.specs.Prelude.{◌==◌, nat_lt, IsSome, Some, None}
use Rattle.std.proofs.lemmas.Bool.{eqb-true}
use Rattle.fleet_jobs.specs.Parts.JobParts.{JobParts}
use Rattle.fleet_book.specs.Records.{put_record, record_with}
use Rattle.fleet_book.specs.StateParts.{StateParts}
use Rattle.fleet_poll.specs.Polls.{HasSameObjects}

-- A job that is found by an id has this id.
pub found_has_id : (id : ℕ) (jobs : List JobParts) (job : JobParts) → record_with id jobs ≡ Some job → job.id ≡ id
found_has_id id [] job e = absurd (cc e)
found_has_id id (first ∷ jobs) job e = by (first.id == id) refl e (found_has_id id jobs job)
  where
    by : (b : Bool) → (first.id == id) ≡ b → cond b (Some first) (record_with id jobs) ≡ Some job → (record_with id jobs ≡ Some job → job.id ≡ id) → job.id ≡ id
    by true f h rest = let same : first ≡ job = cc h in ap (λ j. j.id) (sym same) ∙ eqb-true first.id id f
    by false f h rest = rest h

pub there_is : (id other : ℕ) (jobs : List JobParts) (job : JobParts) → other ≡ id → record_with id jobs ≡ Some job → IsSome (record_with other jobs)
there_is id other jobs job same found = subst IsSome (sym (ap (λ i. record_with i jobs) same ∙ found)) refl

pub same_again : (old now new : StateParts) → HasSameObjects old now → HasSameObjects now new → HasSameObjects old new
same_again old now new first next = record { manifest = next.manifest ∙ first.manifest; version = next.version ∙ first.version; epoch = next.epoch ∙ first.epoch }

-- A record that is put leaves those with other ids as they are.
pub others_stay : (new : JobParts) (jobs : List JobParts) (other : ℕ) → (new.id == other) ≡ false → record_with other (put_record new jobs) ≡ record_with other jobs
others_stay new [] other apart = ap (λ b. cond b (Some new) None) apart
others_stay new (job ∷ jobs) other apart = by (nat_lt job.id new.id) (others_stay new jobs other apart)
  where
    replaced : (b : Bool) → (job.id == new.id) ≡ b → record_with other (cond b (new ∷ jobs) (new ∷ job ∷ jobs)) ≡ record_with other (job ∷ jobs)
    replaced true e =
        ap (λ b. cond b (Some new) (record_with other jobs)) apart
        ∙ sym (ap (λ b. cond b (Some job) (record_with other jobs)) (ap (λ id. id == other) (eqb-true job.id new.id e) ∙ apart))
    replaced false e = ap (λ b. cond b (Some new) (record_with other (job ∷ jobs))) apart

    by : (b : Bool) → record_with other (put_record new jobs) ≡ record_with other jobs
        → record_with other (cond b (job ∷ put_record new jobs) (cond (job.id == new.id) (new ∷ jobs) (new ∷ job ∷ jobs))) ≡ record_with other (job ∷ jobs)
    by true rest = ap (cond (job.id == other) (Some job)) rest
    by false rest = replaced (job.id == new.id) refl
