-- A record that is replaced stands for a job of the model that is changed.
use Rattle.std.proofs.Common.{◌≡◌, refl, sym, ◌∙◌, ap, ℕ, ◌<◌, List, [], ◌∷◌, Bool, true, false, cond, arith}
use Rattle.std.specs.Prelude.{◌==◌, nat_lt, Some, None}
use Rattle.std.specs.List.{AllByRecursion}
use Rattle.std.proofs.lemmas.Bool.{eqb-true, eq-eqb, ltb-true, ltb-false, eqb-false}
use Rattle.row_laws.proofs.Elements.{all_weaken}
use Rattle.fleet_model.specs.Jobs.{Job, Jobs, changed_jobs}
use Rattle.fleet_jobs.specs.Parts.JobParts.{JobParts}
use Rattle.fleet_jobs.specs.Jobs.{job_of, jobs_of}
use Rattle.fleet_book.specs.Laws.{ReplacementsAreTheModels}
use Rattle.fleet_book.specs.Records.{AreRising, put_record, record_with}
use Rattle.fleet_book.proofs.Records.{Above, none_there}

not_same : (a b : ℕ) → (a ≡ b → ⊥) → (a == b) ≡ false
not_same a b apart = by (a == b) refl
  where
    by : (c : Bool) → (a == b) ≡ c → c ≡ false
    by true e = absurd (apart (eqb-true a b e))
    by false e = refl

-- Jobs above the id stay as they are.
untouched : (change : Job → Job) (id : ℕ) (jobs : List JobParts) → AllByRecursion (Above id) jobs → changed_jobs change (id ∷ []) (jobs_of jobs) ≡ jobs_of jobs
untouched change id [] all = refl
untouched change id (job ∷ jobs) all =
    let high = all.0 in
    ap (λ b. cond (cond b true false) (change (job_of job)) (job_of job) ∷ changed_jobs change (id ∷ []) (jobs_of jobs)) (not_same id job.id (λ same. absurd (omega (arith, same, high))))
    ∙ ap (λ js. job_of job ∷ js) (untouched change id jobs all.1)

-- Putting the record of a changed job changes the model's jobs in the same way.
pub replacements_are_the_models : ReplacementsAreTheModels
replacements_are_the_models change old new [] up found is = absurd (cc found)
replacements_are_the_models change old new (job ∷ jobs) up found is =
    by (nat_lt job.id new.id) (job.id == new.id) refl refl found (λ later. replacements_are_the_models change old new jobs up.1 later is)
  where
    rest_as_it_was : job.id ≡ new.id → changed_jobs change (new.id ∷ []) (jobs_of jobs) ≡ jobs_of jobs
    rest_as_it_was same = untouched change new.id jobs (all_weaken (Above job.id) (Above new.id) (λ other high. omega (arith, high, same)) jobs up.0)

    by : (b c : Bool) → nat_lt job.id new.id ≡ b → (job.id == new.id) ≡ c → cond c (Some job) (record_with new.id jobs) ≡ Some old
        → (record_with new.id jobs ≡ Some old → jobs_of (put_record new jobs) ≡ changed_jobs change (new.id ∷ []) (jobs_of jobs))
        → jobs_of (cond b (job ∷ put_record new jobs) (cond c (new ∷ jobs) (new ∷ job ∷ jobs)))
        ≡ cond (cond (new.id == job.id) true false) (change (job_of job)) (job_of job) ∷ changed_jobs change (new.id ∷ []) (jobs_of jobs)
    by true true e f here rest = let low = ltb-true job.id new.id e in let same = eqb-true job.id new.id f in absurd (omega (arith, low, same))
    by true false e f here rest =
        let apart = eqb-false job.id new.id f in
        ap (λ js. job_of job ∷ js) (rest here)
        ∙ sym (ap (λ t. cond (cond t true false) (change (job_of job)) (job_of job) ∷ changed_jobs change (new.id ∷ []) (jobs_of jobs)) (not_same new.id job.id (λ same. apart (sym same))))
    by false true e f here rest =
        let same = eqb-true job.id new.id f in
        let own : job ≡ old = cc here in
        ap (λ j. j ∷ jobs_of jobs) (is ∙ sym (ap (λ j. change (job_of j)) own))
        ∙ ap (λ js. change (job_of job) ∷ js) (sym (rest_as_it_was same))
        ∙ sym (ap (λ t. cond (cond t true false) (change (job_of job)) (job_of job) ∷ changed_jobs change (new.id ∷ []) (jobs_of jobs)) (eq-eqb new.id job.id (sym same)))
    by false false e f here rest =
        let low = ltb-false job.id new.id e in
        let apart = eqb-false job.id new.id f in
        let none = none_there new.id jobs (all_weaken (Above job.id) (Above new.id) (λ other high. omega (arith, high, low)) jobs up.0) in
        let gone : None ≡ Some old = sym none ∙ here in
        absurd (cc gone)
