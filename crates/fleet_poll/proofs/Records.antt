-- Records of jobs that a step of a poll changes.
use Rattle.std.proofs.Common.{◌≡◌, refl, sym, ◌∙◌, ap, subst, ℕ, ◌+◌, ◌<◌, arith, length, get_or, take, List, [], ◌∷◌, ◌++◌, map, Bool, true, false, ◌||◌, cond}
use Rattle.std.specs.Prelude.{◌==◌, is_some, nat_lt, Option, Some, None, IfSome, IsSome}
use Rattle.std.specs.List.{AllByRecursion}
use Rattle.std.proofs.lemmas.Bool.{eq-eqb, eqb-true, ltb-false, ltb-true}
use Rattle.std.proofs.lemmas.Cmp.{nat_eq_equiv}
use Rattle.std.proofs.lemmas.List.{take_more}
use Rattle.fleet_model.specs.Jobs.{Job, changed_jobs, contains}
use Rattle.fleet_model.specs.Nodes.{Trees}
use Rattle.fleet_model.specs.Trees.{tables_now}
use Rattle.fleet_model.specs.Work.Records.{to_failed, to_scheduled, to_waiting}
use Rattle.fleet_jobs.specs.Parts.JobParts.{JobParts}
use Rattle.fleet_jobs.specs.Jobs.{job_of, jobs_of, with_status}
use Rattle.fleet_jobs.specs.Specs.{spec_of}
use Rattle.fleet_jobs.specs.declared.spec.CompactionSpec.{CompactionSpec}
use Rattle.fleet_jobs.specs.declared.status.CompactionStatus.TheVariants as own
use Rattle.fleet_book.specs.Records.{AreRising, put_record, record_with}
use Rattle.fleet_book.specs.StateParts.{StateParts}
use Rattle.fleet_book.specs.States.{own_jobs}
use Rattle.fleet_book.specs.Versions.{with_jobs}
use Rattle.fleet_gates.proofs.HeldNodes.{contains_more}
use Rattle.fleet_poll.specs.Polls.{HasSameObjects, changed_record, failed_record, opened_record, waiting_record}
use Rattle.fleet_poll.proofs.Changed.{found_has_id}

no_two : (b : Bool) → b ≡ true → b ≡ false → ⊥
no_two true e f = absurd (cc f)
no_two false e f = absurd (cc e)

-- ---- no job with an id

pub not_there : (change : JobParts → JobParts) (id : ℕ) (jobs : List JobParts) → record_with id jobs ≡ None → jobs ≡ map (changed_record change (id ∷ [])) jobs
not_there change id [] e = refl
not_there change id (job ∷ jobs) e = by (job.id == id) refl e (not_there change id jobs)
  where
    by : (b : Bool) → (job.id == id) ≡ b → cond b (Some job) (record_with id jobs) ≡ None → (record_with id jobs ≡ None → jobs ≡ map (changed_record change (id ∷ [])) jobs)
        → (job ∷ jobs) ≡ (cond (cond (id == job.id) true false) (change job) job ∷ map (changed_record change (id ∷ [])) jobs)
    by true f h rest = absurd (cc h)
    by false f h rest =
        ap (λ js. job ∷ js) (rest h) ∙ sym (ap (λ b. cond (cond b true false) (change job) job ∷ map (changed_record change (id ∷ [])) jobs) (nat_eq_equiv.symm id job.id ∙ f))

above_none : (id : ℕ) (jobs : List JobParts) → AllByRecursion (λ job. id < job.id) jobs → record_with id jobs ≡ None
above_none id [] above = refl
above_none id (job ∷ jobs) above = by (job.id == id) refl (above_none id jobs above.1)
  where
    by : (b : Bool) → (job.id == id) ≡ b → record_with id jobs ≡ None → cond b (Some job) (record_with id jobs) ≡ None
    by true e rest = let same = eqb-true job.id id e in let high = above.0 in let clash : ⊥ = omega (arith, same, high) in absurd clash
    by false e rest = rest

-- ---- one job

-- If neither comes first nor both are equal, the other is below.
is_below : (a b : ℕ) → nat_lt a b ≡ false → (a == b) ≡ false → b < a
is_below a b e f = by (nat_lt b a) refl
  where
    by : (c : Bool) → nat_lt b a ≡ c → b < a
    by true g = ltb-true b a g
    by false g =
        let one = ltb-false a b e in
        let other = ltb-false b a g in
        let same : a ≡ b = omega (arith, one, other) in
        absurd (no_two (a == b) (eq-eqb a b same) f)

still_above : (low high : ℕ) (jobs : List JobParts) → low < high → AllByRecursion (λ job. high < job.id) jobs → AllByRecursion (λ job. low < job.id) jobs
still_above low high [] below above = tt
still_above low high (job ∷ jobs) below above = let first = above.0 in (omega (arith, below, first), still_above low high jobs below above.1)

-- A changed record takes the place of the record with its id.
pub put_changed : (change : JobParts → JobParts) (jobs : List JobParts) (job freed : JobParts) → AreRising jobs → record_with freed.id jobs ≡ Some job → freed ≡ change job → put_record freed jobs ≡ map (changed_record change (freed.id ∷ [])) jobs
put_changed change [] job freed rising found is = absurd (cc found)
put_changed change (first ∷ jobs) job freed rising found is = by (nat_lt first.id freed.id) (first.id == freed.id) refl refl found (λ later. put_changed change jobs job freed rising.1 later is)
  where
    turned : (b : Bool) → (first.id == freed.id) ≡ b
        → (changed_record change (freed.id ∷ []) first ∷ map (changed_record change (freed.id ∷ [])) jobs) ≡ (cond (cond b true false) (change first) first ∷ map (changed_record change (freed.id ∷ [])) jobs)
    turned b e = ap (λ c. cond (cond c true false) (change first) first ∷ map (changed_record change (freed.id ∷ [])) jobs) (nat_eq_equiv.symm freed.id first.id ∙ e)

    by : (lt eq : Bool) → nat_lt first.id freed.id ≡ lt → (first.id == freed.id) ≡ eq → cond eq (Some first) (record_with freed.id jobs) ≡ Some job
        → (record_with freed.id jobs ≡ Some job → put_record freed jobs ≡ map (changed_record change (freed.id ∷ [])) jobs)
        → cond lt (first ∷ put_record freed jobs) (cond eq (freed ∷ jobs) (freed ∷ first ∷ jobs)) ≡ (changed_record change (freed.id ∷ []) first ∷ map (changed_record change (freed.id ∷ [])) jobs)
    by true true e f h rest = let low = ltb-true first.id freed.id e in let same = eqb-true first.id freed.id f in let clash : ⊥ = omega (arith, low, same) in absurd clash
    by true false e f h rest = ap (λ js. first ∷ js) (rest h) ∙ sym (turned false f)
    by false true e f h rest =
        let same : first ≡ job = cc h in
        let above = subst (λ n. AllByRecursion (λ later. n < later.id) jobs) (eqb-true first.id freed.id f) rising.0 in
        ap (λ j. j ∷ jobs) (is ∙ sym (ap change same))
        ∙ ap (λ js. change first ∷ js) (not_there change freed.id jobs (above_none freed.id jobs above))
        ∙ sym (turned true f)
    by false false e f h rest =
        let none = above_none freed.id jobs (still_above freed.id first.id jobs (is_below first.id freed.id e f) rising.0) in
        let clash : None ≡ Some job = sym none ∙ h in
        absurd (cc clash)

-- A job that is set to wait takes the place of its record.
pub freed_job : (id : ℕ) (jobs : List JobParts) (job set freed : JobParts) → AreRising jobs → record_with id jobs ≡ Some job → set ≡ with_status own.Scheduled job → freed ≡ record set { worker = None }
    → (freed.id ≡ id) × (put_record freed jobs ≡ map (changed_record waiting_record (id ∷ [])) jobs)
freed_job id jobs job set freed rising found is_set is_freed =
    let is : freed ≡ waiting_record job = is_freed ∙ ap {A = JobParts} {B = JobParts} (λ s. record s { worker = None }) is_set in
    let same : freed.id ≡ id = ap (λ j. j.id) is ∙ found_has_id id jobs job found in
    let there : record_with freed.id jobs ≡ Some job = ap (λ i. record_with i jobs) same ∙ found in
    (same, put_changed waiting_record jobs job freed rising there is ∙ ap (λ i. map (changed_record waiting_record (i ∷ [])) jobs) same)

-- ---- several jobs

pub none_freed : (jobs : List JobParts) → jobs ≡ map (changed_record waiting_record []) jobs
none_freed [] = refl
none_freed (job ∷ jobs) = ap (λ js. job ∷ js) (none_freed jobs)

-- To free these jobs and one more is to free them, and then the one.
freed_once : (ids : List ℕ) (id : ℕ) (job : JobParts) → changed_record waiting_record (ids ++ id ∷ []) job ≡ changed_record waiting_record (id ∷ []) (changed_record waiting_record ids job)
freed_once ids id job = ap (λ b. cond b (waiting_record job) job) (contains_more ids id job.id) ∙ by (contains ids job.id)
  where
    again : (b : Bool) → waiting_record job ≡ cond (cond b true false) (waiting_record (waiting_record job)) (waiting_record job)
    again true = refl
    again false = refl

    first : (b : Bool) → cond b (waiting_record job) job ≡ cond (cond b true false) (waiting_record job) job
    first true = refl
    first false = refl

    by : (a : Bool) → cond (a || (id == job.id)) (waiting_record job) job ≡ cond (cond (id == (cond a (waiting_record job) job).id) true false) (waiting_record (cond a (waiting_record job) job)) (cond a (waiting_record job) job)
    by true = again (id == job.id)
    by false = first (id == job.id)

freed_one_more : (ids : List ℕ) (id : ℕ) (jobs : List JobParts) → map (changed_record waiting_record (ids ++ id ∷ [])) jobs ≡ map (changed_record waiting_record (id ∷ [])) (map (changed_record waiting_record ids) jobs)
freed_one_more ids id [] = refl
freed_one_more ids id (job ∷ jobs) =
    ap (λ j. j ∷ map (changed_record waiting_record (ids ++ id ∷ [])) jobs) (freed_once ids id job) ∙ ap (λ js. changed_record waiting_record (id ∷ []) (changed_record waiting_record ids job) ∷ js) (freed_one_more ids id jobs)

pub freed_more : (ids : List ℕ) (i id : ℕ) (before now after : List JobParts) → i < length ids → id ≡ get_or ids i id → now ≡ map (changed_record waiting_record (take i ids)) before → after ≡ map (changed_record waiting_record (id ∷ [])) now
    → after ≡ map (changed_record waiting_record (take (i + 1) ids)) before
freed_more ids i id before now after below is so more =
    more
    ∙ ap (map (changed_record waiting_record (id ∷ []))) so
    ∙ sym (freed_one_more (take i ids) id before)
    ∙ sym (ap (λ these. map (changed_record waiting_record these) before) (take_more ids i id below ∙ ap (λ y. take i ids ++ y ∷ []) (sym is)))

-- ---- in the model

changed_too : (change : JobParts → JobParts) (model : Job → Job) (these : List ℕ) (job : JobParts) → job_of (change job) ≡ model (job_of job)
    → job_of (changed_record change these job) ≡ cond (contains these job.id) (model (job_of job)) (job_of job)
changed_too change model these job same = by (contains these job.id)
  where
    by : (b : Bool) → job_of (cond b (change job) job) ≡ cond b (model (job_of job)) (job_of job)
    by true = same
    by false = refl

pub changed_are : (change : JobParts → JobParts) (model : Job → Job) (these : List ℕ) (jobs : List JobParts) → ((job : JobParts) → job_of (change job) ≡ model (job_of job))
    → jobs_of (map (changed_record change these) jobs) ≡ changed_jobs model these (jobs_of jobs)
changed_are change model these [] same = refl
changed_are change model these (job ∷ jobs) same =
    ap (λ j. j ∷ jobs_of (map (changed_record change these) jobs)) (changed_too change model these job (same job))
    ∙ ap (λ js. cond (contains these job.id) (model (job_of job)) (job_of job) ∷ js) (changed_are change model these jobs same)

-- The jobs that wait are the model's.
pub freed_are : (these : List ℕ) (jobs : List JobParts) → jobs_of (map (changed_record waiting_record these) jobs) ≡ changed_jobs to_waiting these (jobs_of jobs)
freed_are these jobs = changed_are waiting_record to_waiting these jobs (λ job. refl)

-- The jobs that failed are the model's.
pub failed_are : (these : List ℕ) (jobs : List JobParts) → jobs_of (map (changed_record failed_record these) jobs) ≡ changed_jobs to_failed these (jobs_of jobs)
failed_are these jobs = changed_are failed_record to_failed these jobs (λ job. refl)

-- A job that is set Failed takes the place of its record.
pub failed_job : (id : ℕ) (old new : StateParts) → AreRising (own_jobs old) → IsSome (record_with id (own_jobs old))
    → IfSome (record_with id (own_jobs old)) (λ job. new ≡ record old { compactions = with_jobs (put_record (failed_record job) (own_jobs old)) old.compactions })
    → (own_jobs new ≡ map (changed_record failed_record (id ∷ [])) (own_jobs old)) × HasSameObjects old new
failed_job id old new rising some set = by (record_with id (own_jobs old)) refl some set
  where
    by : (found : Option JobParts) → record_with id (own_jobs old) ≡ found → IsSome found → IfSome found (λ job. new ≡ record old { compactions = with_jobs (put_record (failed_record job) (own_jobs old)) old.compactions })
        → (own_jobs new ≡ map (changed_record failed_record (id ∷ [])) (own_jobs old)) × HasSameObjects old new
    by None e there is = absurd (cc there)
    by (Some job) e there is =
        let same : job.id ≡ id = found_has_id id (own_jobs old) job e in
        let found : record_with job.id (own_jobs old) ≡ Some job = ap (λ i. record_with i (own_jobs old)) same ∙ e in (
          ap own_jobs is ∙ put_changed failed_record (own_jobs old) job (failed_record job) rising found refl ∙ ap (λ i. map (changed_record failed_record (i ∷ [])) (own_jobs old)) same,
          record { manifest = ap (λ s. s.manifest) is; version = ap (λ s. s.compactions.id) is; epoch = ap (λ s. s.compactions.compactions.compactor_epoch) is },
        )

pub none_if : {A : Type 0} (o : Option A) → is_some o ≡ false → o ≡ None
none_if None e = refl
none_if (Some x) e = absurd (cc e)

-- ---- jobs that are opened

pub opened_are : (trees : Trees) (these : List ℕ) (jobs : List JobParts) → jobs_of (map (changed_record (opened_record trees) these) jobs) ≡ changed_jobs (to_scheduled (tables_now trees)) these (jobs_of jobs)
opened_are trees these jobs = changed_are (opened_record trees) (to_scheduled (tables_now trees)) these jobs (λ job. refl)

pub opened_is : (trees : Trees) (job made set tabled last : JobParts) (spec : CompactionSpec) (tables : List ℕ) → made ≡ job → set ≡ with_status own.Scheduled made
    → tables ≡ tables_now trees (spec_of spec) → spec ≡ job.spec → tabled ≡ record set { source_tables = tables } → last ≡ record tabled { ctx = None } → last ≡ opened_record trees job
opened_is trees job made set tabled last spec tables is_made is_set is_tables is_spec is_tabled is_last =
    is_last
    ∙ ap {A = JobParts} {B = JobParts} (λ t. record t { ctx = None }) is_tabled
    ∙ ap {A = JobParts} {B = JobParts} (λ s. record s { source_tables = tables; ctx = None }) (is_set ∙ ap (with_status own.Scheduled) is_made)
    ∙ ap {A = List ℕ} {B = JobParts} (λ ids. record (with_status own.Scheduled job) { source_tables = ids; ctx = None }) (is_tables ∙ ap (λ s. tables_now trees (spec_of s)) is_spec)

-- A job that is opened takes the place of its record.
pub opened_job : (trees : Trees) (id : ℕ) (jobs : List JobParts) (job made : JobParts) → AreRising jobs → record_with id jobs ≡ Some job → made ≡ opened_record trees job
    → (made.id ≡ id) × (put_record made jobs ≡ map (changed_record (opened_record trees) (id ∷ [])) jobs)
opened_job trees id jobs job made rising found is =
    let same : made.id ≡ id = ap (λ j. j.id) is ∙ found_has_id id jobs job found in
    let there : record_with made.id jobs ≡ Some job = ap (λ i. record_with i jobs) same ∙ found in
    (same, put_changed (opened_record trees) jobs job made rising there is ∙ ap (λ i. map (changed_record (opened_record trees) (i ∷ [])) jobs) same)
