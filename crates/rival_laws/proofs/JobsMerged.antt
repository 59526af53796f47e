-- Changes of workers and submitters leave a merge of the stored jobs into local ones what it is.
use Rattle.std.proofs.Common.{◌≡◌, refl, sym, ◌∙◌, ap, subst, ℕ, ◌≤◌, List, [], ◌∷◌, cond, Bool, true, false, inl, inr, ◌⊎◌, Option, Some, None, length, arith}
use Rattle.std.specs.Prelude.{IsTrue, ◌==◌, ◌&&◌, ◌||◌, nat_lt, option_map, suc, ⊤}
use Rattle.std.specs.List.{AllByRecursion}
use Rattle.std.proofs.lemmas.Bool.Decides.{Decides-eqb}
use Rattle.fleet_model.specs.Jobs.{JobSpec, Job, Jobs, Status, Submitted, Scheduled, Running, Compacted, Completed, Failed, contains, changed_jobs, put_job, trimmed_jobs, is_active, is_finished, finished_later, job_with}
use Rattle.fleet_model.specs.Work.Records.{new_job, with_new}
use Rattle.step_model.specs.Steps.Merging.{adopts, is_taken_new, taken_job}
use Rattle.step_model.specs.Fits.{IsOutlived, IsStillStored, JobsMerge}
use Rattle.step_laws.proofs.Elements.{IsIn, all_at, all_from, all_to, any_element, any_of}
use Rattle.step_laws.proofs.OpenJobs.{is_open}
use Rattle.step_laws.proofs.Changed.{on_these, by_these, all_on_these, job_found}
use Rattle.step_laws.proofs.NewJobs.{in_new}

-- ---- jobs that a further put drops none of

-- Each finished job is the last one that is finished.
abbrev pub IsTrimmed : Jobs → Type 0
IsTrimmed [] = ⊤
IsTrimmed (job ∷ jobs) = (IsTrue (is_active job) ⊎ (finished_later jobs ≡ false)) × IsTrimmed jobs

shorter : (jobs : Jobs) → length (trimmed_jobs jobs) ≤ length jobs
shorter [] = omega arith
shorter (job ∷ jobs) = by (is_active job) (finished_later jobs) (shorter jobs)
  where
    by : (active later : Bool) → length (trimmed_jobs jobs) ≤ length jobs → length (cond active (job ∷ trimmed_jobs jobs) (cond later (trimmed_jobs jobs) (job ∷ trimmed_jobs jobs))) ≤ suc (length jobs)
    by true later low = omega (arith, low)
    by false true low = omega (arith, low)
    by false false low = omega (arith, low)

-- If a put would drop none of the jobs, each finished job is the last one that is finished.
pub trimmed_is : (jobs : Jobs) → trimmed_jobs jobs ≡ jobs → IsTrimmed jobs
trimmed_is [] e = tt
trimmed_is (job ∷ jobs) e = by (is_active job) refl (finished_later jobs) refl (trimmed_is jobs) e
  where
    by : (active : Bool) → is_active job ≡ active → (later : Bool) → finished_later jobs ≡ later → (trimmed_jobs jobs ≡ jobs → IsTrimmed jobs) → cond active (job ∷ trimmed_jobs jobs) (cond later (trimmed_jobs jobs) (job ∷ trimmed_jobs jobs)) ≡ job ∷ jobs
        → (IsTrue (is_active job) ⊎ (finished_later jobs ≡ false)) × IsTrimmed jobs
    by true is later f rest e = (inl is, rest (cc e))
    by false is true f rest e =
        let low = shorter jobs in
        let long : length (trimmed_jobs jobs) ≡ suc (length jobs) = ap length e in
        absurd (omega (arith, low, long))
    by false is false f rest e = (inr f, rest (cc e))

pub is_trimmed : (jobs : Jobs) → IsTrimmed jobs → trimmed_jobs jobs ≡ jobs
is_trimmed [] h = refl
is_trimmed (job ∷ jobs) h = by (is_active job) (finished_later jobs) h.0 (is_trimmed jobs h.1)
  where
    by : (active later : Bool) → IsTrue active ⊎ (later ≡ false) → trimmed_jobs jobs ≡ jobs → cond active (job ∷ trimmed_jobs jobs) (cond later (trimmed_jobs jobs) (job ∷ trimmed_jobs jobs)) ≡ job ∷ jobs
    by true later is rest = ap (λ js. job ∷ js) rest
    by false true (inl is) rest = absurd (cc is)
    by false true (inr is) rest = absurd (cc is)
    by false false is rest = ap (λ js. job ∷ js) rest

-- ---- changed jobs

-- A change leaves these jobs active, and the jobs were active before.
abbrev pub StayActive : (Job → Job) → List ℕ → Jobs → Type 0
StayActive f these jobs = AllByRecursion (λ job. IsTrue (contains these job.id) → IsTrue (is_active job) × IsTrue (is_active (f job))) jobs

active_not_finished : (s : Status) → IsTrue (cond (is_finished s) false true) → is_finished s ≡ false
active_not_finished s h = by (is_finished s) h
  where
    by : (b : Bool) → IsTrue (cond b false true) → b ≡ false
    by true h = absurd (cc h)
    by false h = refl

later_changed : (f : Job → Job) (these : List ℕ) (jobs : Jobs) → StayActive f these jobs → finished_later (changed_jobs f these jobs) ≡ finished_later jobs
later_changed f these [] h = refl
later_changed f these (job ∷ jobs) h = first (contains these job.id) refl (later_changed f these jobs h.1)
  where
    first : (b : Bool) → contains these job.id ≡ b → finished_later (changed_jobs f these jobs) ≡ finished_later jobs → (is_finished (cond b (f job) job).status || finished_later (changed_jobs f these jobs)) ≡ (is_finished job.status || finished_later jobs)
    first true e rest =
        let both = h.0 e in
        ap (λ c. c || finished_later (changed_jobs f these jobs)) (active_not_finished (f job).status both.1 ∙ sym (active_not_finished job.status both.0)) ∙ ap (λ c. is_finished job.status || c) rest
    first false e rest = ap (λ c. is_finished job.status || c) rest

-- If a put would drop none of the jobs, it drops none after a change of active jobs that stay active.
changed_trimmed : (f : Job → Job) (these : List ℕ) (jobs : Jobs) → StayActive f these jobs → IsTrimmed jobs → IsTrimmed (changed_jobs f these jobs)
changed_trimmed f these [] active h = tt
changed_trimmed f these (job ∷ jobs) active h = (first (contains these job.id) refl h.0, changed_trimmed f these jobs active.1 h.1)
  where
    last : IsTrue (is_active job) ⊎ (finished_later jobs ≡ false) → IsTrue (is_active job) ⊎ (finished_later (changed_jobs f these jobs) ≡ false)
    last (inl is) = inl is
    last (inr none) = inr (later_changed f these jobs active.1 ∙ none)

    first : (b : Bool) → contains these job.id ≡ b → IsTrue (is_active job) ⊎ (finished_later jobs ≡ false) → IsTrue (is_active (cond b (f job) job)) ⊎ (finished_later (changed_jobs f these jobs) ≡ false)
    first true e was = inl (active.0 e).1
    first false e was = last was

-- No job is dropped by a put that leaves the changed jobs active.
pub changed_stay : (f : Job → Job) (these : List ℕ) (jobs : Jobs) → StayActive f these jobs → trimmed_jobs jobs ≡ jobs → trimmed_jobs (changed_jobs f these jobs) ≡ changed_jobs f these jobs
changed_stay f these jobs active e = is_trimmed (changed_jobs f these jobs) (changed_trimmed f these jobs active (trimmed_is jobs e))

-- After a change that keeps ids, the job found at an id is the one before, changed if the change names it.
pub with_changed : (f : Job → Job) (these : List ℕ) (id : ℕ) (jobs : Jobs) → ((job : Job) → (f job).id ≡ job.id) → job_with id (changed_jobs f these jobs) ≡ option_map (on_these f these) (job_with id jobs)
with_changed f these id [] same = refl
with_changed f these id (job ∷ jobs) same = by (id == job.id) (ap (λ n. id == n) (first (contains these job.id))) (with_changed f these id jobs same)
  where
    first : (b : Bool) → (cond b (f job) job).id ≡ job.id
    first true = same job
    first false = refl

    by : (b : Bool) → (id == (on_these f these job).id) ≡ b → job_with id (changed_jobs f these jobs) ≡ option_map (on_these f these) (job_with id jobs)
        → cond (id == (on_these f these job).id) (Some (on_these f these job)) (job_with id (changed_jobs f these jobs)) ≡ option_map (on_these f these) (cond b (Some job) (job_with id jobs))
    by true e rest = ap (λ c. cond c (Some (on_these f these job)) (job_with id (changed_jobs f these jobs))) e
    by false e rest = ap (λ c. cond c (Some (on_these f these job)) (job_with id (changed_jobs f these jobs))) e ∙ rest

-- ---- jobs that a worker took or gave back

-- A local job that may wait or run takes a stored job of this status.
pub record IsTaken (status : Status) : Type 0 where
  pub waiting : adopts Scheduled status ≡ true
  pub running : adopts Running status ≡ true

-- A local job that a Scheduled or Running stored job replaces is itself Scheduled or Running.
adopts_open : (s t : Status) → IsTrue (is_open t) → adopts s t ≡ true → IsTrue (is_open s)
adopts_open Scheduled t opened e = refl
adopts_open Running t opened e = refl
adopts_open Submitted Submitted opened e = absurd (cc e)
adopts_open Submitted Scheduled opened e = absurd (cc e)
adopts_open Submitted Running opened e = absurd (cc e)
adopts_open Submitted Compacted opened e = absurd (cc opened)
adopts_open Submitted Completed opened e = absurd (cc e)
adopts_open Submitted Failed opened e = absurd (cc e)
adopts_open Compacted Submitted opened e = absurd (cc e)
adopts_open Compacted Scheduled opened e = absurd (cc e)
adopts_open Compacted Running opened e = absurd (cc e)
adopts_open Compacted Compacted opened e = absurd (cc opened)
adopts_open Compacted Completed opened e = absurd (cc e)
adopts_open Compacted Failed opened e = absurd (cc e)
adopts_open Completed t opened e = absurd (cc e)
adopts_open Failed t opened e = absurd (cc e)

open_adopts : (s t : Status) → IsTrue (is_open s) → IsTaken t → adopts s t ≡ true
open_adopts Scheduled t opened is = is.waiting
open_adopts Running t opened is = is.running
open_adopts Submitted t opened is = absurd (cc opened)
open_adopts Compacted t opened is = absurd (cc opened)
open_adopts Completed t opened is = absurd (cc opened)
open_adopts Failed t opened is = absurd (cc opened)

pub open_taken : (s : Status) → IsTrue (is_open s) → IsTaken s
open_taken Scheduled opened = record { waiting = refl; running = refl }
open_taken Running opened = record { waiting = refl; running = refl }
open_taken Submitted opened = absurd (cc opened)
open_taken Compacted opened = absurd (cc opened)
open_taken Completed opened = absurd (cc opened)
open_taken Failed opened = absurd (cc opened)

not_new : (s : Status) → IsTrue (is_open s) → is_taken_new s ≡ false
not_new Scheduled opened = refl
not_new Running opened = refl
not_new Submitted opened = absurd (cc opened)
not_new Compacted opened = absurd (cc opened)
not_new Completed opened = absurd (cc opened)
not_new Failed opened = absurd (cc opened)

-- A stored job that was taken over, and was waiting or Running, is taken over as it is now.
taken_still : (local : Option Job) (old new : Job) → IsTrue (is_open old.status) → IsTaken new.status → taken_job local old ≡ Some old → taken_job local new ≡ Some new
taken_still None old new opened is e = absurd (cc (e, ap (λ b. cond b (Some old) None) (not_new old.status opened)))
taken_still (Some l) old new opened is e = by (adopts l.status old.status) refl e
  where
    open_local : IsTrue (is_open l.status) → Some (cond (adopts l.status new.status) new l) ≡ Some new
    open_local local = ap (λ b. Some (cond b new l)) (open_adopts l.status new.status local is)

    the_job : Some l ≡ Some old → l ≡ old
    the_job e = cc e

    by : (b : Bool) → adopts l.status old.status ≡ b → Some (cond b old l) ≡ Some old → Some (cond (adopts l.status new.status) new l) ≡ Some new
    by true f e = open_local (adopts_open l.status old.status opened f)
    by false f e = open_local (subst (λ (j : Job). IsTrue (is_open j.status)) (sym (the_job e)) opened)

-- How a worker's change goes over these jobs.
pub record TakesOver (f : Job → Job) (these : List ℕ) (jobs : Jobs) : Type 0 where
  pub ids : (job : Job) → (f job).id ≡ job.id
  pub opened : (job : Job) → IsIn job jobs → IsTrue (contains these job.id) → IsTrue (is_open job.status)
  pub takes : (job : Job) → IsTrue (is_open job.status) → IsTaken (f job).status

taken_active : (s : Status) → IsTaken s → IsTrue (cond (is_finished s) false true)
taken_active Scheduled is = refl
taken_active Running is = refl
taken_active Submitted is = refl
taken_active Compacted is = refl
taken_active Completed is = absurd (cc is.waiting)
taken_active Failed is = absurd (cc is.waiting)

open_active : (s : Status) → IsTrue (is_open s) → IsTrue (cond (is_finished s) false true)
open_active Scheduled is = refl
open_active Running is = refl
open_active Submitted is = refl
open_active Compacted is = refl
open_active Completed is = absurd (cc is)
open_active Failed is = absurd (cc is)

pub stay_active : (f : Job → Job) (these : List ℕ) (jobs : Jobs) → TakesOver f these jobs → StayActive f these jobs
stay_active f these jobs t = all_from _ jobs (λ job there named. (open_active job.status (t.opened job there named), taken_active (f job).status (t.takes job (t.opened job there named))))

pub and_first : (a b : Bool) → (a && b) ≡ true → a ≡ true
and_first true b e = refl
and_first false b e = absurd (cc e)

-- If a finished job with a greater id is among the jobs, one still is after a worker's change of unfinished jobs.
outlived_changed : (f : Job → Job) (these : List ℕ) (jobs : Jobs) (job : Job) → TakesOver f these jobs → IsOutlived jobs job → IsOutlived (changed_jobs f these jobs) job
outlived_changed f these jobs job t h =
    let found = any_element (λ (other : Job). is_finished other.status && nat_lt job.id other.id) jobs h in
    any_of (λ (other : Job). is_finished other.status && nat_lt job.id other.id) (changed_jobs f these jobs) found.element (there jobs found.element found.there (other found.element found.there (and_first _ _ found.passes))) found.passes
  where
    there : (xs : Jobs) (x : Job) → IsIn x xs → contains these x.id ≡ false → IsIn x (changed_jobs f these xs)
    there [] x one lacks = absurd one
    there (y ∷ xs) x (inl same) lacks = inl (ap (λ b. cond b (f y) y) (ap (λ (j : Job). contains these j.id) same ∙ lacks) ∙ same)
    there (y ∷ xs) x (inr one) lacks = inr (there xs x one lacks)

    other : (x : Job) → IsIn x jobs → is_finished x.status ≡ true → contains these x.id ≡ false
    other x one over = by (contains these x.id) refl
      where
        by : (b : Bool) → contains these x.id ≡ b → b ≡ false
        by true e = absurd (cc (over, active_not_finished x.status (open_active x.status (t.opened x one e))))
        by false e = refl

-- A worker's change of Scheduled and Running jobs leaves how local jobs merge with the stored ones.
pub merge_changed : (local jobs : Jobs) (f : Job → Job) (these : List ℕ) → TakesOver f these jobs → trimmed_jobs jobs ≡ jobs → JobsMerge local jobs → JobsMerge local (trimmed_jobs (changed_jobs f these jobs))
merge_changed local jobs f these t trims h = subst (JobsMerge local) (sym (changed_stay f these jobs (stay_active f these jobs t) trims)) (record {
  stored_stay = all_on_these _ f these jobs (λ job there. by_these (λ (n : Job). taken_job (job_with n.id local) n ≡ Some n) f these job
      (λ named. subst (λ id. taken_job (job_with id local) (f job) ≡ Some (f job)) (sym (t.ids job)) (taken_still (job_with job.id local) job (f job) (t.opened job there named) (t.takes job (t.opened job there named)) (all_at _ jobs job h.stored_stay there)))
      (λ other. all_at (λ (n : Job). taken_job (job_with n.id local) n ≡ Some n) jobs job h.stored_stay there));
  local_stay = all_to _ _ local (λ job there old. subst (IsStillStored (changed_jobs f these jobs) job) (sym (with_changed f these job.id jobs t.ids)) (still job (job_with job.id jobs) old)) h.local_stay;
})
  where
    still : (job : Job) (o : Option Job) → IsStillStored jobs job o → IsStillStored (changed_jobs f these jobs) job (option_map (on_these f these) o)
    still job None old = (old.0, outlived_changed f these jobs job t old.1)
    still job (Some other) old = tt

-- ---- new jobs

later_put : (new : Job) (jobs : Jobs) → is_finished new.status ≡ false → finished_later (put_job new jobs) ≡ finished_later jobs
later_put new [] is = ap (λ b. b || false) is
later_put new (job ∷ jobs) is = by (nat_lt new.id job.id) (later_put new jobs is)
  where
    by : (b : Bool) → finished_later (put_job new jobs) ≡ finished_later jobs → finished_later (cond b (new ∷ job ∷ jobs) (job ∷ put_job new jobs)) ≡ finished_later (job ∷ jobs)
    by true rest = ap (λ c. c || finished_later (job ∷ jobs)) is
    by false rest = ap (λ c. is_finished job.status || c) rest

-- If a put would drop none of the jobs, it drops none with a new active job among them.
put_trimmed : (new : Job) (jobs : Jobs) → is_finished new.status ≡ false → IsTrue (is_active new) → IsTrimmed jobs → IsTrimmed (put_job new jobs)
put_trimmed new [] is active h = (inl active, tt)
put_trimmed new (job ∷ jobs) is active h = by (nat_lt new.id job.id) (put_trimmed new jobs is active h.1)
  where
    last : IsTrue (is_active job) ⊎ (finished_later jobs ≡ false) → IsTrue (is_active job) ⊎ (finished_later (put_job new jobs) ≡ false)
    last (inl was) = inl was
    last (inr none) = inr (later_put new jobs is ∙ none)

    by : (b : Bool) → IsTrimmed (put_job new jobs) → IsTrimmed (cond b (new ∷ job ∷ jobs) (job ∷ put_job new jobs))
    by true rest = (inl active, h)
    by false rest = (last h.0, rest)

pub new_trimmed : (named : List (ℕ × JobSpec)) (jobs : Jobs) → IsTrimmed jobs → IsTrimmed (with_new named jobs)
new_trimmed [] jobs h = h
new_trimmed (p ∷ named) jobs h = new_trimmed named (put_job (new_job p) jobs) (put_trimmed (new_job p) jobs refl refl h)

-- A job of a list is still there when a new job is put in.
old_in_put : (new : Job) (jobs : Jobs) (job : Job) → IsIn job jobs → IsIn job (put_job new jobs)
old_in_put new [] job there = absurd there
old_in_put new (first ∷ jobs) job (inl same) = by (nat_lt new.id first.id)
  where
    by : (b : Bool) → IsIn job (cond b (new ∷ first ∷ jobs) (first ∷ put_job new jobs))
    by true = inr (inl same)
    by false = inl same
old_in_put new (first ∷ jobs) job (inr there) = by (nat_lt new.id first.id) (old_in_put new jobs job there)
  where
    by : (b : Bool) → IsIn job (put_job new jobs) → IsIn job (cond b (new ∷ first ∷ jobs) (first ∷ put_job new jobs))
    by true rest = inr (inr there)
    by false rest = inr rest

pub old_in_new : (named : List (ℕ × JobSpec)) (jobs : Jobs) (job : Job) → IsIn job jobs → IsIn job (with_new named jobs)
old_in_new [] jobs job there = there
old_in_new (p ∷ named) jobs job there = old_in_new named (put_job (new_job p) jobs) job (old_in_put (new_job p) jobs job there)

-- No job has an id for which none is found.
pub none_with : (id : ℕ) (jobs : Jobs) (job : Job) → job_with id jobs ≡ None → IsIn job jobs → job.id ≡ id → ⊥
none_with id [] job e there same = there
none_with id (first ∷ jobs) job e there same = by (id == first.id) refl (none_with id jobs job) there e
  where
    by : (b : Bool) → (id == first.id) ≡ b → (job_with id jobs ≡ None → IsIn job jobs → job.id ≡ id → ⊥) → (first ≡ job) ⊎ IsIn job jobs → cond b (Some first) (job_with id jobs) ≡ None → ⊥
    by true f rest there e = absurd (cc e)
    by false f rest (inl is) e = absurd (cc (f, (Decides-eqb id first.id).1 (sym same ∙ ap (λ (j : Job). j.id) (sym is))))
    by false f rest (inr one) e = rest e one same

-- New jobs under ids that no local job has leave how local jobs merge with the stored ones.
pub merge_new : (local jobs : Jobs) (named : List (ℕ × JobSpec)) → ((job : Job) (p : ℕ × JobSpec) → IsIn job local → IsIn p named → job.id ≡ p.0 → ⊥) → trimmed_jobs jobs ≡ jobs → JobsMerge local jobs → JobsMerge local (trimmed_jobs (with_new named jobs))
merge_new local jobs named differ trims h = subst (JobsMerge local) (sym (is_trimmed (with_new named jobs) (new_trimmed named jobs (trimmed_is jobs trims)))) (record {
  stored_stay = all_from _ (with_new named jobs) (λ job there. stored job (in_new named jobs job there));
  local_stay = all_to _ _ local (λ job there old. still job (job_with job.id jobs) refl (job_with job.id (with_new named jobs)) refl old) h.local_stay;
})
  where
    not_local : (p : ℕ × JobSpec) → IsIn p named → (o : Option Job) → job_with p.0 local ≡ o → taken_job o (new_job p) ≡ Some (new_job p)
    not_local p there None e = refl
    not_local p there (Some job) e = let found = job_found p.0 local job e in absurd (differ job p found.there there found.same)

    stored : (job : Job) → ((p : ℕ × JobSpec) × (IsIn p named × (new_job p ≡ job))) ⊎ IsIn job jobs → taken_job (job_with job.id local) job ≡ Some job
    stored job (inl found) = subst (λ (n : Job). taken_job (job_with n.id local) n ≡ Some n) found.1.1 (not_local found.0 found.1.0 (job_with found.0.0 local) refl)
    stored job (inr old) = all_at (λ (n : Job). taken_job (job_with n.id local) n ≡ Some n) jobs job h.stored_stay old

    outlived : (job : Job) → IsOutlived jobs job → IsOutlived (with_new named jobs) job
    outlived job h =
        let found = any_element (λ (other : Job). is_finished other.status && nat_lt job.id other.id) jobs h in
        any_of (λ (other : Job). is_finished other.status && nat_lt job.id other.id) (with_new named jobs) found.element (old_in_new named jobs found.element found.there) found.passes

    still : (job : Job) (o : Option Job) → job_with job.id jobs ≡ o → (n : Option Job) → job_with job.id (with_new named jobs) ≡ n → IsStillStored jobs job o → IsStillStored (with_new named jobs) job n
    still job o e (Some new) f old = tt
    still job None e None f old = (old.0, outlived job old.1)
    still job (Some other) e None f old = let found = job_found job.id jobs other e in absurd (none_with job.id (with_new named jobs) other f (old_in_new named jobs other found.there) found.same)
