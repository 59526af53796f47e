-- What a claim and the finishes of a round do: each job that was claimed is finished, and its sources stand.
use Rattle.std.proofs.Common.{◌≡◌, refl, sym, ◌∙◌, ap, subst, ℕ, zero, suc, ◌+◌, ◌-◌, ◌≤◌, ◌<◌, List, [], ◌∷◌, map, Bool, true, false, cond, ◌⊎◌, inl, inr, Option, None, Some, length, arith}
use Rattle.std.specs.Prelude.{◌==◌, ◌&&◌, ◌||◌, not, IsTrue, filter, take, is_none}
use Rattle.std.specs.List.{list_any, AllByRecursion}
use Rattle.std.proofs.lemmas.Bool.Decides.{Decides-eqb}
use Rattle.row_model.specs.Lists.{Pairs}
use Rattle.fleet_model.specs.Nodes.{Trees}
use Rattle.fleet_model.specs.Jobs.{Job, Jobs, Status, Submitted, Scheduled, Running, Compacted, Completed, Failed, knows_cut, status_eq, has_status, is_finished, is_active, contains, changed_jobs, ids, job_with, trimmed_jobs, finished_later}
use Rattle.fleet_model.specs.Work.Records.{Unrecorded, firsts, claimed_by, finished_by}
use Rattle.fleet_model.specs.Work.Parties.{Attempt, LiveWorker, attempt_jobs, put_attempt, with_attempts, without_attempts, is_live, runs_attempt, is_leased_to}
use Rattle.fleet_model.specs.Work.Claims.{is_waiting, has_no_cut, may_take, claimed_jobs, claimed_attempt}
use Rattle.fleet_model.specs.Work.Attempts.{ClaimInput}
use Rattle.fleet_model.specs.Work.Gates.{is_nonempty}
use Rattle.fleet_model.specs.Invariants.JobsFit.{SourcesStand}
use Rattle.step_laws.proofs.Elements.{IsIn, all_at, contains_in}
use Rattle.step_laws.proofs.Changed.{job_found}
use Rattle.course_laws.proofs.Calls.{filtered, both}
use Rattle.commit_laws.proofs.Midway.{only_job}
use Rattle.line_laws.proofs.ClaimSettings.{still_with, in_put}
use Rattle.last_laws.specs.Weights.{IsHeavy, Lightens}
use Rattle.last_laws.proofs.Opens.{IsCalmNew}
use Rattle.rival_laws.proofs.WorkerRecords.{running_active}
use Rattle.step_laws.proofs.Polls.{in_map, from_map}
use Rattle.course_laws.proofs.NewTables.{or_right}

-- ---- jobs in a round

-- A job that is active lightens the trees. It waits for a worker without a context, or it is Running and one of
-- these, or it is Compacted and its sources stand.
abbrev pub IsBusy : Trees → List ℕ → Job → Type 0
IsBusy trees these job = IsTrue (is_active job) → Lightens job.spec × ((IsTrue (has_status Scheduled job) × (job.context ≡ None)) ⊎ ((IsTrue (has_status Running job) × (contains these job.id ≡ true)) ⊎ (IsTrue (has_status Compacted job) × SourcesStand trees job)))

pub waiting_new : (job : Job) → IsCalmNew [] job → IsTrue (is_active job) → Lightens job.spec × (IsTrue (has_status Scheduled job) × (job.context ≡ None))
waiting_new job calm active = by (calm active)
  where
    by : (Lightens job.spec × (IsTrue (has_status Scheduled job) × (job.context ≡ None))) ⊎ (IsHeavy job.spec × (IsTrue (has_status Submitted job) × (contains [] job.id ≡ true))) → Lightens job.spec × (IsTrue (has_status Scheduled job) × (job.context ≡ None))
    by (inl waits) = waits
    by (inr new) = absurd (cc (new.1.1))

scheduled_active : (s : Status) → IsTrue (status_eq Scheduled s) → IsTrue (cond (is_finished s) false true)
scheduled_active Scheduled h = refl
scheduled_active Submitted h = absurd (cc h)
scheduled_active Running h = absurd (cc h)
scheduled_active Compacted h = absurd (cc h)
scheduled_active Completed h = absurd (cc h)
scheduled_active Failed h = absurd (cc h)

three_true : (a b c : Bool) → a ≡ true → b ≡ true → c ≡ true → (a && b && c) ≡ true
three_true true true true h k l = refl
three_true false b c h k l = absurd (cc h)
three_true true false c h k l = absurd (cc k)
three_true true true false h k l = absurd (cc l)

-- ---- what a claim takes

takeable : LiveWorker → Job → Bool
takeable w job = is_waiting job && not (contains (attempt_jobs w.attempts) job.id) && may_take w.release job

-- A claim may take each job that waits without a context, if the worker runs none.
is_takeable : (w : LiveWorker) (job : Job) → w.attempts ≡ [] → (IsTrue (has_status Submitted job || has_status Scheduled job) → IsTrue (is_none job.lease)) → IsTrue (has_status Scheduled job) → job.context ≡ None → takeable w job ≡ true
unfolding takeable
is_takeable w job idle lease waits none =
    three_true (is_waiting job) (not (contains (attempt_jobs w.attempts) job.id)) (may_take w.release job)
    (and_true (has_status Scheduled job) (is_none job.lease) waits (lease (or_right (has_status Submitted job) (has_status Scheduled job) waits)))
    (ap (λ attempts. not (contains (attempt_jobs attempts) job.id)) idle)
    (or_right (knows_cut w.release) (has_no_cut job.context) (ap has_no_cut none))
  where
    and_true : (a b : Bool) → a ≡ true → b ≡ true → (a && b) ≡ true
    and_true true b h k = k
    and_true false b h k = h

-- If a job is active, there is one that a claim may take.
some_takeable : (w : LiveWorker) (jobs : Jobs) → w.attempts ≡ [] → AllByRecursion (λ job. IsTrue (has_status Submitted job || has_status Scheduled job) → IsTrue (is_none job.lease)) jobs → AllByRecursion (IsCalmNew []) jobs
    → list_any is_active jobs ≡ true → is_nonempty (filter (takeable w) jobs) ≡ true
some_takeable w [] idle leases calm active = absurd (cc active)
some_takeable w (job ∷ jobs) idle leases calm active = by (is_active job) refl active (some_takeable w jobs idle leases.1 calm.1)
  where
    more : (b : Bool) → is_nonempty (filter (takeable w) jobs) ≡ true → is_nonempty (cond b (job ∷ filter (takeable w) jobs) (filter (takeable w) jobs)) ≡ true
    more true h = refl
    more false h = h

    by : (b : Bool) → is_active job ≡ b → (b || list_any is_active jobs) ≡ true → (list_any is_active jobs ≡ true → is_nonempty (filter (takeable w) jobs) ≡ true) → is_nonempty (cond (takeable w job) (job ∷ filter (takeable w) jobs) (filter (takeable w) jobs)) ≡ true
    by true e h rest =
        let waits = waiting_new job calm.0 e in
        ap (λ b. is_nonempty (cond b (job ∷ filter (takeable w) jobs) (filter (takeable w) jobs))) (is_takeable w job idle leases.0 waits.1.0 waits.1.1)
    by false e h rest = more (takeable w job) (rest h)

some_taken : {A : Type 0} (n : ℕ) (xs : List A) → 1 ≤ n → is_nonempty xs ≡ true → is_nonempty (take n xs) ≡ true
some_taken zero xs low some = absurd (omega (arith, low))
some_taken (suc n) [] low some = some
some_taken (suc n) (x ∷ xs) low some = refl

in_taken : {A : Type 0} (n : ℕ) (xs : List A) (x : A) → IsIn x (take n xs) → IsIn x xs
in_taken zero xs x there = absurd there
in_taken (suc n) [] x there = absurd there
in_taken (suc n) (y ∷ xs) x (inl same) = inl same
in_taken (suc n) (y ∷ xs) x (inr there) = inr (in_taken n xs x there)

-- The jobs that a claim takes are these, and each of them waits.
taken_waits : (slots : ℕ) (w : LiveWorker) (jobs : Jobs) (job : Job) → IsIn job (claimed_jobs slots w jobs) → IsIn job jobs × IsTrue (has_status Scheduled job)
unfolding takeable
taken_waits slots w jobs job there =
    let f = all_at (λ job. IsIn job jobs × (takeable w job ≡ true)) (filter (takeable w) jobs) job (filtered (takeable w) jobs) (in_taken (slots - length w.attempts) (filter (takeable w) jobs) job there) in
    (f.0, (both (has_status Scheduled job) (is_none job.lease) (both (is_waiting job) (not (contains (attempt_jobs w.attempts) job.id)) (both (is_waiting job && not (contains (attempt_jobs w.attempts) job.id)) (may_take w.release job) f.1).0).0).0)

pub claims_some : (slots : ℕ) (w : LiveWorker) (jobs : Jobs) → w.attempts ≡ [] → 1 ≤ slots → AllByRecursion (λ job. IsTrue (has_status Submitted job || has_status Scheduled job) → IsTrue (is_none job.lease)) jobs → AllByRecursion (IsCalmNew []) jobs
    → list_any is_active jobs ≡ true → is_nonempty (claimed_jobs slots w jobs) ≡ true
unfolding takeable
claims_some slots w jobs idle some leases calm active =
    let none = ap length idle in
    some_taken (slots - length w.attempts) (filter (takeable w) jobs) (omega (arith, some, none)) (some_takeable w jobs idle leases calm active)

-- ---- attempts

new_with : (new attempts : List Attempt) (x : Attempt) → IsIn x new → IsIn x (with_attempts new attempts)
new_with [] attempts x there = absurd there
new_with (a ∷ new) attempts x (inl same) = still_with new (put_attempt a attempts) x (subst (λ y. IsIn y (put_attempt a attempts)) same (in_put a attempts))
new_with (a ∷ new) attempts x (inr there) = new_with new (put_attempt a attempts) x there

-- A claimed job has an attempt.
pub has_attempt : (input : ClaimInput) (taken : Jobs) (attempts : List Attempt) (id : ℕ) → IsIn id (ids taken) → IsIn id (attempt_jobs (with_attempts (map (claimed_attempt input) taken) attempts))
has_attempt input taken attempts id there =
    let (job, (one, same)) = from_map (λ (job : Job). job.id) taken id there in
    subst (λ n. IsIn n (attempt_jobs (with_attempts (map (claimed_attempt input) taken) attempts))) same
    (in_map (λ (a : Attempt). a.job) (with_attempts (map (claimed_attempt input) taken) attempts) (claimed_attempt input job) (new_with (map (claimed_attempt input) taken) attempts (claimed_attempt input job) (in_map (claimed_attempt input) taken job one)))

some_in : {A : Type 0} (xs : List A) (x : A) → IsIn x xs → 1 ≤ length xs
some_in [] x there = absurd there
some_in (y ∷ xs) x there = omega arith

pub some_attempt : (input : ClaimInput) (taken : Jobs) (attempts : List Attempt) → is_nonempty taken ≡ true → 1 ≤ length (with_attempts (map (claimed_attempt input) taken) attempts)
some_attempt input [] attempts some = absurd (cc some)
some_attempt input (job ∷ taken) attempts some = some_in (with_attempts (map (claimed_attempt input) (job ∷ taken)) attempts) (claimed_attempt input job) (new_with (map (claimed_attempt input) (job ∷ taken)) attempts (claimed_attempt input job) (inl refl))

-- ---- the jobs after a claim

pub firsts_are : (taken : Jobs) → firsts (map (λ (job : Job). (job.id, job.attempt + 1)) taken) ≡ ids taken
firsts_are [] = refl
firsts_are (job ∷ taken) = ap (λ rest. job.id ∷ rest) (firsts_are taken)

-- Claimed jobs run with the worker, and the others wait.
pub busy_claimed : (trees : Trees) (worker moment slots : ℕ) (w : LiveWorker) (all jobs : Jobs) (these : List ℕ) → Pairs (λ a b. a.id < b.id) all → AllByRecursion (λ job. IsIn job all × IsCalmNew [] job) jobs → AllByRecursion (IsCalmNew []) all
    → ((id : ℕ) → IsIn id (ids (claimed_jobs slots w all)) → contains these id ≡ true) → AllByRecursion (IsBusy trees these) (changed_jobs (claimed_by worker moment) (ids (claimed_jobs slots w all)) jobs)
busy_claimed trees worker moment slots w all [] these rise h calm runs = tt
busy_claimed trees worker moment slots w all (job ∷ jobs) these rise h calm runs = (by (contains (ids (claimed_jobs slots w all)) job.id) refl, busy_claimed trees worker moment slots w all jobs these rise h.1 calm runs)
  where
    light : (t : Job) → IsIn t (claimed_jobs slots w all) → t.id ≡ job.id → Lightens job.spec
    light t one same =
        let f = taken_waits slots w all t one in
        subst (λ (j : Job). Lightens j.spec) (only_job all t job rise f.0 h.0.0 same) (waiting_new t (all_at (IsCalmNew []) all t calm f.0) (scheduled_active t.status f.1)).0

    by : (b : Bool) → contains (ids (claimed_jobs slots w all)) job.id ≡ b → IsBusy trees these (cond b (claimed_by worker moment job) job)
    by true e active =
        let there = contains_in (ids (claimed_jobs slots w all)) job.id e in
        let (t, (one, same)) = from_map (λ (job : Job). job.id) (claimed_jobs slots w all) job.id there in
        (light t one same, inr (inl (refl, runs job.id there)))
    by false e active = let waits = waiting_new job h.0.1 active in (waits.0, inl waits.1)

-- ---- the jobs after a finish

-- The job that a finish ends: it was Running.
pub record Ended (jobs : Jobs) (id : ℕ) : Type 0 where
  pub job : Job
  pub there : IsIn job jobs
  pub same : job.id ≡ id
  pub runs : IsTrue (has_status Running job)

pub live_runs : (jobs : Jobs) (worker : ℕ) (a : Attempt) → is_live jobs worker a ≡ true → Ended jobs a.job
live_runs jobs worker a live = by (job_with a.job jobs) refl live
  where
    by : (o : Option Job) → job_with a.job jobs ≡ o → runs_attempt worker a.number o ≡ true → Ended jobs a.job
    by None e live = absurd (cc live)
    by (Some job) e live = let f = job_found a.job jobs job e in record { job = job; there = f.there; same = f.same; runs = (both (has_status Running job) (is_leased_to worker job.lease) (both (has_status Running job && is_leased_to worker job.lease) (a.number == job.attempt) live).0).0 }

-- The attempts at other jobs stay.
still_run : (id other : ℕ) (attempts : List Attempt) → (id == other) ≡ false → contains (attempt_jobs attempts) other ≡ true → contains (attempt_jobs (without_attempts (id ∷ []) attempts)) other ≡ true
still_run id other [] differ there = there
still_run id other (a ∷ attempts) differ there = by (id == a.job) refl (a.job == other) refl there (still_run id other attempts differ)
  where
    by : (b : Bool) → (id == a.job) ≡ b → (c : Bool) → (a.job == other) ≡ c → cond c true (contains (attempt_jobs attempts) other) ≡ true
        → (contains (attempt_jobs attempts) other ≡ true → contains (attempt_jobs (without_attempts (id ∷ []) attempts)) other ≡ true)
        → contains (attempt_jobs (cond (not (cond b true false)) (a ∷ without_attempts (id ∷ []) attempts) (without_attempts (id ∷ []) attempts))) other ≡ true
    by true e true f there rest = let same = ap (λ n. n == other) ((Decides-eqb id a.job).0 e) in absurd (cc (same, f, differ))
    by true e false f there rest = rest there
    by false e true f there rest = ap (λ c. cond c true (contains (attempt_jobs (without_attempts (id ∷ []) attempts)) other)) f
    by false e false f there rest = ap (λ c. cond c true (contains (attempt_jobs (without_attempts (id ∷ []) attempts)) other)) f ∙ rest there

fewer_at_most : (id : ℕ) (attempts : List Attempt) → length (without_attempts (id ∷ []) attempts) ≤ length attempts
fewer_at_most id [] = omega arith
fewer_at_most id (a ∷ attempts) = by (id == a.job) (fewer_at_most id attempts)
  where
    by : (b : Bool) → length (without_attempts (id ∷ []) attempts) ≤ length attempts → length (cond (not (cond b true false)) (a ∷ without_attempts (id ∷ []) attempts) (without_attempts (id ∷ []) attempts)) ≤ length (a ∷ attempts)
    by true rest = omega (arith, rest)
    by false rest = omega (arith, rest)

pub fewer : (x : Attempt) (attempts : List Attempt) → IsIn x attempts → length (without_attempts (x.job ∷ []) attempts) < length attempts
fewer x [] there = absurd there
fewer x (a ∷ attempts) there = by (x.job == a.job) refl there (fewer x attempts)
  where
    by : (b : Bool) → (x.job == a.job) ≡ b → (a ≡ x) ⊎ IsIn x attempts → (IsIn x attempts → length (without_attempts (x.job ∷ []) attempts) < length attempts)
        → length (cond (not (cond b true false)) (a ∷ without_attempts (x.job ∷ []) attempts) (without_attempts (x.job ∷ []) attempts)) < length (a ∷ attempts)
    by true e there rest = let low = fewer_at_most x.job attempts in omega (arith, low)
    by false e (inl same) rest = let here = (Decides-eqb x.job a.job).1 (ap (λ (y : Attempt). y.job) (sym same)) in absurd (cc (here, e))
    by false e (inr one) rest = let low = rest one in omega (arith, low)

stands_ended : (trees : Trees) (worker : ℕ) (unrecorded : Unrecorded) (outputs : List (List ℕ)) (job : Job) → SourcesStand trees job → SourcesStand trees (finished_by worker unrecorded outputs job)
stands_ended trees worker unrecorded outputs job h = record { some = h.some; stretch = h.stretch; source_tables = h.source_tables; destination = h.destination }

-- A finish ends one job, whose sources stand, and leaves the others.
pub busy_ended : (trees : Trees) (worker id : ℕ) (unrecorded : Unrecorded) (outputs : List (List ℕ)) (attempts : List Attempt) (all jobs : Jobs) → Pairs (λ a b. a.id < b.id) all → Ended all id → AllByRecursion (λ job. IsIn job all × IsBusy trees (attempt_jobs attempts) job) jobs
    → ((job : Job) → IsIn job all → IsTrue (has_status Running job) → SourcesStand trees job)
    → AllByRecursion (IsBusy trees (attempt_jobs (without_attempts (id ∷ []) attempts))) (changed_jobs (finished_by worker unrecorded outputs) (id ∷ []) jobs)
busy_ended trees worker id unrecorded outputs attempts all [] rise ended h stands = tt
busy_ended trees worker id unrecorded outputs attempts all (job ∷ jobs) rise ended h stands = (by (id == job.id) refl, busy_ended trees worker id unrecorded outputs attempts all jobs rise ended h.1 stands)
  where
    runs : (id == job.id) ≡ true → IsTrue (has_status Running job)
    runs e = subst (λ (j : Job). IsTrue (has_status Running j)) (only_job all ended.job job rise ended.there h.0.0 (ended.same ∙ (Decides-eqb id job.id).0 e)) ended.runs

    other : (id == job.id) ≡ false → (IsTrue (has_status Scheduled job) × (job.context ≡ None)) ⊎ ((IsTrue (has_status Running job) × (contains (attempt_jobs attempts) job.id ≡ true)) ⊎ (IsTrue (has_status Compacted job) × SourcesStand trees job))
        → (IsTrue (has_status Scheduled job) × (job.context ≡ None)) ⊎ ((IsTrue (has_status Running job) × (contains (attempt_jobs (without_attempts (id ∷ []) attempts)) job.id ≡ true)) ⊎ (IsTrue (has_status Compacted job) × SourcesStand trees job))
    other e (inl waits) = inl waits
    other e (inr (inl one)) = inr (inl (one.0, still_run id job.id attempts e one.1))
    other e (inr (inr ends)) = inr (inr ends)

    by : (b : Bool) → (id == job.id) ≡ b → IsBusy trees (attempt_jobs (without_attempts (id ∷ []) attempts)) (cond (cond b true false) (finished_by worker unrecorded outputs job) job)
    by true e active =
        let busy = h.0.1 (running_active job.status (runs e)) in
        (busy.0, inr (inr (refl, stands_ended trees worker unrecorded outputs job (stands job h.0.0 (runs e)))))
    by false e active = let busy = h.0.1 active in (busy.0, other e busy.1)

pub ended_there : (worker id : ℕ) (unrecorded : Unrecorded) (outputs : List (List ℕ)) (jobs : Jobs) → IsIn id (ids jobs) → list_any (has_status Compacted) (changed_jobs (finished_by worker unrecorded outputs) (id ∷ []) jobs) ≡ true
ended_there worker id unrecorded outputs [] there = absurd there
ended_there worker id unrecorded outputs (job ∷ jobs) (inl same) =
    ap (λ b. has_status Compacted (cond (cond b true false) (finished_by worker unrecorded outputs job) job) || list_any (has_status Compacted) (changed_jobs (finished_by worker unrecorded outputs) (id ∷ []) jobs)) ((Decides-eqb id job.id).1 (sym same))
ended_there worker id unrecorded outputs (job ∷ jobs) (inr there) = or_right _ _ (ended_there worker id unrecorded outputs jobs there)

compacted_is_active : (s : Status) → IsTrue (status_eq Compacted s) → cond (is_finished s) false true ≡ true
compacted_is_active Compacted h = refl
compacted_is_active Submitted h = absurd (cc h)
compacted_is_active Scheduled h = absurd (cc h)
compacted_is_active Running h = absurd (cc h)
compacted_is_active Completed h = absurd (cc h)
compacted_is_active Failed h = absurd (cc h)

-- A put of the records drops no job that waits for its commit.
pub compacted_stays : (jobs : Jobs) → list_any (has_status Compacted) jobs ≡ true → list_any (has_status Compacted) (trimmed_jobs jobs) ≡ true
compacted_stays [] h = h
compacted_stays (job ∷ jobs) h = by (has_status Compacted job) refl (is_active job) refl (finished_later jobs) h (compacted_stays jobs)
  where
    by : (a : Bool) → has_status Compacted job ≡ a → (b : Bool) → is_active job ≡ b → (c : Bool) → (a || list_any (has_status Compacted) jobs) ≡ true → (list_any (has_status Compacted) jobs ≡ true → list_any (has_status Compacted) (trimmed_jobs jobs) ≡ true)
        → list_any (has_status Compacted) (cond b (job ∷ trimmed_jobs jobs) (cond c (trimmed_jobs jobs) (job ∷ trimmed_jobs jobs))) ≡ true
    by true e true f c h rest = ap (λ a. a || list_any (has_status Compacted) (trimmed_jobs jobs)) e
    by true e false f c h rest = let here = compacted_is_active job.status e in absurd (cc (here, f))
    by false e true f c h rest = or_right (has_status Compacted job) (list_any (has_status Compacted) (trimmed_jobs jobs)) (rest h)
    by false e false f true h rest = rest h
    by false e false f false h rest = or_right (has_status Compacted job) (list_any (has_status Compacted) (trimmed_jobs jobs)) (rest h)
