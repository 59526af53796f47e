-- A worker fits after its claim.
use Rattle.std.proofs.Common.{◌≡◌, refl, sym, ◌∙◌, ap, subst, ℕ, zero, suc, ◌+◌, ◌-◌, ◌<◌, List, [], ◌∷◌, ◌++◌, cond, Bool, true, false, inl, inr, ◌⊎◌, Option, Some, None, length}
use Rattle.std.specs.Prelude.{IsTrue, IfSome, ◌==◌, ◌&&◌, not, filter, map}
use Rattle.std.specs.List.{AllByRecursion}
use Rattle.std.proofs.lemmas.Bool.Decides.{Decides-eqb}
use Rattle.std.proofs.lemmas.List.{append-nil}
use Rattle.row_model.specs.Lists.{Pairs}
use Rattle.row_model.specs.Fold.{Operator}
use Rattle.fleet_model.specs.Jobs.{JobSpec, Job, Jobs, Context, knows_cut, contains, trimmed_jobs, job_with, ids}
use Rattle.fleet_model.specs.History.{Worker, GetManifest, GetRecords, RecordChange, Claim}
use Rattle.fleet_model.specs.Past.Claimed.{noted_plan}
use Rattle.fleet_model.specs.Store.{Store, Records, jobs_in, stored_jobs}
use Rattle.fleet_model.specs.Work.Records.{jobs_after}
use Rattle.fleet_model.specs.Work.Attempts.{context_or, fresh_context}
use Rattle.fleet_model.specs.Work.Claims.{is_waiting, may_take, claimed_jobs, stopped_jobs, claimed_attempt}
use Rattle.fleet_model.specs.Work.Parties.{Attempt, LiveWorker, attempt_jobs, runs_attempt, without_attempts, put_attempt, with_attempts}
use Rattle.fleet_model.specs.Exchanges.{Exchange, Plain, PutsRecords, records_version}
use Rattle.step_model.specs.Past.{World}
use Rattle.step_model.specs.Rivals.{Caller, Rivals, after_call}
use Rattle.step_model.specs.Kept.Keeps.{Keeps}
use Rattle.step_model.specs.Kept.Faithful.{Faithful}
use Rattle.step_model.specs.Fits.{WorkerHolds}
use Rattle.step_model.specs.Courses.Course.{Course, Ends, Calls}
use Rattle.step_model.specs.Courses.Tries.{tries}
use Rattle.step_model.specs.Courses.CourseRuns.{End, Gives, StopsAt, Runs, IsLawfulCourse}
use Rattle.step_model.specs.Courses.StepEnds.{StepEnd, Reports, GivesUp, most_refused}
use Rattle.step_model.specs.Steps.ClaimSteps.{WorkerOptions, Claimed, at_moment, can_start, starts_claimed, claim_of, claim_by, claim_try, claim}
use Rattle.step_laws.proofs.Elements.{IsIn, all_at, all_from, all_to, all_append, contains_no, in_contains}
use Rattle.step_laws.proofs.Changed.{found_job}
use Rattle.step_laws.proofs.Mute.{mute_event}
use Rattle.step_laws.proofs.RecordsBodies.{with_records}
use Rattle.step_laws.proofs.TableReplays.{all_filter}
use Rattle.commit_laws.proofs.Midway.{only_job}
use Rattle.rival_laws.proofs.WorkerFollows.{Follows, holds_after, from_filter}
use Rattle.rival_laws.proofs.WorkerCalls.{claim_grows}
use Rattle.rival_laws.proofs.Workers.{rivals_follow}
use Rattle.course_laws.proofs.Beats.{Fit, fit_got}
use Rattle.course_laws.proofs.Calls.{all_map, all_take, pairs_take, pairs_filter, filtered}
use Rattle.course_laws.proofs.Claims.{next_attempt, put_stood, claims_are_lawful}
use Rattle.course_laws.proofs.Later.{later_itself, later_met}
use Rattle.course_laws.proofs.Puts.{got_records}
use Rattle.course_laws.proofs.Made.{Relies}
use Rattle.course_laws.specs.Afterwards.{ComesAfter}
use Rattle.course_laws.proofs.Afterwards.{comes_itself, comes_then, comes_by, comes_met, comes_called}
use Rattle.step_laws.specs.Runs.{CallsKeep}
use Rattle.worker_laws.specs.ClaimReports.{claim_input, IsLost, TookThese, TookOf, ClaimDid, ClaimsReport}
use Rattle.worker_laws.proofs.CanStart.{lost_at}
use Rattle.worker_laws.specs.Claims.{TakesOver, ClaimSays, ClaimsKeepFit}
use Rattle.worker_laws.proofs.Attempts.{all_put, holds_fewer}
use Rattle.worker_laws.proofs.Runs.{Made, Left, call_by, left_stopped, left_reported, left_ended}
use Rattle.worker_laws.proofs.OwnCalls.{own_entry, put_world, own_calls_keep}
use Rattle.worker_laws.proofs.Begun.{single, RunsAs, Waits, waits_follow}
use Rattle.worker_laws.proofs.Taken.{attempt_with, taken_by, blank, over_taken, AreWaiting, stored_taken, Took, took_runs, took_waits, took_over}
use Rattle.worker_laws.proofs.Awaits.{AwaitsGet, awaits_after, rivals_await, IsUnplanned, none_planned, noted_none, rivals_unplanned}
use Rattle.worker_laws.proofs.Starts.{plain_entry, plain_world, follow_plain, begins_at_get}
use Rattle.worker_laws.proofs.Plans.{Began, attempt_of, left_of, IsStarting, IsStarted, runs_follow, counted_next, plans_noted, holds_begun}
use Rattle.step_laws.proofs.Polls.{in_map}
use Rattle.rival_laws.proofs.FreeTables.{refused}

-- ---- the jobs that a claim takes

-- A job that a claim takes is stored and waits, the worker does not run it, and may take it.
record IsChosen (w : LiveWorker) (jobs : Jobs) (job : Job) : Type 0 where
  there : IsIn job jobs
  waits : IsTrue (is_waiting job)
  not_run : contains (attempt_jobs w.attempts) job.id ≡ false
  may : may_take w.release job ≡ true

-- The jobs that a claim takes, by rising id.
record AreChosen (w : LiveWorker) (jobs these : Jobs) : Type 0 where
  each : AllByRecursion (IsChosen w jobs) these
  rise : Pairs (λ a b. a.id < b.id) these

-- A stored job that passes the test of a claim waits, the worker does not run it, and the worker may take it.
is_chosen : (w : LiveWorker) (jobs : Jobs) (job : Job) → IsIn job jobs → (is_waiting job && not (contains (attempt_jobs w.attempts) job.id) && may_take w.release job) ≡ true → IsChosen w jobs job
is_chosen w jobs job there e = record {
  there = there;
  waits = first (is_waiting job) (not (contains (attempt_jobs w.attempts) job.id)) (may_take w.release job) e;
  not_run = second (is_waiting job) (contains (attempt_jobs w.attempts) job.id) (may_take w.release job) e;
  may = third (is_waiting job) (not (contains (attempt_jobs w.attempts) job.id)) (may_take w.release job) e;
}
  where
    first : (a b c : Bool) → (a && b && c) ≡ true → a ≡ true
    first true b c e = refl
    first false b c e = absurd (cc e)

    second : (a b c : Bool) → (a && not b && c) ≡ true → b ≡ false
    second true true c e = absurd (cc e)
    second true false c e = refl
    second false b c e = absurd (cc e)

    third : (a b c : Bool) → (a && b && c) ≡ true → c ≡ true
    third true true c e = e
    third true false c e = absurd (cc e)
    third false b c e = absurd (cc e)

are_chosen : (slots : ℕ) (w : LiveWorker) (jobs : Jobs) → Pairs (λ a b. a.id < b.id) jobs → AreChosen w jobs (claimed_jobs slots w jobs)
are_chosen slots w jobs rise =
    let test = λ (job : Job). is_waiting job && not (contains (attempt_jobs w.attempts) job.id) && may_take w.release job in
    record {
      each = all_take _ (slots - length w.attempts) (filter test jobs) (all_to _ _ (filter test jobs) (λ job there h. is_chosen w jobs job h.0 h.1) (filtered test jobs));
      rise = pairs_take _ (slots - length w.attempts) (filter test jobs) (pairs_filter _ test jobs rise);
    }

-- ---- between the put and the get

-- The job had no context. The worker awaits its get, and its plan is not noted.
record IsBlank (world : World) (w : LiveWorker) (moment : ℕ) (job : Job) : Type 0 where
  none : job.context ≡ None
  waits : Waits world w (attempt_with job blank) (taken_by w moment job)
  awaits : AwaitsGet w.number job.id (job.attempt + 1) world.store.history
  unplanned : IsUnplanned w.number job.id (job.attempt + 1) world.store.history

-- The worker fits with the attempt alone, which takes over the job's context.
record TookOver (merge : Operator) (world : World) (w : LiveWorker) (moment : ℕ) (job : Job) : Type 0 where
  context : Context
  is : job.context ≡ Some context
  runs : RunsAs w (attempt_with job (over_taken w context)) (taken_by w moment job) world
  holds : WorkerHolds merge world (single w (attempt_with job (over_taken w context)))

abbrev IsPending : Operator → World → LiveWorker → ℕ → Job → Type 0
IsPending merge world w moment job = IsBlank world w moment job ⊎ TookOver merge world w moment job

over_follow : (merge : Operator) (old now : World) (w : LiveWorker) (moment : ℕ) (job : Job) (t : TookOver merge old w moment job) (specs : ℕ → JobSpec) → Faithful old specs → Follows old now (single w (attempt_with job (over_taken w t.context))) → TookOver merge now w moment job
over_follow merge old now w moment job t specs faithful f = record {
  context = t.context;
  is = t.is;
  runs = runs_follow old now w (attempt_with job (over_taken w t.context)) (taken_by w moment job) f t.holds.each.0 t.runs;
  holds = holds_after merge old now (single w (attempt_with job (over_taken w t.context))) specs faithful f t.holds;
}

-- Calls of others leave a job pending that the worker's claim took.
rivals_pending : (who : Caller) (w : LiveWorker) (moment : ℕ) (job : Job) (old new : World) → Relies who w → Keeps who.merge old → Rivals who old new → IsPending who.merge old w moment job → IsPending who.merge new w moment job
rivals_pending who w moment job old new r kept rivals (inl s) = inl (record {
  none = s.none;
  waits = rivals_follow who old new (single w (attempt_with job blank)) (λ world. Waits world w (attempt_with job blank) (taken_by w moment job)) r.keep r.own (counted_next job, tt)
      (λ one now specs faithful f h. waits_follow one now w (attempt_with job blank) (taken_by w moment job) f h) kept rivals s.waits;
  awaits = rivals_await who w.number job.id (job.attempt + 1) old new r.keep r.own kept rivals s.awaits;
  unplanned = rivals_unplanned who w.number job.id (job.attempt + 1) old new r.keep r.own kept rivals s.unplanned;
})
rivals_pending who w moment job old new r kept rivals (inr t) =
    let a = attempt_with job (over_taken w t.context) in
    let both = rivals_follow who old new (single w a) (λ world. RunsAs w a (taken_by w moment job) world × WorkerHolds who.merge world (single w a)) r.keep r.own (counted_next job, tt)
    (λ one now specs faithful f h. (runs_follow one now w a (taken_by w moment job) f h.1.each.0 h.0, holds_after who.merge one now (single w a) specs faithful f h.1)) kept rivals (t.runs, t.holds) in
    inr (record { context = t.context; is = t.is; runs = both.0; holds = both.1 })

-- After the put, each job that it takes is pending.
pending_after : (who : Caller) (w : LiveWorker) (moment : ℕ) (put : World) (got : Records) (these : Jobs) → put.store.records ≡ Some got → AreChosen w got.jobs these → (got.version == records_version put.store.records) ≡ true
    → Keeps who.merge put
    → let x = PutsRecords got.version (Claim w.number (map next_attempt these)) got.epoch (jobs_after (at_moment moment) (Claim w.number (map next_attempt these)) got.jobs) in
    Keeps who.merge (after_call who.line who.party x None put) → AllByRecursion (IsPending who.merge (after_call who.line who.party x None put) w moment) these
pending_after who w moment put got these same chosen e kept afterwards = all_from _ these (λ job there. pending job there (all_at (IsChosen w got.jobs) these job chosen.each there) job.context refl)
  where
    change : RecordChange
    change = Claim w.number (map next_attempt these)

    jobs : Jobs
    jobs = jobs_after (at_moment moment) change got.jobs

    now : World
    now = after_call who.line who.party (PutsRecords got.version change got.epoch jobs) None put

    world_now : now ≡ with_records put (record { version = got.version + 1; epoch = got.epoch; jobs = jobs }) (own_entry who.line who.party put change)
    world_now = put_world who.line who.party put got.version change got.epoch jobs e

    rise : Pairs (λ a b. a.id < b.id) got.jobs
    rise = subst (λ o. Pairs (λ a b. a.id < b.id) (jobs_in o)) same kept.stored.sound.job_ids

    short : trimmed_jobs got.jobs ≡ got.jobs
    short = subst (λ o. trimmed_jobs (jobs_in o) ≡ jobs_in o) same kept.facts.names.trimmed_already

    waiting : AreWaiting got.jobs these
    waiting = record { stored = all_to _ _ these (λ job there c. c.there) chosen.each; wait = all_to _ _ these (λ job there c. c.waits) chosen.each; rise = chosen.rise }

    history_now : now.store.history ≡ put.store.history ++ own_entry who.line who.party put change ∷ []
    history_now = ap (λ (t : World). t.store.history) world_now

    stored_before : (job : Job) → IsIn job these → job_with job.id (stored_jobs put.store) ≡ Some job
    stored_before job there = ap (λ o. job_with job.id (jobs_in o)) same ∙ found_job got.jobs job rise (all_at (IsChosen w got.jobs) these job chosen.each there).there

    took : (job : Job) → IsIn job these → Took now w moment job
    took job there = record {
      stored = ap (λ (t : World). job_with job.id (stored_jobs t.store)) world_now ∙ stored_taken w moment got.jobs these job rise short waiting there;
      claimed = all_at _ these job (put_stood who put got.version w.number got.epoch these jobs e) there;
    }

    unplanned : (job : Job) → IsIn job these → IsUnplanned w.number job.id (job.attempt + 1) now.store.history
    unplanned job there = record {
      claimed = (took job there).claimed;
      none = ap (noted_plan job.id (job.attempt + 1)) history_now ∙ noted_none job.id (job.attempt + 1) put.store.history (own_entry who.line who.party put change)
          (none_planned put.store.history put.store.history (stored_jobs put.store) job kept.facts.attempts.planned (stored_before job there)) refl;
    }

    awaits : (job : Job) → IsIn job these → AwaitsGet w.number job.id (job.attempt + 1) now.store.history
    awaits job there = subst (AwaitsGet w.number job.id (job.attempt + 1)) (sym history_now)
        (awaits_after put who.line (records_version put.store.records + 1) w.number who.party these job kept.facts.attempts.up_to (stored_before job there) chosen.rise there)

    pending : (job : Job) → IsIn job these → IsChosen w got.jobs job → (o : Option Context) → job.context ≡ o → IsPending who.merge now w moment job
    pending job there c None is = inl (record { none = is; waits = took_waits who.merge now w moment job afterwards (took job there) is; awaits = awaits job there; unplanned = unplanned job there })
    pending job there c (Some context) is = inr (record {
      context = context;
      is = is;
      runs = took_runs now w moment job (over_taken w context) (took job there);
      holds = took_over who.merge now w moment job context afterwards (took job there) is c.may;
    })

-- ---- the get

abbrev began_at : WorkerOptions → ℕ → LiveWorker → Store → Began
began_at options moment w met = record { w = w; input = claim_input options moment w met; moment = moment; release = refl }

-- After the get of the manifest, a pending job's attempt has taken over a context, or its plan is to be noted.
starting_at : (who : Caller) (options : WorkerOptions) (moment : ℕ) (w : LiveWorker) (met : World) (job : Job) → Keeps who.merge met → who.party ≡ Worker w.number → IsPending who.merge met w moment job
    → IsStarting who.merge (after_call who.line who.party (Plain GetManifest) None met) (began_at options moment w met.store) job
starting_at who options moment w met job k own (inl s) = inl (record {
  none = s.none;
  begun = begins_at_get who w (claim_input options moment w met.store) moment met job k own (record { release = refl; manifest = refl; tables = refl }) s.waits s.awaits;
  unplanned = follow_plain (λ world. IsUnplanned w.number job.id (job.attempt + 1) world.store.history) who.line who.party GetManifest met (single w (attempt_with job blank)) (mute_event true GetManifest refl) (λ f. record {
    claimed = claim_grows met.store.history (plain_entry who.line who.party GetManifest met) w.number job.id (job.attempt + 1) s.unplanned.claimed;
    none = noted_none job.id (job.attempt + 1) met.store.history (plain_entry who.line who.party GetManifest met) s.unplanned.none refl;
  });
})
starting_at who options moment w met job k own (inr t) =
    let over = follow_plain (λ world. TookOver who.merge world w moment job) who.line who.party GetManifest met (single w (attempt_with job (over_taken w t.context))) (mute_event true GetManifest refl)
    (λ f. over_follow who.merge met (plain_world who.line who.party GetManifest met) w moment job t k.stored.replay.specs k.faithful f) in
    let same_over : claimed_attempt (claim_input options moment w met.store) job ≡ attempt_with job (over_taken w over.context) =
    ap (λ o. attempt_with job (context_or (knows_cut w.release) o (fresh_context (claim_input options moment w met.store) job))) over.is in
    inr (record {
      context = over.context;
      is = over.is;
      started = record { runs = over.runs; holds = subst (λ a. WorkerHolds who.merge (after_call who.line who.party (Plain GetManifest) None met) (single w a)) (sym same_over) over.holds };
    })

-- ---- what the report says

-- Who claims, with what, and the world as its claim began.
record Claimant : Type 0 where
  pub who : Caller
  pub options : WorkerOptions
  pub moment : ℕ
  pub w : LiveWorker
  pub start : World

-- What the claim did.
abbrev Did : Claimant → Claimed → Type 0
Did c report = ClaimDid c.who c.options c.moment c.w c.start report

-- What is so of the report.
abbrev says : Claimant → World → Claimed → Type 0
says c world report = ClaimSays world c.w report × Did c report

-- The worker ran all these jobs.
abbrev AreRun : LiveWorker → List ℕ → Type 0
AreRun w left = AllByRecursion (λ id. IsTrue (contains (attempt_jobs w.attempts) id)) left

are_run : (w : LiveWorker) (jobs : Jobs) → AreRun w (ids (stopped_jobs w jobs))
are_run w jobs = all_map (λ id. IsTrue (contains (attempt_jobs w.attempts) id)) (λ (job : Job). job.id) (stopped_jobs w jobs)
    (all_to _ _ (stopped_jobs w jobs) (λ job there h. second (is_waiting job) (contains (attempt_jobs w.attempts) job.id) h.1) (filtered (λ (job : Job). is_waiting job && contains (attempt_jobs w.attempts) job.id) jobs))
  where
    second : (a b : Bool) → (a && b) ≡ true → IsTrue b
    second true b e = e
    second false b e = absurd (cc e)

-- The worker runs none of these jobs.
abbrev NotRun : LiveWorker → Jobs → Type 0
NotRun w these = AllByRecursion (λ job. contains (attempt_jobs w.attempts) job.id ≡ false) these

-- A live attempt that the claim began takes over the published context.
takes_over : (world : World) (b : Began) (job : Job) → RunsAs b.w (attempt_of b job) (left_of b job) world → TakesOver world b.w (attempt_of b job)
takes_over world b job runs = by (job_with job.id (stored_jobs world.store)) refl
  where
    context : (o : Option Context) → context_or (knows_cut b.input.release) o (fresh_context b.input job) ≡ context_or (knows_cut b.w.release) o (context_or (knows_cut b.input.release) o (fresh_context b.input job))
    context None = refl
    context (Some c) = ap (λ r. record c { has_cut = knows_cut r }) b.release

    by : (o : Option Job) → job_with job.id (stored_jobs world.store) ≡ o
        → IfSome o (λ other. IsTrue (runs_attempt b.w.number (job.attempt + 1) (Some other)) → (attempt_of b job).context ≡ context_or (knows_cut b.w.release) other.context (attempt_of b job).context)
    by None e = tt
    by (Some other) e = λ is. subst (λ (j : Job). (attempt_of b job).context ≡ context_or (knows_cut b.w.release) j.context (attempt_of b job).context) (sym (runs other e is)) (context job.context)

in_jobs : (attempts : List Attempt) (id : ℕ) → ((a : Attempt) → IsIn a attempts → a.job ≡ id → ⊥) → contains (attempt_jobs attempts) id ≡ false
in_jobs attempts id none = contains_no (attempt_jobs attempts) id (λ there. find_in attempts there none)
  where
    find_in : (xs : List Attempt) → IsIn id (attempt_jobs xs) → ((a : Attempt) → IsIn a xs → a.job ≡ id → ⊥) → ⊥
    find_in [] there none = there
    find_in (x ∷ xs) (inl same) none = none x (inl refl) same
    find_in (x ∷ xs) (inr there) none = find_in xs there (λ a one. none a (inr one))

left_out : (left : List ℕ) (attempts : List Attempt) (a : Attempt) → IsIn a (without_attempts left attempts) → IsIn a attempts × (contains left a.job ≡ false)
left_out left attempts a there =
    let found = from_filter (λ (x : Attempt). not (contains left x.job)) attempts a there in
    (found.0, plain (contains left a.job) found.1)
  where
    plain : (b : Bool) → not b ≡ true → b ≡ false
    plain true e = absurd (cc e)
    plain false e = refl

-- The worker runs no job that it stopped.
stopped_idle : (left : List ℕ) (attempts : List Attempt) → AllByRecursion (λ id. contains (attempt_jobs (without_attempts left attempts)) id ≡ false) left
stopped_idle left attempts = all_from _ left (λ id there. in_jobs (without_attempts left attempts) id (λ a one same. refused (contains left a.job) (left_out left attempts a one).1 (in_contains left a.job (subst (λ n. IsIn n left) (sym same) there))))

-- An attempt of a list with new ones inserted is a new one, or was in the list before.
in_begun : (new attempts : List Attempt) (a : Attempt) → IsIn a (with_attempts new attempts) → IsIn a new ⊎ IsIn a attempts
in_begun [] attempts a there = inr there
in_begun (x ∷ new) attempts a there = by (in_begun new (put_attempt x attempts) a there)
  where
    at : (a ≡ x) ⊎ IsIn a attempts → IsIn a (x ∷ new) ⊎ IsIn a attempts
    at (inl same) = inl (inl (sym same))
    at (inr one) = inr one

    by : IsIn a new ⊎ IsIn a (put_attempt x attempts) → IsIn a (x ∷ new) ⊎ IsIn a attempts
    by (inl one) = inl (inr one)
    by (inr one) = at (all_at (λ y. (y ≡ x) ⊎ IsIn y attempts) (put_attempt x attempts) a (all_put (λ y. (y ≡ x) ⊎ IsIn y attempts) x attempts (inl refl) (all_from _ attempts (λ y there. inr there))) one)

-- An attempt of the report was run before, or is at a job that was started.
reported_attempt : (b : Began) (chosen : Jobs) (left : List ℕ) (a : Attempt) → IsIn a (with_attempts (map (claimed_attempt b.input) chosen) (without_attempts left b.w.attempts))
    → ((job : Job) × (IsIn job chosen × (job.id ≡ a.job))) ⊎ IsIn a (without_attempts left b.w.attempts)
reported_attempt b chosen left a there = by (in_begun (map (claimed_attempt b.input) chosen) (without_attempts left b.w.attempts) a there)
  where
    find_in : (jobs : Jobs) → IsIn a (map (claimed_attempt b.input) jobs) → (job : Job) × (IsIn job jobs × (job.id ≡ a.job))
    find_in [] there = absurd there
    find_in (job ∷ jobs) (inl same) = (job, (inl refl, ap (λ (x : Attempt). x.job) same))
    find_in (job ∷ jobs) (inr there) = let found = find_in jobs there in (found.0, (inr found.1.0, found.1.1))

    by : IsIn a (map (claimed_attempt b.input) chosen) ⊎ IsIn a (without_attempts left b.w.attempts) → ((job : Job) × (IsIn job chosen × (job.id ≡ a.job))) ⊎ IsIn a (without_attempts left b.w.attempts)
    by (inl one) = inl (find_in chosen one)
    by (inr one) = inr one

left_idle : (b : Began) (these : Jobs) (left : List ℕ) (can : Job → Bool) → Pairs (λ x y. x.id < y.id) these → NotRun b.w these → AreRun b.w left
    → AllByRecursion (λ id. contains (attempt_jobs (with_attempts (map (claimed_attempt b.input) (filter can these)) (without_attempts left b.w.attempts))) id ≡ false) left
left_idle b these left can rise none ran = all_from _ left (λ id there. in_jobs _ id (λ a one same. by id there a same (reported_attempt b (filter can these) left a one)))
  where
    by : (id : ℕ) → IsIn id left → (a : Attempt) → a.job ≡ id → ((job : Job) × (IsIn job (filter can these) × (job.id ≡ a.job))) ⊎ IsIn a (without_attempts left b.w.attempts) → ⊥
    by id there a same (inl begun) = refused (contains (attempt_jobs b.w.attempts) begun.0.id) (all_at (λ (job : Job). contains (attempt_jobs b.w.attempts) job.id ≡ false) these begun.0 none (from_filter can these begun.0 begun.1.0).0)
        (subst (λ n. IsTrue (contains (attempt_jobs b.w.attempts) n)) (sym (begun.1.1 ∙ same)) (all_at (λ n. IsTrue (contains (attempt_jobs b.w.attempts) n)) left id ran there))
    by id there a same (inr one) = refused (contains left a.job) (left_out left b.w.attempts a one).1 (in_contains left a.job (subst (λ n. IsIn n left) (sym same) there))

-- After its claim, a worker runs none of the jobs that the claim took and could not start.
released_idle : (b : Began) (these : Jobs) (left : List ℕ) (can : Job → Bool) → Pairs (λ x y. x.id < y.id) these → NotRun b.w these
    → AllByRecursion (λ id. contains (attempt_jobs (with_attempts (map (claimed_attempt b.input) (filter can these)) (without_attempts left b.w.attempts))) id ≡ false) (ids (filter (λ job. not (can job)) these))
released_idle b these left can rise none = all_map _ (λ (job : Job). job.id) (filter (λ job. not (can job)) these) (all_from _ (filter (λ job. not (can job)) these) (λ job there.
    in_jobs _ job.id (λ a one same. by job (from_filter (λ (j : Job). not (can j)) these job there) a same (reported_attempt b (filter can these) left a one))))
  where
    never : (c : Bool) → not c ≡ true → c ≡ true → ⊥
    never true e f = absurd (cc e)
    never false e f = absurd (cc f)

    by : (job : Job) → IsIn job these × (not (can job) ≡ true) → (a : Attempt) → a.job ≡ job.id → ((j : Job) × (IsIn j (filter can these) × (j.id ≡ a.job))) ⊎ IsIn a (without_attempts left b.w.attempts) → ⊥
    by job out a same (inl begun) =
        let in_these = from_filter can these begun.0 begun.1.0 in
        never (can job) out.1 (subst (λ (j : Job). can j ≡ true) (only_job these begun.0 job rise in_these.0 out.0 (begun.1.1 ∙ same)) in_these.1)
    by job out a same (inr one) = refused (contains (attempt_jobs b.w.attempts) job.id) (all_at (λ (j : Job). contains (attempt_jobs b.w.attempts) j.id ≡ false) these job none out.0)
        (in_contains (attempt_jobs b.w.attempts) job.id (subst (λ n. IsIn n (attempt_jobs b.w.attempts)) same (in_map (λ (x : Attempt). x.job) b.w.attempts a (left_out left b.w.attempts a one).0)))

-- ---- the starts

-- What a lawful course leads to, from a store that the worker fits.
abbrev After : Claimant → Course (StepEnd Claimed) → (old new : World) → End (StepEnd Claimed) → Type 0
After c course old new end = Fit c.who c.w old → IsLawfulCourse c.who old course → Runs c.who course old new end → Left c.who c.w (λ (report : Claimed). report.attempts) (says c) new end

-- Where a run stops, the worker fits with the attempts that it ran before.
stops : (c : Claimant) (x : Exchange) (met new : World) (end : End (StepEnd Claimed)) → Fit c.who c.w met → StopsAt c.who x met new end → Left c.who c.w (λ (report : Claimed). report.attempts) (says c) new end
stops c x met new end fit stop = left_stopped c.who c.w (λ (report : Claimed). report.attempts) (says c) x met new end fit.holds stop

other_jobs : (w : LiveWorker) (keep : Attempt → Bool) (these : Jobs) → NotRun w these → AllByRecursion (λ job. AllByRecursion (λ (other : Attempt). other.job ≡ job.id → ⊥) (filter keep w.attempts)) these
other_jobs w keep these none = all_to _ _ these (λ job there lacks. all_filter (λ (other : Attempt). other.job ≡ job.id → ⊥) keep w.attempts (all_from _ w.attempts (λ other one same.
    refused (contains (attempt_jobs w.attempts) job.id) lacks (in_contains (attempt_jobs w.attempts) job.id (subst (λ id. IsIn id (attempt_jobs w.attempts)) same (in_map (λ (x : Attempt). x.job) w.attempts other one)))))) none

-- The report of a claim that starts these jobs under the manifest of this store.
abbrev started_report : Claimant → Store → Jobs → List ℕ → Claimed
started_report c shown these left =
    let begun = map (claimed_attempt (claim_input c.options c.moment c.w shown)) (filter (can_start shown.manifest) these) in
    record { begun = begun; stopped = left; released = ids (filter (λ job. not (can_start shown.manifest job)) these); attempts = with_attempts begun (without_attempts left c.w.attempts) }

-- The starts of the jobs that a claim took leave a worker that fits and a right report.
started : (c : Claimant) (shown : Store) (these : Jobs) (left : List ℕ) → AreRun c.w left → Relies c.who c.w → Did c (started_report c shown these left) → (new : World) (end : End (StepEnd Claimed)) (old : World) → Pairs (λ x y. x.id < y.id) these → NotRun c.w these
    → AllByRecursion (IsStarting c.who.merge old (began_at c.options c.moment c.w shown)) these → After c (starts_claimed (claim_input c.options c.moment c.w shown) c.w these left) old new end
started c shown these left ran r did new end old rise none starting fit lawful run =
    plans_noted (Left c.who c.w (λ (report : Claimed). report.attempts) (says c) new end) c.who b (Ends (Reports report)) new end r (λ x met there stop. stops c x met new end there stop) chosen
    ends chosen (pairs_filter _ can these rise) old fit (all_filter _ can these starting) (λ job there. inl there) lawful run
  where
    b : Began
    b = began_at c.options c.moment c.w shown

    can : Job → Bool
    can job = can_start shown.manifest job

    chosen : Jobs
    chosen = filter can these

    report : Claimed
    report = started_report c shown these left

    ends : (world : World) → Fit c.who c.w world → ((job : Job) → IsIn job chosen → IsStarted c.who.merge world b job) → IsLawfulCourse c.who world (Ends (Reports report)) → Runs c.who (Ends (Reports report)) world new end
        → Left c.who c.w (λ (report : Claimed). report.attempts) (says c) new end
    ends world there all lawful run =
        let keep = λ (a : Attempt). not (contains left a.job) in
        left_reported c.who c.w (λ (r : Claimed). r.attempts) (says c) report world new end there.holds
        (holds_begun c.who.merge world b there.kept chosen (without_attempts left c.w.attempts) (pairs_filter _ can these rise) (all_from _ chosen all) (all_filter _ can these (other_jobs c.w keep these none)) (holds_fewer c.who.merge world c.w keep there.holds)) (
          record {
            begun = all_map (TakesOver world c.w) (claimed_attempt b.input) chosen (all_from _ chosen (λ job one. takes_over world b job (all job one).runs));
            idle = all_append _ left (ids (filter (λ job. not (can job)) these)) (left_idle b these left can rise none ran) (released_idle b these left can rise none);
          },
          did,
        ) run

-- ---- tries

-- A job that was taken is lost if it cannot start.
pending_lost : (c : Claimant) (world : World) (job : Job) → Keeps c.who.merge world → IsPending c.who.merge world c.w c.moment job → IsLost c.w world.store job
pending_lost c world job kept (inl s) = lost_at c.who.merge world c.w job (taken_by c.w c.moment job) kept refl (λ now e runs. s.waits.runs now e runs)
pending_lost c world job kept (inr t) = lost_at c.who.merge world c.w job (taken_by c.w c.moment job) kept refl (λ now e runs. t.runs now e runs)

-- From its get of the manifest on, a claim leaves a worker that fits and a right report.
after_put : (c : Claimant) (these : Jobs) (left : List ℕ) → AreRun c.w left → Relies c.who c.w → (new : World) (end : End (StepEnd Claimed)) (old : World)
    → ((shown : World) → Rivals c.who old shown → AllByRecursion (IsLost c.w shown.store) these → Did c (started_report c shown.store these left)) → Pairs (λ x y. x.id < y.id) these → NotRun c.w these
    → AllByRecursion (IsPending c.who.merge old c.w c.moment) these → After c (Calls (Plain GetManifest) (λ met. starts_claimed (claim_input c.options c.moment c.w met) c.w these left)) old new end
after_put c these left ran r new end old did rise none pending fit lawful run =
    call_by (Left c.who c.w (λ (report : Claimed). report.attempts) (says c) new end) c.who c.w (Plain GetManifest) (λ (met : Store). starts_claimed (claim_input c.options c.moment c.w met) c.w these left) old new end r fit lawful run
    (λ at there stop. stops c (Plain GetManifest) at new end there stop) goes
  where
    goes : Made c.who c.w (Plain GetManifest) (λ (met : Store). starts_claimed (claim_input c.options c.moment c.w met) c.w these left) old new end → Left c.who c.w (λ (report : Claimed). report.attempts) (says c) new end
    goes m =
        let still = all_to _ _ these (λ job there one. rivals_pending c.who c.w c.moment job old m.met r fit.kept m.rivals one) pending in
        started c m.met.store these left ran r (did m.met m.rivals (all_to _ (IsLost c.w m.met.store) these (λ job there one. pending_lost c m.met job m.fit.kept one) still)) new end (after_call c.who.line c.who.party (Plain GetManifest) None m.met) rise none
        (all_to _ _ these (λ job there one. starting_at c.who c.options c.moment c.w m.met job m.fit.kept r.own one) still)
        (record { kept = m.kept; holds = own_calls_keep c.who.merge (Plain GetManifest) c.who.line c.who.party m.met c.w m.fit.kept r.own m.lawful tt m.fit.holds }) m.further m.run

-- What a claim did that found these records and took these jobs.
abbrev Makes : Claimant → World → Records → Jobs → List ℕ → Type 0
Makes c found got these left = (report : Claimed) → report.stopped ≡ left → TookThese c.who c.options c.moment c.w found got these report → report.attempts ≡ with_attempts report.begun (without_attempts report.stopped c.w.attempts) → Did c report

-- From its choice of jobs on, a claim leaves a worker that fits and a right report, if another try does.
those : (c : Claimant) (left : List ℕ) (again : ℕ → Course (StepEnd Claimed)) → AreRun c.w left → Relies c.who c.w → (new : World) (end : End (StepEnd Claimed)) → ((version : ℕ) (old : World) → ComesAfter c.start old → After c (again version) old new end)
    → (met : World) (got : Records) (these : Jobs) → ComesAfter c.start met → Makes c met got these left → met.store.records ≡ Some got → AreChosen c.w got.jobs these
    → After c (claim_of c.options c.moment c.w got these left again) (after_call c.who.line c.who.party (Plain GetRecords) None met) new end
those c left again ran r new end tries met got [] comes make is chosen fit lawful run =
    let report : Claimed = record { begun = []; stopped = left; released = []; attempts = without_attempts left c.w.attempts } in
    left_reported c.who c.w (λ (report : Claimed). report.attempts) (says c) report _ new end fit.holds (holds_fewer c.who.merge _ c.w (λ (a : Attempt). not (contains left a.job)) fit.holds)
    (record { begun = tt; idle = subst (AllByRecursion (λ id. contains (attempt_jobs (without_attempts left c.w.attempts)) id ≡ false)) (sym (append-nil left)) (stopped_idle left c.w.attempts) }, make report refl (refl, refl) refl) run
those c left again ran r new end tries met got (job ∷ rest) comes make is chosen fit lawful run =
    call_by (Left c.who c.w (λ (report : Claimed). report.attempts) (says c) new end) c.who c.w x (λ (s : Store). again_or (records_version s.records) (got.version == records_version s.records)) first new end r fit lawful run
    (λ at there stop. stops c x at new end there stop) put
  where
    first : World
    first = after_call c.who.line c.who.party (Plain GetRecords) None met

    these : Jobs
    these = job ∷ rest

    change : RecordChange
    change = Claim c.w.number (map next_attempt these)

    x : Exchange
    x = PutsRecords got.version change got.epoch (jobs_after (at_moment c.moment) change got.jobs)

    again_or : ℕ → Bool → Course (StepEnd Claimed)
    again_or version b = cond b (Calls (Plain GetManifest) (λ s. starts_claimed (claim_input c.options c.moment c.w s) c.w these left)) (again version)

    not_run : NotRun c.w these
    not_run = all_to _ _ these (λ one there h. h.not_run) chosen.each

    put : Made c.who c.w x (λ (s : Store). again_or (records_version s.records) (got.version == records_version s.records)) first new end → Left c.who c.w (λ (report : Claimed). report.attempts) (says c) new end
    put m = by (got.version == records_version m.met.store.records) refl m.further m.run
      where
        after : World
        after = after_call c.who.line c.who.party x None m.met

        comes_at : ComesAfter met m.met
        comes_at = comes_met c.who met first m.met (comes_by c.who.line c.who.party (Plain GetRecords) None met) m.rivals

        holds : WorkerHolds c.who.merge after c.w
        holds = own_calls_keep c.who.merge x c.who.line c.who.party m.met c.w m.fit.kept r.own m.lawful (λ same. tt) m.fit.holds

        did : m.met.store.records ≡ Some got → (shown : World) → Rivals c.who after shown → AllByRecursion (IsLost c.w shown.store) these → Did c (started_report c shown.store these left)
        did stored shown others lost = make (started_report c shown.store these left) refl (record { at = m.met; after = comes_at; stored = stored; shown = shown; others = others; begun = refl; released = refl; lost = lost }) refl

        by : (b : Bool) → (got.version == records_version m.met.store.records) ≡ b → IsLawfulCourse c.who after (again_or (records_version m.met.store.records) b) → Runs c.who (again_or (records_version m.met.store.records) b) after new end
            → Left c.who c.w (λ (report : Claimed). report.attempts) (says c) new end
        by true e lawful run =
            let stored = got_records met m.met (Some got) is (later_met c.who (Plain GetRecords) met met m.met (later_itself met) m.rivals) ((Decides-eqb got.version (records_version m.met.store.records)).0 e) in
            after_put c these left ran r new end after (did stored) chosen.rise not_run (pending_after c.who c.w c.moment m.met got these stored chosen e m.fit.kept m.kept) (record { kept = m.kept; holds = holds }) lawful run
        by false e lawful run = tries (records_version m.met.store.records) after (comes_called c.who x c.start m.met (comes_then c.start met m.met comes comes_at)) (record { kept = m.kept; holds = holds }) lawful run

pub none_stopped : (attempts : List Attempt) → without_attempts [] attempts ≡ attempts
none_stopped [] = refl
none_stopped (a ∷ attempts) = ap (λ (rest : List Attempt). a ∷ rest) (none_stopped attempts)

-- From its get of the records on, a claim leaves a worker that fits and a right report, if another try does.
over : (c : Claimant) (again : ℕ → Course (StepEnd Claimed)) → Relies c.who c.w → (new : World) (end : End (StepEnd Claimed)) → ((version : ℕ) (old : World) → ComesAfter c.start old → After c (again version) old new end)
    → (met : World) (records : Option Records) → ComesAfter c.start met → Keeps c.who.merge met → met.store.records ≡ records → After c (claim_by c.options c.moment c.w records again) (after_call c.who.line c.who.party (Plain GetRecords) None met) new end
over c again r new end tries met None comes kept is fit lawful run =
    let report : Claimed = record { begun = []; stopped = []; released = []; attempts = c.w.attempts } in
    left_reported c.who c.w (λ (report : Claimed). report.attempts) (says c) report _ new end fit.holds fit.holds (
      record { begun = tt; idle = tt },
      record {
        found = met;
        after = comes;
        stopped = ap (λ o. ids (stopped_jobs c.w (jobs_in o))) (sym is);
        took = subst (λ o. TookOf c.who c.options c.moment c.w met o report) (sym is) (refl, refl);
        attempts = sym (none_stopped c.w.attempts);
      },
    ) run
over c again r new end tries met (Some got) comes kept is fit lawful run =
    those c (ids (stopped_jobs c.w got.jobs)) again (are_run c.w got.jobs) r new end tries met got (claimed_jobs c.options.slots c.w got.jobs) comes (λ report stopped took attempts. record {
      found = met;
      after = comes;
      stopped = stopped ∙ ap (λ o. ids (stopped_jobs c.w (jobs_in o))) (sym is);
      took = subst (λ o. TookOf c.who c.options c.moment c.w met o report) (sym is) took;
      attempts = attempts;
    }) is (are_chosen c.options.slots c.w got.jobs (subst (λ o. Pairs (λ a b. a.id < b.id) (jobs_in o)) is kept.stored.sound.job_ids)) fit lawful run

claims : (c : Claimant) → Relies c.who c.w → (new : World) (end : End (StepEnd Claimed)) → (left seen : ℕ) (old : World) → ComesAfter c.start old → After c (tries (claim_try c.options c.moment c.w) left seen) old new end
claims c r new end zero seen old comes fit lawful run = left_ended c.who c.w (λ (report : Claimed). report.attempts) (says c) (GivesUp seen) old new end (λ report e. absurd (cc e)) fit.holds run
claims c r new end (suc left) seen old comes fit lawful run =
    call_by (Left c.who c.w (λ (report : Claimed). report.attempts) (says c) new end) c.who c.w (Plain GetRecords) (λ (s : Store). claim_by c.options c.moment c.w s.records (tries (claim_try c.options c.moment c.w) left)) old new end r fit lawful run
    (λ at there stop. stops c (Plain GetRecords) at new end there stop)
    (λ m. over c (tries (claim_try c.options c.moment c.w) left) r new end (λ version one later. claims c r new end left version one later) m.met m.met.store.records (comes_met c.who c.start old m.met comes m.rivals) m.fit.kept refl
    (fit_got c.who c.w m.met r.keep m.fit) m.further m.run)

claim_fits : (c : Claimant) → Relies c.who c.w → (new : World) (end : End (StepEnd Claimed)) → After c (claim c.options c.moment c.w) c.start new end
unfolding claim
claim_fits c r new end fit lawful run = claims c r new end most_refused 0 c.start (comes_itself c.start) fit lawful run

-- What is so after the claim of a worker that fits.
afterwards : (who : Caller) (old : World) (options : WorkerOptions) (moment : ℕ) (w : LiveWorker) → CallsKeep who.merge → who.party ≡ Worker w.number → Keeps who.merge old → WorkerHolds who.merge old w → (new : World) (end : End (StepEnd Claimed))
    → Runs who (claim options moment w) old new end → Left who w (λ (report : Claimed). report.attempts) (says (record { who = who; options = options; moment = moment; w = w; start = old })) new end
afterwards who old options moment w keep own kept holds new end run =
    claim_fits (record { who = who; options = options; moment = moment; w = w; start = old }) (record { keep = keep; own = own }) new end (record { kept = kept; holds = holds }) (claims_are_lawful who old options moment w keep kept own) run

pub claims_keep_fit : ClaimsKeepFit
claims_keep_fit who old options moment w keep own kept holds = (
  λ new end run. (afterwards who old options moment w keep own kept holds new end run).0,
  λ new report run. (afterwards who old options moment w keep own kept holds new (Gives (Reports report)) run).1.0,
)

pub claims_report : ClaimsReport
claims_report who old new options moment w report keep own kept holds run = (afterwards who old options moment w keep own kept holds new (Gives (Reports report)) run).1.1
