-- The notes of plans after a claim, and what a worker holds with the attempts that the claim began.
use Rattle.std.proofs.Common.{◌≡◌, refl, sym, ◌∙◌, ap, subst, ℕ, ◌+◌, ◌<◌, List, [], ◌∷◌, ◌++◌, cond, Bool, true, false, inl, inr, ◌⊎◌, Option, Some, None, arith}
use Rattle.std.specs.Prelude.{IsTrue, IfSome, ◌==◌, ◌&&◌, map, flat_map}
use Rattle.std.specs.List.{AllByRecursion, concat}
use Rattle.std.proofs.lemmas.Bool.Decides.{Decides-eqb}
use Rattle.row_model.specs.Lists.{Pairs}
use Rattle.row_model.specs.Fold.{Operator}
use Rattle.row_model.specs.Ranges.{Range}
use Rattle.fleet_model.specs.Jobs.{JobSpec, Job, Jobs, Context, knows_cut, is_active}
use Rattle.fleet_model.specs.History.{Worker, Event, Plan, Done}
use Rattle.fleet_model.specs.Store.{Store, stored_jobs}
use Rattle.fleet_model.specs.Handles.{job_tables, context_tables}
use Rattle.fleet_model.specs.Work.Attempts.{ClaimInput, context_or, attempt_context, fresh_context}
use Rattle.fleet_model.specs.Work.Parties.{Attempt, LiveWorker, is_live, live_attempts, put_attempt, with_attempts}
use Rattle.fleet_model.specs.Work.Claims.{claimed_attempt}
use Rattle.fleet_model.specs.Past.Claimed.{planned_in, noted_plan}
use Rattle.fleet_model.specs.Exchanges.{Plain}
use Rattle.step_model.specs.Past.{World}
use Rattle.step_model.specs.Kept.Faithful.{Faithful}
use Rattle.step_model.specs.Rivals.{Caller, Rivals, after_call}
use Rattle.step_model.specs.Kept.Keeps.{Keeps}
use Rattle.step_model.specs.LawfulTables.{MayUse}
use Rattle.step_model.specs.Kept.TablesKept.{AreApart, NameApart}
use Rattle.step_model.specs.Fits.{AttemptHeld, NotesOwn, WorkerHolds, noted_tables}
use Rattle.step_model.specs.Courses.Course.{Course, calls_each}
use Rattle.step_model.specs.Courses.CourseRuns.{End, Runs, IsLawfulCourse}
use Rattle.step_model.specs.Courses.StepEnds.{StepEnd}
use Rattle.step_model.specs.Steps.ClaimSteps.{Claimed, plan_of}
use Rattle.step_laws.proofs.Elements.{IsIn, all_at, all_to, contains_in, in_front}
use Rattle.step_laws.proofs.Bodies.{whole_of}
use Rattle.step_laws.proofs.Changed.{job_found}
use Rattle.step_laws.proofs.Mute.{mute_event}
use Rattle.step_laws.proofs.OwnTables.{apart_from, apart_at}
use Rattle.commit_laws.proofs.Midway.{two_jobs}
use Rattle.rival_laws.proofs.WorkerFollows.{Follows, holds_after, from_filter}
use Rattle.rival_laws.proofs.WorkerCalls.{claim_grows}
use Rattle.step_laws.proofs.OwnTables.{unnamed}
use Rattle.rival_laws.proofs.Workers.{rivals_follow}
use Rattle.course_laws.proofs.Beats.{Fit}
use Rattle.course_laws.proofs.Made.{Relies}
use Rattle.worker_laws.proofs.Live.{IsLive, live_at, live_active}
use Rattle.worker_laws.proofs.Attempts.{Added, all_put, holds_added}
use Rattle.worker_laws.proofs.Runs.{call_by}
use Rattle.worker_laws.proofs.Tables.{Stops}
use Rattle.worker_laws.proofs.OwnCalls.{own_calls_keep}
use Rattle.worker_laws.proofs.Begun.{single, RunsAs, Begun, begun_follow, begun_holds, fresh_noted}
use Rattle.worker_laws.proofs.Taken.{attempt_with, taken_by}
use Rattle.worker_laws.proofs.Awaits.{IsUnplanned, rivals_unplanned, noted_none, noted_now}
use Rattle.worker_laws.proofs.Starts.{plain_entry, plain_world, follow_plain, fresh_is}

-- What a claim began with: the worker, its input and the moment of its put.
pub record Began : Type 0 where
  pub w : LiveWorker
  pub input : ClaimInput
  pub moment : ℕ
  pub release : input.release ≡ w.release

-- The attempt at the job, and the job as the claim left it.
abbrev pub attempt_of : Began → Job → Attempt
attempt_of b job = claimed_attempt b.input job

abbrev pub left_of : Began → Job → Job
left_of b job = taken_by b.w b.moment job

-- ---- one attempt

-- The worker fits with the attempt alone, and the job is as the claim left it if the worker runs it.
pub record IsStarted (merge : Operator) (world : World) (b : Began) (job : Job) : Type 0 where
  pub runs : RunsAs b.w (attempt_of b job) (left_of b job) world
  pub holds : WorkerHolds merge world (single b.w (attempt_of b job))

-- The attempt has no context yet, and no note of its plan.
pub record IsPlanless (world : World) (b : Began) (job : Job) : Type 0 where
  pub none : job.context ≡ None
  pub begun : Begun world b.w (attempt_with job (fresh_context b.input job)) (left_of b job)
  pub unplanned : IsUnplanned b.w.number job.id (job.attempt + 1) world.store.history

-- The attempt took over a context, so no plan is to be noted.
pub record IsTakenOver (merge : Operator) (world : World) (b : Began) (job : Job) : Type 0 where
  pub context : Context
  pub is : job.context ≡ Some context
  pub started : IsStarted merge world b job

-- The attempt took over a context, or its plan is still to be noted.
abbrev pub IsStarting : Operator → World → Began → Job → Type 0
IsStarting merge world b job = IsPlanless world b job ⊎ IsTakenOver merge world b job

pub runs_follow : (old now : World) (w : LiveWorker) (a : Attempt) (taken : Job) → Follows old now (single w a) → AttemptHeld old w.number a → RunsAs w a taken old → RunsAs w a taken now
runs_follow old now w a taken f held runs job e is = runs job (f.jobs a (inl refl) held job e is) is

started_follow : (merge : Operator) (old now : World) (b : Began) (job : Job) (specs : ℕ → JobSpec) → Faithful old specs → Follows old now (single b.w (attempt_of b job)) → IsStarted merge old b job → IsStarted merge now b job
started_follow merge old now b job specs faithful f s = record {
  runs = runs_follow old now b.w (attempt_of b job) (left_of b job) f s.holds.each.0 s.runs;
  holds = holds_after merge old now (single b.w (attempt_of b job)) specs faithful f s.holds;
}

pub counted_next : (job : Job) → 0 < job.attempt + 1
counted_next job = omega arith

rivals_started : (who : Caller) (b : Began) (job : Job) (old new : World) → Relies who b.w → Keeps who.merge old → Rivals who old new → IsStarted who.merge old b job → IsStarted who.merge new b job
rivals_started who b job old new r kept rivals s =
    rivals_follow who old new (single b.w (attempt_of b job)) (λ world. IsStarted who.merge world b job) r.keep r.own (counted_next job, tt) (λ one now specs faithful f h. started_follow who.merge one now b job specs faithful f h) kept rivals s

rivals_planless : (who : Caller) (b : Began) (job : Job) (old new : World) → Relies who b.w → Keeps who.merge old → Rivals who old new → IsPlanless old b job → IsPlanless new b job
rivals_planless who b job old new r kept rivals s =
    let a = attempt_with job (fresh_context b.input job) in
    record {
      none = s.none;
      begun = rivals_follow who old new (single b.w a) (λ world. Begun world b.w a (left_of b job)) r.keep r.own (counted_next job, tt) (λ one now specs faithful f h. begun_follow one now b.w a (left_of b job) f h) kept rivals s.begun;
      unplanned = rivals_unplanned who b.w.number job.id (job.attempt + 1) old new r.keep r.own kept rivals s.unplanned;
    }

rivals_starting : (who : Caller) (b : Began) (job : Job) (old new : World) → Relies who b.w → Keeps who.merge old → Rivals who old new → IsStarting who.merge old b job → IsStarting who.merge new b job
rivals_starting who b job old new r kept rivals (inl s) = inl (rivals_planless who b job old new r kept rivals s)
rivals_starting who b job old new r kept rivals (inr s) = inr (record { context = s.context; is = s.is; started = rivals_started who b job old new r kept rivals s.started })

-- ---- the worker's own notes

noted_started : (who : Caller) (b : Began) (job : Job) (world : World) (one number : ℕ) (ranges : List Range) → Keeps who.merge world → IsStarted who.merge world b job → IsStarted who.merge (after_call who.line who.party (Plain (Plan one number ranges)) None world) b job
noted_started who b job world one number ranges k s =
    follow_plain (λ t. IsStarted who.merge t b job) who.line who.party (Plan one number ranges) world (single b.w (attempt_of b job)) (mute_event true (Plan one number ranges) refl)
    (λ f. started_follow who.merge world (plain_world who.line who.party (Plan one number ranges) world) b job k.stored.replay.specs k.faithful f s)

-- The note of another attempt.
noted_planless : (who : Caller) (b : Began) (job : Job) (world : World) (one number : ℕ) (ranges : List Range) → (job.id ≡ one → ⊥) → IsPlanless world b job → IsPlanless (after_call who.line who.party (Plain (Plan one number ranges)) None world) b job
noted_planless who b job world one number ranges other s =
    let a = attempt_with job (fresh_context b.input job) in
    let event = Plan one number ranges in
    follow_plain (λ t. IsPlanless t b job) who.line who.party event world (single b.w a) (mute_event true event refl) (λ f. record {
      none = s.none;
      begun = begun_follow world (plain_world who.line who.party event world) b.w a (left_of b job) f s.begun;
      unplanned = record {
        claimed = claim_grows world.store.history (plain_entry who.line who.party event world) b.w.number job.id (job.attempt + 1) s.unplanned.claimed;
        none = noted_none job.id (job.attempt + 1) world.store.history (plain_entry who.line who.party event world) s.unplanned.none (by (job.id == one) refl);
      };
    })
  where
    by : (c : Bool) → (job.id == one) ≡ c → planned_in job.id (job.attempt + 1) (Plan one number ranges) ≡ None
    by true e = absurd (other ((Decides-eqb job.id one).0 e))
    by false e = ap (λ c. cond (c && (job.attempt + 1 == number)) (Some ranges) None) e

noted_starting : (who : Caller) (b : Began) (job : Job) (world : World) (one number : ℕ) (ranges : List Range) → Keeps who.merge world → (job.id ≡ one → ⊥) → IsStarting who.merge world b job → IsStarting who.merge (after_call who.line who.party (Plain (Plan one number ranges)) None world) b job
noted_starting who b job world one number ranges k other (inl s) = inl (noted_planless who b job world one number ranges other s)
noted_starting who b job world one number ranges k other (inr s) = inr (record { context = s.context; is = s.is; started = noted_started who b job world one number ranges k s.started })

-- The attempt of a job without a context has a fresh one.
pub fresh_attempt : (b : Began) (job : Job) → job.context ≡ None → attempt_of b job ≡ attempt_with job (fresh_context b.input job)
fresh_attempt b job none = ap (λ o. attempt_with job (context_or (knows_cut b.input.release) o (fresh_context b.input job))) none

-- After the note of its own plan, the attempt is started.
noted_own : (who : Caller) (b : Began) (job : Job) (world : World) → IsPlanless world b job
    → let a = attempt_with job (fresh_context b.input job) in
    IsStarted who.merge (after_call who.line who.party (Plain (Plan job.id (job.attempt + 1) (map (λ range. range.0) a.context.ranges))) None world) b job
noted_own who b job world s =
    follow_plain (λ t. IsStarted who.merge t b job) who.line who.party event world (single b.w a) (mute_event true event refl) (λ f. started (begun_follow world now b.w a (left_of b job) f s.begun))
  where
    a : Attempt
    a = attempt_with job (fresh_context b.input job)

    event : Event
    event = Plan job.id (job.attempt + 1) (map (λ range. range.0) a.context.ranges)

    now : World
    now = plain_world who.line who.party event world

    started : Begun now b.w a (left_of b job) → IsStarted who.merge now b job
    started begun = record {
      runs = begun.waits.runs;
      holds = subst (λ x. WorkerHolds who.merge now (single b.w x)) (sym (fresh_attempt b job s.none))
          (begun_holds who.merge now b.w a (left_of b job) (fresh_is b.w b.input job b.release) (record { id = refl; number = refl; sources = refl }) s.none begun
          (ap (λ n. noted_plan job.id n now.store.history) begun.waits.origin
          ∙ noted_now job.id (job.attempt + 1) world.store.history who.line who.party (map (λ range. range.0) a.context.ranges) (Done 0) s.unplanned.none));
    }

-- ---- all notes

plans_none : (input : ClaimInput) (job : Job) → job.context ≡ None → plan_of input job ≡ Plan job.id (job.attempt + 1) (map (λ range. range.0) (attempt_context input job).ranges) ∷ []
plans_none input job none = rw none refl

plans_some : (input : ClaimInput) (job : Job) (c : Context) → job.context ≡ Some c → plan_of input job ≡ []
plans_some input job c some = rw some refl

-- All these jobs are started, but for those that have still to come.
abbrev AreStarted : Operator → World → Began → (all todo : Jobs) → Type 0
AreStarted merge world b all todo = (job : Job) → IsIn job all → IsIn job todo ⊎ IsStarted merge world b job

-- After the notes of all plans, all attempts are started.
pub plans_noted : (R : Type 0) (who : Caller) (b : Began) (next : Course (StepEnd Claimed)) (new : World) (end : End (StepEnd Claimed)) → Relies who b.w → Stops R who b.w new end → (all : Jobs)
    → ((world : World) → Fit who b.w world → ((job : Job) → IsIn job all → IsStarted who.merge world b job) → IsLawfulCourse who world next → Runs who next world new end → R)
    → (todo : Jobs) → Pairs (λ x y. x.id < y.id) todo → (old : World) → Fit who b.w old → AllByRecursion (IsStarting who.merge old b) todo → AreStarted who.merge old b all todo
    → IsLawfulCourse who old (calls_each (flat_map (plan_of b.input) todo) next) → Runs who (calls_each (flat_map (plan_of b.input) todo) next) old new end → R
plans_noted R who b next new end r stops all goes [] rise old fit starting started lawful run = goes old fit (λ job there. done (started job there)) lawful run
  where
    done : {P : Type 0} → ⊥ ⊎ P → P
    done (inl never) = absurd never
    done (inr p) = p
plans_noted R who b next new end r stops all goes (job ∷ todo) rise old fit starting started lawful run = by starting.0 (λ later. plans_noted R who b next new end r stops all goes todo rise.1 later)
  where
    -- What is left to go on with after the job.
    Goes : World → Type 0
    Goes world = Fit who b.w world → AllByRecursion (IsStarting who.merge world b) todo → AreStarted who.merge world b all todo → IsLawfulCourse who world (calls_each (flat_map (plan_of b.input) todo) next)
        → Runs who (calls_each (flat_map (plan_of b.input) todo) next) world new end → R

    events : List Event
    events = flat_map (plan_of b.input) todo

    now_started : (world : World) → IsStarted who.merge world b job → (other : Job) → IsIn other (job ∷ todo) ⊎ IsStarted who.merge world b other → IsIn other todo ⊎ IsStarted who.merge world b other
    now_started world s other (inl (inl same)) = inr (subst (IsStarted who.merge world b) same s)
    now_started world s other (inl (inr there)) = inl there
    now_started world s other (inr o) = inr o

    lawful_by : (some : List Event) → plan_of b.input job ≡ some → IsLawfulCourse who old (calls_each (some ++ events) next)
    lawful_by some e = subst (λ es. IsLawfulCourse who old (calls_each (es ++ events) next)) e lawful

    run_by : (some : List Event) → plan_of b.input job ≡ some → Runs who (calls_each (some ++ events) next) old new end
    run_by some e = subst (λ es. Runs who (calls_each (es ++ events) next) old new end) e run

    by : IsStarting who.merge old b job → ((later : World) → Goes later) → R
    by (inl s) rest =
        let event = Plan job.id (job.attempt + 1) (map (λ range. range.0) (attempt_context b.input job).ranges) in
        let e = plans_none b.input job s.none in
        call_by R who b.w (Plain event) (λ (met : Store). calls_each events next) old new end r fit (lawful_by (event ∷ []) e) (run_by (event ∷ []) e) (λ met there stop. stops (Plain event) met there stop) (λ m.
        let own = noted_own who b job m.met (rivals_planless who b job old m.met r fit.kept m.rivals s) in
        let same : map (λ range. range.0) (fresh_context b.input job).ranges ≡ map (λ range. range.0) (attempt_context b.input job).ranges = ap (λ (a : Attempt). map (λ range. range.0) a.context.ranges) (sym (fresh_attempt b job s.none)) in
        let after = after_call who.line who.party (Plain event) None m.met in
        let mine : IsStarted who.merge after b job = subst (λ ranges. IsStarted who.merge (after_call who.line who.party (Plain (Plan job.id (job.attempt + 1) ranges)) None m.met) b job) same own in
        rest after (record { kept = m.kept; holds = own_calls_keep who.merge (Plain event) who.line who.party m.met b.w m.fit.kept r.own m.lawful tt m.fit.holds })
        (all_to _ _ todo (λ other there one. noted_starting who b other m.met job.id (job.attempt + 1) _ m.fit.kept (λ same_id. let low = all_at (λ (y : Job). job.id < y.id) todo other rise.0 there in absurd (omega (arith, low, same_id)))
        (rivals_starting who b other old m.met r fit.kept m.rivals one)) starting.1)
        (λ other there. now_started after mine other (noted m.met m.rivals m.fit.kept event_of_plan other (started other there))) m.further m.run)
      where
        event_of_plan : List Range
        event_of_plan = map (λ range. range.0) (attempt_context b.input job).ranges

        noted : (met : World) → Rivals who old met → Keeps who.merge met → (ranges : List Range) (other : Job) → IsIn other (job ∷ todo) ⊎ IsStarted who.merge old b other
            → IsIn other (job ∷ todo) ⊎ IsStarted who.merge (after_call who.line who.party (Plain (Plan job.id (job.attempt + 1) ranges)) None met) b other
        noted met rivals k ranges other (inl there) = inl there
        noted met rivals k ranges other (inr o) = inr (noted_started who b other met job.id (job.attempt + 1) ranges k (rivals_started who b other old met r fit.kept rivals o))
    by (inr s) rest = rest old fit starting.1 (λ other there. now_started old s.started other (started other there)) (lawful_by [] (plans_some b.input job s.context s.is)) (run_by [] (plans_some b.input job s.context s.is))

-- ---- with all attempts

-- The attempt has noted what its job names.
noted_named : (b : Began) (job : Job) (t : ℕ) → IsIn t (noted_tables (attempt_of b job)) → IsIn t (job_tables (left_of b job))
noted_named b job t there = by job.context refl
  where
    by : (o : Option Context) → job.context ≡ o → IsIn t (job_tables (left_of b job))
    by None e = absurd (subst (IsIn t) (ap noted_tables (fresh_attempt b job e) ∙ fresh_noted b.w (attempt_with job (fresh_context b.input job)) (fresh_is b.w b.input job b.release)) there)
    by (Some c) e = in_front t (context_tables job.context) (concat job.outputs) (subst (λ o. IsIn t (context_tables o)) (sym e)
        (subst (λ o. IsIn t (context_tables (Some (context_or (knows_cut b.input.release) o (fresh_context b.input job))))) e there))

-- A live attempt that the claim began has noted no table of another live attempt.
begun_apart : (merge : Operator) (world : World) (b : Began) (job : Job) (other : Attempt) → Keeps merge world → IsStarted merge world b job → is_live (stored_jobs world.store) b.w.number (attempt_of b job) ≡ true
    → is_live (stored_jobs world.store) b.w.number other ≡ true → NotesOwn world b.w.number other → (other.job ≡ job.id → ⊥) → AreApart (noted_tables (attempt_of b job)) (noted_tables other)
begun_apart merge world b job other k s lives other_lives own differs = apart_from (noted_tables (attempt_of b job)) (noted_tables other) (λ t one two. clash t (noted_named b job t one) (all_at _ (noted_tables other) t notes two))
  where
    l : IsLive b.w.number (stored_jobs world.store) (attempt_of b job)
    l = live_at b.w.number (stored_jobs world.store) (attempt_of b job) lives

    m : IsLive b.w.number (stored_jobs world.store) other
    m = live_at b.w.number (stored_jobs world.store) other other_lives

    mine : IsIn (left_of b job) (stored_jobs world.store)
    mine = subst (λ (j : Job). IsIn j (stored_jobs world.store)) (s.runs l.job l.stored l.runs) (job_found job.id (stored_jobs world.store) l.job l.stored).there

    its : IsIn m.job (stored_jobs world.store)
    its = (job_found other.job (stored_jobs world.store) m.job m.stored).there

    ids_differ : m.job.id ≡ job.id → ⊥
    ids_differ same = differs (sym (job_found other.job (stored_jobs world.store) m.job m.stored).same ∙ same)

    notes : AllByRecursion (MayUse (Worker b.w.number) world m.job) (noted_tables other)
    notes = subst (λ o. IfSome o (λ j. AllByRecursion (MayUse (Worker b.w.number) world j) (noted_tables other))) m.stored own

    active : IsTrue (is_active m.job)
    active = live_active b.w.number other m.job m.runs

    named_apart : (t : ℕ) → NameApart m.job (left_of b job) ⊎ NameApart (left_of b job) m.job → IsIn t (job_tables (left_of b job)) → IsIn t (job_tables m.job) → ⊥
    named_apart t (inl h) one two = apart_at (job_tables m.job) (job_tables (left_of b job)) t (h active refl) two one
    named_apart t (inr h) one two = apart_at (job_tables (left_of b job)) (job_tables m.job) t (h refl active) one two

    clash : (t : ℕ) → IsIn t (job_tables (left_of b job)) → MayUse (Worker b.w.number) world m.job t → ⊥
    clash t one (inl named) = named_apart t (two_jobs NameApart (stored_jobs world.store) m.job (left_of b job) (whole_of merge world k).body.name_apart its mine ids_differ) one (contains_in (job_tables m.job) t named)
    clash t one (inr free) = unnamed (Worker b.w.number) world m.job.id t (left_of b job) free mine refl ids_differ one

-- What a started attempt adds to a worker that fits.
adds : (merge : Operator) (world : World) (b : Began) (job : Job) (attempts : List Attempt) → Keeps merge world → IsStarted merge world b job → WorkerHolds merge world (record b.w { attempts = attempts }) → AllByRecursion (λ other. other.job ≡ job.id → ⊥) attempts
    → Added merge world (record b.w { attempts = attempts }) (attempt_of b job)
adds merge world b job attempts k s h new = record {
  cut = (s.holds.fits k.stored.replay.specs k.faithful).cuts.0;
  stands = λ specs faithful. (s.holds.fits specs faithful).each.0;
  live = λ specs faithful lives. first _ lives (s.holds.fits specs faithful).live;
  held = s.holds.each.0;
  new = new;
  own = λ lives. first _ lives s.holds.own;
  apart = λ lives other there.
      let found = from_filter (is_live (stored_jobs world.store) b.w.number) attempts other there in
      begun_apart merge world b job other k s lives found.1 (all_at _ (live_attempts (stored_jobs world.store) (record b.w { attempts = attempts })) other h.own there) (all_at (λ (x : Attempt). x.job ≡ job.id → ⊥) attempts other new found.0);
}
  where
    first : (P : Attempt → Type 0) → is_live (stored_jobs world.store) b.w.number (attempt_of b job) ≡ true → AllByRecursion P (live_attempts (stored_jobs world.store) (single b.w (attempt_of b job))) → P (attempt_of b job)
    first P lives all = by (is_live (stored_jobs world.store) b.w.number (attempt_of b job)) lives all
      where
        by : (c : Bool) → c ≡ true → AllByRecursion P (cond c (attempt_of b job ∷ []) []) → P (attempt_of b job)
        by true e all = all.0
        by false e all = absurd (cc e)

-- A worker that fits also fits with all attempts that the claim began.
pub holds_begun : (merge : Operator) (world : World) (b : Began) → Keeps merge world → (jobs : Jobs) (attempts : List Attempt) → Pairs (λ x y. x.id < y.id) jobs → AllByRecursion (IsStarted merge world b) jobs
    → AllByRecursion (λ job. AllByRecursion (λ (other : Attempt). other.job ≡ job.id → ⊥) attempts) jobs → WorkerHolds merge world (record b.w { attempts = attempts })
    → WorkerHolds merge world (record b.w { attempts = with_attempts (map (attempt_of b) jobs) attempts })
holds_begun merge world b k [] attempts rise started new h = h
holds_begun merge world b k (job ∷ jobs) attempts rise started new h =
    holds_begun merge world b k jobs (put_attempt (attempt_of b job) attempts) rise.1 started.1
    (all_to _ _ jobs (λ other there lacks. all_put (λ (x : Attempt). x.job ≡ other.id → ⊥) (attempt_of b job) attempts (λ same. let low = all_at (λ (y : Job). job.id < y.id) jobs other rise.0 there in absurd (omega (arith, low, same))) lacks) new.1)
    (holds_added merge world (record b.w { attempts = attempts }) (attempt_of b job) (adds merge world b job attempts k started.0 h new.0) h)
