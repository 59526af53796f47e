-- What the put of a claim leaves of each job that it takes.
use Rattle.std.proofs.Common.{◌≡◌, refl, sym, ◌∙◌, ap, subst, ℕ, ◌+◌, ◌<◌, List, [], ◌∷◌, cond, Bool, true, false, pos, inl, inr, Option, Some, None, arith}
use Rattle.std.specs.Prelude.{IsTrue, IfSome, ◌&&◌, ◌||◌, not, is_some, is_none, map, option_map, if◌then◌else◌}
use Rattle.std.specs.List.{AllByRecursion, concat}
use Rattle.std.specs.Option.{option_or}
use Rattle.row_model.specs.Lists.{Pairs}
use Rattle.row_model.specs.Fold.{Operator}
use Rattle.fleet_model.specs.Jobs.{JobSpec, Job, Jobs, Context, Release, One, Two, knows_cut, is_active, contains, trimmed_jobs, job_with}
use Rattle.fleet_model.specs.History.{Worker, Event, PutRecords, Claim, Beat, Entry, stood}
use Rattle.fleet_model.specs.Store.{stored_jobs, is_held}
use Rattle.fleet_model.specs.Handles.{job_tables, context_tables}
use Rattle.fleet_model.specs.Work.Records.{firsts, claimed_by, jobs_after}
use Rattle.fleet_model.specs.Work.Parties.{Attempt, LiveWorker}
use Rattle.fleet_model.specs.Sweeps.{attempt_tables}
use Rattle.fleet_model.specs.Work.Claims.{is_waiting, has_no_cut, may_take}
use Rattle.fleet_model.specs.Past.Claimed.{IsClaimed, beaten_in, first_beaten, if_earlier, origin}
use Rattle.fleet_model.specs.Invariants.AttemptsFit.{beats, was_beaten, CutFits, ContextExtends, ContextFits, AttemptFits}
use Rattle.step_model.specs.Past.{World}
use Rattle.step_model.specs.Entries.{was_claimed}
use Rattle.step_model.specs.Kept.Faithful.{Faithful}
use Rattle.step_model.specs.Kept.Keeps.{Keeps}
use Rattle.step_model.specs.LawfulTables.{MayUse}
use Rattle.step_model.specs.Fits.{AttemptHeld, WorkerHolds, noted_tables}
use Rattle.step_model.specs.Steps.ClaimSteps.{at_moment}
use Rattle.step_laws.proofs.Elements.{IsIn, all_at, all_from, all_append, all_front, all_true_front, all_true_from, in_contains, contains_in, in_front}
use Rattle.step_laws.proofs.Alike.{replays_alike, settings_same}
use Rattle.step_laws.proofs.Beaten.{attempt_named}
use Rattle.step_laws.proofs.Bodies.{JobKept, whole_of}
use Rattle.step_laws.proofs.Changed.{on_these, found_job, job_found}
use Rattle.rival_laws.proofs.JobsMerged.{StayActive, changed_stay, with_changed}
use Rattle.course_laws.proofs.Claims.{next_attempt}
use Rattle.worker_laws.proofs.Live.{waiting_active}
use Rattle.worker_laws.proofs.OwnPuts.{ranges_extend}
use Rattle.worker_laws.proofs.Sources.{sources_ordered, sources_held}
use Rattle.worker_laws.proofs.Begun.{single, RunsAs, Waits, holds_alone}
use Rattle.step_laws.proofs.Polls.{in_map}

-- ---- the jobs

-- The attempt at the job that a claim begins, with this context.
abbrev pub attempt_with : Job → Context → Attempt
attempt_with job context = record { job = job.id; number = job.attempt + 1; sources = job.source_tables; context = context }

-- The job as the claim leaves it.
abbrev pub taken_by : LiveWorker → ℕ → Job → Job
taken_by w moment job = claimed_by w.number moment job

-- The jobs that a claim takes wait and are stored, by rising id.
pub record AreWaiting (jobs these : Jobs) : Type 0 where
  pub stored : AllByRecursion (λ job. IsIn job jobs) these
  pub wait : AllByRecursion (λ job. IsTrue (is_waiting job)) these
  pub rise : Pairs (λ a b. a.id < b.id) these

record TakenFrom (id : ℕ) (these : Jobs) : Type 0 where
  job : Job
  there : IsIn job these
  same : job.id ≡ id

taken_from : (id : ℕ) (these : Jobs) → IsIn id (firsts (map next_attempt these)) → TakenFrom id these
taken_from id [] there = absurd there
taken_from id (job ∷ these) (inl same) = record { job = job; there = inl refl; same = same }
taken_from id (job ∷ these) (inr there) = let found = taken_from id these there in record { job = found.job; there = inr found.there; same = found.same }

-- The put leaves each job that it takes as a Running job.
pub stored_taken : (w : LiveWorker) (moment : ℕ) (jobs these : Jobs) (job : Job) → Pairs (λ a b. a.id < b.id) jobs → trimmed_jobs jobs ≡ jobs → AreWaiting jobs these → IsIn job these
    → job_with job.id (jobs_after (at_moment moment) (Claim w.number (map next_attempt these)) jobs) ≡ Some (taken_by w moment job)
stored_taken w moment jobs these job rise short waiting there =
    ap (job_with job.id) (changed_stay f ids jobs stay short) ∙ with_changed f ids job.id jobs (λ j. refl) ∙ ap (option_map (on_these f ids)) (found_job jobs job rise (all_at (λ j. IsIn j jobs) these job waiting.stored there))
    ∙ ap (λ b. Some (cond b (f job) job)) named
  where
    f : Job → Job
    f = claimed_by w.number moment

    ids : List ℕ
    ids = firsts (map next_attempt these)

    named : contains ids job.id ≡ true
    named = in_contains ids job.id (in_map (λ (p : ℕ × ℕ). p.0) (map next_attempt these) (next_attempt job) (in_map next_attempt these job there))

    some : (one other : Job) → Some one ≡ Some other → IsTrue (is_active one) → IsTrue (is_active other)
    some one other e active = subst (λ (j : Job). IsTrue (is_active j)) (same e) active
      where
        same : Some one ≡ Some other → one ≡ other
        same e = cc e

    active_at : (one : Job) → IsIn one jobs → TakenFrom one.id these → IsTrue (is_active one)
    active_at one in_jobs t =
        some t.job one (sym (found_job jobs t.job rise (all_at (λ j. IsIn j jobs) these t.job waiting.stored t.there)) ∙ ap (λ id. job_with id jobs) t.same ∙ found_job jobs one rise in_jobs)
        (waiting_active t.job.status (is_none t.job.lease) (all_at (λ j. IsTrue (is_waiting j)) these t.job waiting.wait t.there))

    stay : StayActive f ids jobs
    stay = all_from _ jobs (λ one in_jobs e. (active_at one in_jobs (taken_from one.id these (contains_in ids one.id e)), refl))

-- ---- after the put

-- The claim took the job.
pub record Took (world : World) (w : LiveWorker) (moment : ℕ) (job : Job) : Type 0 where
  pub stored : job_with job.id (stored_jobs world.store) ≡ Some (taken_by w moment job)
  pub claimed : IsTrue (was_claimed world.store.history w.number job.id (job.attempt + 1))

took_kept : (merge : Operator) (world : World) (w : LiveWorker) (moment : ℕ) (job : Job) (k : Keeps merge world) → Took world w moment job → JobKept merge world k.stored.replay.specs (taken_by w moment job)
took_kept merge world w moment job k t = all_at _ (stored_jobs world.store) (taken_by w moment job) (whole_of merge world k).body.jobs (job_found job.id (stored_jobs world.store) (taken_by w moment job) t.stored).there

took_held : (merge : Operator) (world : World) (w : LiveWorker) (moment : ℕ) (job : Job) (context : Context) → Keeps merge world → Took world w moment job → AttemptHeld world w.number (attempt_with job context)
took_held merge world w moment job context k t = record {
  counted = omega arith;
  claimed = t.claimed;
  ordered = sources_ordered merge world k.stored.replay.specs (taken_by w moment job) (whole_of merge world k).body ((took_kept merge world w moment job k t).fits.sources.0 refl);
  sources = subst (λ o. IfSome o (λ (j : Job). job.source_tables ≡ j.source_tables)) (sym t.stored) refl;
}

pub took_runs : (world : World) (w : LiveWorker) (moment : ℕ) (job : Job) (context : Context) → Took world w moment job → RunsAs w (attempt_with job context) (taken_by w moment job) world
took_runs world w moment job context t other e runs = cc (sym e ∙ t.stored)

took_sources : (merge : Operator) (world : World) (w : LiveWorker) (moment : ℕ) (job : Job) → Keeps merge world → Took world w moment job → AllByRecursion (λ id. IsTrue (is_held world.store id)) job.source_tables
took_sources merge world w moment job k t = sources_held merge world k.stored.replay.specs (taken_by w moment job) (whole_of merge world k).body ((took_kept merge world w moment job k t).fits.sources.0 refl)

-- ---- a job without a context

-- A context of which nothing is known.
abbrev pub blank : Context
blank = record { settings = record { floor = 0; tick = pos 0; last_run = false; cut = 0 }; has_cut = false; ranges = [] }

beat_of : (job n : ℕ) (took : Bool) (event : Event) → (if took then beaten_in job event else None) ≡ Some n → (beats job event && took) ≡ true
beat_of job n true (PutRecords (Beat worker attempts)) e = both (contains (firsts attempts) job) (in_contains (firsts attempts) job (in_map (λ (p : ℕ × ℕ). p.0) attempts (job, n) (attempt_named job n attempts e)))
  where
    both : (b : Bool) → IsTrue b → (b && true) ≡ true
    both true h = refl
    both false h = absurd (cc h)
beat_of job n true event e = absurd (cc e)
beat_of job n false event e = absurd (cc e)

-- A job of which a first heartbeat is found was beaten.
first_is_beaten : (job n : ℕ) (history : List Entry) → first_beaten job history ≡ Some n → IsTrue (was_beaten history job)
first_is_beaten job n [] e = absurd (cc e)
first_is_beaten job n (entry ∷ history) e = by (if stood entry.answer then beaten_in job entry.event else None) refl (first_is_beaten job n history) e
  where
    front : (b c : Bool) → b ≡ true → IsTrue (b || c)
    front true c h = refl
    front false c h = absurd (cc h)

    back : (b c : Bool) → IsTrue c → IsTrue (b || c)
    back true c h = refl
    back false c h = h

    by : (o : Option ℕ) → (if stood entry.answer then beaten_in job entry.event else None) ≡ o → (first_beaten job history ≡ Some n → IsTrue (was_beaten history job)) → option_or o (first_beaten job history) ≡ Some n
        → IsTrue ((beats job entry.event && stood entry.answer) || was_beaten history job)
    by None f rest e = back (beats job entry.event && stood entry.answer) (was_beaten history job) (rest e)
    by (Some m) f rest e = front (beats job entry.event && stood entry.answer) (was_beaten history job) (beat_of job m (stood entry.answer) entry.event f)

-- The attempt that a claim begins at a job without a context is its own origin, and its tables are held.
pub took_waits : (merge : Operator) (world : World) (w : LiveWorker) (moment : ℕ) (job : Job) → Keeps merge world → Took world w moment job → job.context ≡ None → Waits world w (attempt_with job blank) (taken_by w moment job)
took_waits merge world w moment job k t none = record {
  held = took_held merge world w moment job blank k t;
  origin = by (first_beaten job.id world.store.history) refl;
  tables = all_true_from (is_held world.store) (attempt_tables (attempt_with job blank)) (all_append _ job.source_tables [] (took_sources merge world w moment job k t) tt);
  spec = kept.spec;
  runs = took_runs world w moment job blank t;
}
  where
    kept : JobKept merge world k.stored.replay.specs (taken_by w moment job)
    kept = took_kept merge world w moment job k t

    unbeaten : IsTrue (was_beaten world.store.history job.id) → ⊥
    unbeaten beaten = never (subst (λ o. IsTrue (is_some o)) none (kept.fits.context.there.1 (refl, beaten)))
      where
        never : IsTrue false → ⊥
        never h = absurd (cc h)

    by : (o : Option ℕ) → first_beaten job.id world.store.history ≡ o → origin world.store.history job.id (job.attempt + 1) ≡ job.attempt + 1
    by None e = ap (if_earlier (job.attempt + 1)) e
    by (Some n) e = absurd (unbeaten (first_is_beaten job.id n world.store.history e))

-- ---- a job with a context

-- The context that the claim takes over.
abbrev pub over_taken : LiveWorker → Context → Context
over_taken w context = record context { has_cut = knows_cut w.release }

cut_taken : (release : Release) (job : Job) (c : Context) → job.context ≡ Some c → may_take release job ≡ true → CutFits c → CutFits (record c { has_cut = knows_cut release })
cut_taken One job c is may fits never = fits (plain c.has_cut (subst (λ o. has_no_cut o ≡ true) is may))
  where
    plain : (b : Bool) → not b ≡ true → b ≡ false
    plain true e = absurd (cc e)
    plain false e = refl
cut_taken Two job c is may fits never = absurd (cc never)

-- A worker fits with only the attempt that takes over a claimed job's context, if its release may take the job.
pub took_over : (merge : Operator) (world : World) (w : LiveWorker) (moment : ℕ) (job : Job) (c : Context) → Keeps merge world → Took world w moment job → job.context ≡ Some c → may_take w.release job ≡ true
    → WorkerHolds merge world (single w (attempt_with job (over_taken w c)))
took_over merge world w moment job c k t is may = holds_alone merge world w a (record {
  cut = refl;
  held = took_held merge world w moment job (over_taken w c) k t;
  stands = λ specs faithful. record {
    claimed = claimed specs faithful;
    held = all_true_from (is_held world.store) (attempt_tables a) (all_append _ job.source_tables (context_tables (Some c)) (took_sources merge world w moment job k t)
        (subst (λ o. AllByRecursion (λ id. IsTrue (is_held world.store id)) (context_tables o)) is (all_front _ (context_tables job.context) (concat job.outputs) (all_true_front (is_held world.store) (job_tables (taken_by w moment job)) (kept.fits.tables refl).named))));
    tables = fits.tables;
  };
  live = λ specs faithful other e runs. subst (λ (j : Job). AttemptFits merge world.store specs j a) (sym (took_runs world w moment job (over_taken w c) t other e runs)) (record {
    sources = refl;
    context = record { claimed = claimed specs faithful; settings = fits.settings; cut = cut_taken w.release job c is may fits.cut; ranges = fits.ranges; tables = fits.tables };
    published = subst (λ o. IfSome o (λ (old : Context). ContextExtends old (over_taken w c))) (sym is) (record { settings = refl; ranges = ranges_extend c.ranges });
  });
  own = λ lives. subst (λ o. IfSome o (λ (j : Job). AllByRecursion (MayUse (Worker w.number) world j) (noted_tables a))) (sym t.stored)
      (all_from _ (noted_tables a) (λ id there. inl (in_contains (job_tables (taken_by w moment job)) id (in_front id (context_tables job.context) (concat job.outputs) (subst (λ o. IsIn id (context_tables o)) (sym is) there)))));
})
  where
    a : Attempt
    a = attempt_with job (over_taken w c)

    kept : JobKept merge world k.stored.replay.specs (taken_by w moment job)
    kept = took_kept merge world w moment job k t

    fits : ContextFits merge world.store k.stored.replay.specs (taken_by w moment job) c
    fits = subst (λ o. IfSome o (ContextFits merge world.store k.stored.replay.specs (taken_by w moment job))) is kept.fits.context.fits

    claimed : (specs : ℕ → JobSpec) → Faithful world specs → IsClaimed world.store specs job.id (job.attempt + 1) (over_taken w c)
    claimed specs faithful = record {
      settings = settings_same world.store.tables world.store.tables specs k.stored.replay.specs world.store.history job.id (job.attempt + 1) (replays_alike world specs k.stored.replay.specs faithful k.faithful) (kept.spec specs faithful ∙ sym (kept.spec k.stored.replay.specs k.faithful)) ∙ fits.claimed.settings;
      ranges = fits.claimed.ranges;
    }
