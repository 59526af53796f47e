-- A worker's own put of the records leaves what it holds, if the put changes the jobs of its live
-- attempts to those that it runs still.
use Rattle.std.proofs.Common.{◌≡◌, refl, sym, ◌∙◌, ap, subst, ℕ, List, [], ◌∷◌, ◌++◌, Bool, true, false, inl, inr, Option, Some, None}
use Rattle.std.specs.Prelude.{IsTrue, IfSome, ◌==◌, ◌&&◌, not, filter}
use Rattle.std.specs.List.{AllByRecursion}
use Rattle.std.proofs.lemmas.Bool.Decides.{Decides-eqb}
use Rattle.row_model.specs.Ranges.{Range}
use Rattle.row_model.specs.Lists.{IsPrefixOf}
use Rattle.row_model.specs.Fold.{Operator}
use Rattle.fleet_model.specs.Jobs.{JobSpec, Job, Jobs, is_active, contains, changed_jobs, trimmed_jobs, job_with}
use Rattle.fleet_model.specs.History.{Worker, Entry}
use Rattle.fleet_model.specs.Store.{Records, stored_jobs}
use Rattle.fleet_model.specs.Handles.{job_tables, context_tables}
use Rattle.fleet_model.specs.Work.Parties.{Attempt, LiveWorker, is_live, live_attempts, runs_attempt}
use Rattle.fleet_model.specs.Past.Claimed.{IsClaimed, origin}
use Rattle.fleet_model.specs.Invariants.JobsFit.{SettingsFit}
use Rattle.fleet_model.specs.Invariants.AttemptsFit.{IsPlanOf, TablesFit, Extends, ContextExtends, AttemptFits, AttemptStands, LiveFits}
use Rattle.step_model.specs.Past.{World}
use Rattle.step_model.specs.Entries.{is_put_of}
use Rattle.step_model.specs.LawfulTables.{MayUse, IsOwnTable, other_tables}
use Rattle.step_model.specs.Fits.{AttemptHeld, NotesOwn, WorkerHolds, noted_tables}
use Rattle.step_laws.proofs.Elements.{IsIn, all_at, all_from, all_to, contains_no, in_contains, in_front}
use Rattle.step_laws.proofs.Deletions.{in_filter}
use Rattle.step_laws.proofs.Worlds.{settings_stay_at, ranges_stay_at}
use Rattle.step_laws.proofs.Grown.{drawn_table_grows}
use Rattle.step_laws.proofs.Bodies.{Body}
use Rattle.step_laws.proofs.RecordsBodies.{with_records, faithful_before_records}
use Rattle.step_laws.proofs.Changed.{on_these, by_these, all_on_these, found_job, job_found, in_trimmed}
use Rattle.rival_laws.proofs.WorkerFollows.{from_filter, fewer_pairs, runs_number}
use Rattle.rival_laws.proofs.WorkerCalls.{claim_grows, did_grows, held_sources}
use Rattle.step_laws.proofs.OwnTables.{unnamed}
use Rattle.rival_laws.proofs.WorkerRecords.{from_flat}

-- ---- what the put has to leave

-- The job that a live attempt runs at is left so: at the same attempt, with the attempt's context.
pub record LeftAs (worker : ℕ) (a : Attempt) (was job : Job) : Type 0 where
  pub runs : IsTrue (runs_attempt worker a.number (Some was))
  pub attempt : job.attempt ≡ was.attempt
  pub context : job.context ≡ Some a.context

-- The put changes these jobs. It keeps what the worker's attempts at them read, and it names no
-- table that is noted for a live attempt at another job.
pub record OwnPut (world : World) (w : LiveWorker) (f : Job → Job) (these : List ℕ) (entry : Entry) : Type 0 where
  pub ids : (job : Job) → (f job).id ≡ job.id
  pub specs : (job : Job) → (f job).spec ≡ job.spec
  pub sources : (job : Job) → (f job).source_tables ≡ job.source_tables
  pub origins : (a : Attempt) → IsIn a w.attempts → AttemptHeld world w.number a → origin world.store.history a.job a.number ≡ origin (world.store.history ++ entry ∷ []) a.job a.number
  pub named : (a : Attempt) → IsIn a w.attempts → AttemptHeld world w.number a → (was : Job) → IsIn was (stored_jobs world.store) → was.id ≡ a.job → IsTrue (contains these was.id)
      → job_with a.job (trimmed_jobs (changed_jobs f these (stored_jobs world.store))) ≡ Some (f was) → IsTrue (runs_attempt w.number a.number (Some (f was))) → LeftAs w.number a was (f was)
  pub others : (a : Attempt) → IsIn a w.attempts → is_live (stored_jobs world.store) w.number a ≡ true → contains these a.job ≡ false → (old : Job) → IsIn old (stored_jobs world.store) → IsTrue (contains these old.id) → IsTrue (is_active (f old))
      → (t : ℕ) → IsIn t (noted_tables a) → IsIn t (job_tables (f old)) → IsTrue (is_active old) × IsIn t (job_tables old)

-- ---- contexts extend themselves

itself : {A : Type 0} (xs : List A) → IsPrefixOf xs xs
itself xs = ([], append-nil xs)
  where
    append-nil : {A : Type 0} (xs : List A) → xs ++ [] ≡ xs
    append-nil [] = refl
    append-nil (x ∷ xs) = ap (λ ys. x ∷ ys) (append-nil xs)

pub ranges_extend : (ranges : List (Range × List ℕ)) → Extends ranges ranges
ranges_extend [] = tt
ranges_extend (r ∷ ranges) = (refl, itself r.1, ranges_extend ranges)

-- ---- a live attempt after the put

-- A live attempt and its job before and after a put of the worker: the attempt goes on, and may use its tables.
record Still (world : World) (new : World) (w : LiveWorker) (a : Attempt) : Type 0 where
  pub job : Job
  pub now : job_with a.job (stored_jobs new.store) ≡ Some job
  pub was : Job
  pub stored : job_with a.job (stored_jobs world.store) ≡ Some was
  pub live : is_live (stored_jobs world.store) w.number a ≡ true
  pub id : job.id ≡ a.job
  pub spec : job.spec ≡ was.spec
  pub number : a.number ≡ job.attempt
  pub before : a.number ≡ was.attempt
  pub sources : job.source_tables ≡ was.source_tables
  pub published : IfSome was.context (λ c. ContextExtends c a.context) → IfSome job.context (λ c. ContextExtends c a.context)
  pub own : AllByRecursion (MayUse (Worker w.number) world was) (noted_tables a) → AllByRecursion (MayUse (Worker w.number) new job) (noted_tables a)

-- The records that the put leaves.
abbrev pub left_records : World → (Job → Job) → List ℕ → ℕ → ℕ → Records
left_records world f these version epoch = record { version = version; epoch = epoch; jobs = trimmed_jobs (changed_jobs f these (stored_jobs world.store)) }

-- Each stored job after the put was stored before, and is changed if it is one of these.
pub record FromStored (world : World) (f : Job → Job) (these : List ℕ) (job : Job) : Type 0 where
  pub was : Job
  pub there : IsIn was (stored_jobs world.store)
  pub is : job ≡ on_these f these was

pub from_stored : (world : World) (f : Job → Job) (these : List ℕ) (job : Job) → IsIn job (trimmed_jobs (changed_jobs f these (stored_jobs world.store))) → FromStored world f these job
from_stored world f these job there = all_at (FromStored world f these) (changed_jobs f these (stored_jobs world.store)) job
    (all_on_these (FromStored world f these) f these (stored_jobs world.store) (λ was one. record { was = was; there = one; is = refl }))
    (in_trimmed (changed_jobs f these (stored_jobs world.store)) job there)

-- No other active job names a table of the worker's own that is noted for a live attempt.
unnamed_still : (world : World) (w : LiveWorker) (f : Job → Job) (these : List ℕ) (entry : Entry) (version epoch : ℕ) (a : Attempt) (id t : ℕ) → OwnPut world w f these entry → IsIn a w.attempts → is_live (stored_jobs world.store) w.number a ≡ true
    → contains these a.job ≡ false → id ≡ a.job → IsIn t (noted_tables a) → IsOwnTable (Worker w.number) world id t → contains (other_tables id (left_records world f these version epoch).jobs) t ≡ false
unnamed_still world w f these entry version epoch a id t put there live lacks same noted own =
    contains_no (other_tables id jobs) t (λ one. at (from_flat job_tables (filter test jobs) t one))
  where
    jobs : Jobs
    jobs = (left_records world f these version epoch).jobs

    test : Job → Bool
    test job = is_active job && not (id == job.id)

    left : (a b : Bool) → (a && b) ≡ true → IsTrue a
    left true b e = refl
    left false b e = absurd (cc e)

    differs : (j : Job) → (is_active j && not (id == j.id)) ≡ true → id ≡ j.id → ⊥
    differs j e same = by (is_active j) (id == j.id) ((Decides-eqb id j.id).1 same) e
      where
        by : (a c : Bool) → c ≡ true → (a && not c) ≡ true → ⊥
        by true true f e = absurd (cc e)
        by true false f e = absurd (cc f)
        by false c f e = absurd (cc e)

    -- The job that names the table was stored, active and named it before.
    Names : Job → Type 0
    Names job = IsTrue (is_active job) → (id ≡ job.id → ⊥) → IsIn t (job_tables job) → ⊥

    old_names : (was : Job) → IsIn was (stored_jobs world.store) → Names was
    old_names was one active other named = unnamed (Worker w.number) world id t was own one active other named

    now_names : (was : Job) → IsIn was (stored_jobs world.store) → Names (on_these f these was)
    now_names was one = by_these Names f these was
        (λ has active other named. let old = put.others a there live lacks was one has active t noted named in old_names was one old.0 (λ e. other (e ∙ sym (put.ids was))) old.1)
        (λ lacks. old_names was one)

    at : (job : Job) × (IsIn job (filter test jobs) × IsIn t (job_tables job)) → ⊥
    at found =
        let kept = from_filter test jobs found.0 found.1.0 in
        let from = from_stored world f these found.0 kept.0 in
        (subst Names (sym from.is) (now_names from.was from.there)) (left (is_active found.0) (not (id == found.0.id)) kept.1) (differs found.0 kept.1) found.1.1

-- An attempt that is live after the worker's own put was live before it, at a job with the same spec and sources.
still : (world : World) (w : LiveWorker) (f : Job → Job) (these : List ℕ) (entry : Entry) (version epoch : ℕ) (merge : Operator) (specs : ℕ → JobSpec) → Body merge world specs → OwnPut world w f these entry
    → (a : Attempt) → IsIn a w.attempts → AttemptHeld world w.number a → is_live (stored_jobs (with_records world (left_records world f these version epoch) entry).store) w.number a ≡ true → Still world (with_records world (left_records world f these version epoch) entry) w a
still world w f these entry version epoch merge specs b put a there held live = by (job_with a.job jobs) refl live
  where
    jobs : Jobs
    jobs = (left_records world f these version epoch).jobs

    new : World
    new = with_records world (left_records world f these version epoch) entry

    -- What an unchanged job leaves.
    unchanged : (was : Job) → IsIn was (stored_jobs world.store) → was.id ≡ a.job → contains these was.id ≡ false → job_with a.job jobs ≡ Some was → IsTrue (runs_attempt w.number a.number (Some was)) → Still world new w a
    unchanged was one id lacks now runs =
        let stored = subst (λ n. job_with n (stored_jobs world.store) ≡ Some was) id (found_job (stored_jobs world.store) was b.sound.job_ids one) in
        let lives : is_live (stored_jobs world.store) w.number a ≡ true = ap (runs_attempt w.number a.number) stored ∙ runs in
        record {
          job = was;
          now = now;
          was = was;
          stored = stored;
          live = lives;
          id = id;
          spec = refl;
          number = runs_number w a was runs;
          before = runs_number w a was runs;
          sources = refl;
          published = λ h. h;
          own = λ h. all_to _ _ (noted_tables a) (λ t noted may. may_still was id lives (subst (λ n. contains these n ≡ false) id lacks) t noted may) h;
        }
      where
        may_still : (was : Job) → was.id ≡ a.job → is_live (stored_jobs world.store) w.number a ≡ true → contains these a.job ≡ false → (t : ℕ) → IsIn t (noted_tables a) → MayUse (Worker w.number) world was t → MayUse (Worker w.number) new was t
        may_still was id lives lacks t noted (inl named) = inl named
        may_still was id lives lacks t noted (inr own) = inr (record {
          drawn = drawn_table_grows world.store.history entry t own.drawn;
          put = did_grows (is_put_of t) (Worker w.number) world.store.history entry own.put;
          unused = own.unused;
          unnamed = unnamed_still world w f these entry version epoch a was.id t put there lives lacks id noted own;
        })

    beaten : (was : Job) → IsIn was (stored_jobs world.store) → was.id ≡ a.job → IsTrue (contains these was.id) → job_with a.job jobs ≡ Some (f was) → IsTrue (runs_attempt w.number a.number (Some (f was))) → Still world new w a
    beaten was one id has now runs =
        let l = put.named a there held was one id has now runs in
        let stored = subst (λ n. job_with n (stored_jobs world.store) ≡ Some was) id (found_job (stored_jobs world.store) was b.sound.job_ids one) in
        record {
          job = f was;
          now = now;
          was = was;
          stored = stored;
          live = ap (runs_attempt w.number a.number) stored ∙ l.runs;
          id = put.ids was ∙ id;
          spec = put.specs was;
          number = runs_number w a (f was) runs;
          before = runs_number w a was l.runs;
          sources = put.sources was;
          published = λ h. subst (λ o. IfSome o (λ c. ContextExtends c a.context)) (sym l.context) (record { settings = refl; ranges = ranges_extend a.context.ranges });
          own = λ h. all_from _ (noted_tables a) (λ t noted. inl (in_contains (job_tables (f was)) t (in_front t (context_tables (f was).context) _ (subst (λ o. IsIn t (context_tables o)) (sym l.context) noted))));
        }

    found : (job : Job) → job_with a.job jobs ≡ Some job → IsTrue (runs_attempt w.number a.number (Some job)) → Still world new w a
    found job now runs =
        let is = job_found a.job jobs job now in
        let from = from_stored world f these job is.there in
        at from.was from.there (subst (λ j. job_with a.job jobs ≡ Some j) from.is now) (subst (λ j. IsTrue (runs_attempt w.number a.number (Some j))) from.is runs) (ap (λ (j : Job). j.id) (sym from.is) ∙ is.same)
      where
        At : Job → Job → Type 0
        At was j = job_with a.job jobs ≡ Some j → IsTrue (runs_attempt w.number a.number (Some j)) → j.id ≡ a.job → Still world new w a

        at : (was : Job) → IsIn was (stored_jobs world.store) → At was (on_these f these was)
        at was one = by_these (At was) f these was
            (λ has now runs id. beaten was one (sym (put.ids was) ∙ id) has now runs)
            (λ lacks now runs id. unchanged was one id lacks now runs)

    by : (o : Option Job) → job_with a.job jobs ≡ o → runs_attempt w.number a.number o ≡ true → Still world new w a
    by None e never = absurd (cc never)
    by (Some job) e runs = found job e runs

-- The put keeps what the worker holds.
pub holds_own : (merge : Operator) (world : World) (w : LiveWorker) (f : Job → Job) (these : List ℕ) (entry : Entry) (version epoch : ℕ) (specs : ℕ → JobSpec) → Body merge world specs → OwnPut world w f these entry
    → WorkerHolds merge world w → WorkerHolds merge (with_records world (left_records world f these version epoch) entry) w
holds_own merge world w f these entry version epoch specs b put h = record {
  fits = λ others faithful.
      let old = faithful_before_records world others (left_records world f these version epoch) entry faithful in
      record {
        cuts = (h.fits others old).cuts;
        each = all_to _ _ w.attempts (λ a there stands. record { claimed = claim others a there stands.claimed; held = stands.held; tables = stands.tables }) (h.fits others old).each;
        live = all_from _ (live_attempts jobs w) (λ a there.
            let found = from_filter (is_live jobs w.number) w.attempts a there in
            let s = still world w f these entry version epoch merge specs b put a found.0 (held a found.0) found.1 in
            let was_live = in_filter (is_live (stored_jobs world.store) w.number) w.attempts a found.0 s.live in
            live others a found.0 s (all_at _ w.attempts a (h.fits others old).each found.0) (all_at (LiveFits merge world.store others) (live_attempts (stored_jobs world.store) w) a (h.fits others old).live was_live));
      };
  each = all_to _ _ w.attempts (λ a there held. record {
    counted = held.counted;
    claimed = claim_grows world.store.history entry w.number a.job a.number held.claimed;
    ordered = held.ordered;
    sources = sources a held (job_with a.job jobs) refl;
  }) h.each;
  jobs_rise = h.jobs_rise;
  own = all_from _ (live_attempts jobs w) (λ a there.
      let found = from_filter (is_live jobs w.number) w.attempts a there in
      let s = still world w f these entry version epoch merge specs b put a found.0 (held a found.0) found.1 in
      let was_live = in_filter (is_live (stored_jobs world.store) w.number) w.attempts a found.0 s.live in
      subst (λ o. IfSome o (λ job. AllByRecursion (MayUse (Worker w.number) new job) (noted_tables a))) (sym s.now)
      (s.own (subst (λ o. IfSome o (λ job. AllByRecursion (MayUse (Worker w.number) world job) (noted_tables a))) s.stored (all_at (NotesOwn world w.number) (live_attempts (stored_jobs world.store) w) a h.own was_live))));
  apart = fewer_pairs _ (is_live (stored_jobs world.store) w.number) (is_live jobs w.number) w.attempts (λ a there live. (still world w f these entry version epoch merge specs b put a there (held a there) live).live) h.apart;
}
  where
    jobs : Jobs
    jobs = (left_records world f these version epoch).jobs

    new : World
    new = with_records world (left_records world f these version epoch) entry

    held : (a : Attempt) → IsIn a w.attempts → AttemptHeld world w.number a
    held a there = all_at (AttemptHeld world w.number) w.attempts a h.each there

    claim : (others : ℕ → JobSpec) (a : Attempt) → IsIn a w.attempts → IsClaimed world.store others a.job a.number a.context → IsClaimed new.store others a.job a.number a.context
    claim others a there c = record {
      settings = settings_stay_at world.store.tables others world.store.history entry a.job a.number _ (put.origins a there (held a there)) c.settings;
      ranges = ranges_stay_at world.store.history entry a.job a.number _ (put.origins a there (held a there)) c.ranges;
    }

    sources : (a : Attempt) → AttemptHeld world w.number a → (o : Option Job) → job_with a.job jobs ≡ o → IfSome o (λ job. a.sources ≡ job.source_tables)
    sources a held None e = tt
    sources a held (Some job) e =
        let is = job_found a.job jobs job e in
        let from = from_stored world f these job is.there in
        let id : (on_these f these from.was).id ≡ from.was.id = by_these (λ (j : Job). j.id ≡ from.was.id) f these from.was (λ has. put.ids from.was) (λ lacks. refl) in
        let same : (on_these f these from.was).source_tables ≡ from.was.source_tables = by_these (λ (j : Job). j.source_tables ≡ from.was.source_tables) f these from.was (λ has. put.sources from.was) (λ lacks. refl) in
        let stored = subst (λ n. job_with n (stored_jobs world.store) ≡ Some from.was) (sym id ∙ ap (λ (j : Job). j.id) (sym from.is) ∙ is.same) (found_job (stored_jobs world.store) from.was b.sound.job_ids from.there) in
        held_sources world w.number a from.was held stored ∙ sym same ∙ ap (λ (j : Job). j.source_tables) (sym from.is)

    live : (others : ℕ → JobSpec) (a : Attempt) → IsIn a w.attempts → Still world new w a → AttemptStands merge world.store others a → LiveFits merge world.store others a → LiveFits merge new.store others a
    live others a there s stands old =
        subst (λ o. IfSome o (λ job. AttemptFits merge new.store others job a)) (sym s.now) (fit (subst (λ o. IfSome o (λ job. AttemptFits merge world.store others job a)) s.stored old))
      where
        fit : AttemptFits merge world.store others s.was a → AttemptFits merge new.store others s.job a
        fit one = record {
          sources = one.sources ∙ sym s.sources;
          context = record {
            claimed = subst (λ n. IsClaimed new.store others s.job.id n a.context) s.number (subst (λ id. IsClaimed new.store others id a.number a.context) (sym s.id) (claim others a there stands.claimed));
            settings = subst (λ spec. SettingsFit world.store.manifest spec a.context.settings) (sym s.spec) one.context.settings;
            cut = one.context.cut;
            ranges = subst (λ ids. IsPlanOf world.store.tables ids a.context) (sym s.sources) one.context.ranges;
            tables = subst (λ ids. TablesFit merge world.store.tables ids a.context) (sym s.sources) one.context.tables;
          };
          published = s.published one.published;
        }
