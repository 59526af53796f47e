-- An attempt that a claim begins: what is so of it before its plan is noted, and what a worker that
-- runs it alone holds after the note.
use Rattle.std.proofs.Common.{◌≡◌, refl, sym, ◌∙◌, ap, subst, ℕ, List, [], ◌∷◌, ◌++◌, cond, Bool, true, false, inl, Option, Some, None}
use Rattle.std.specs.Prelude.{IsTrue, IfSome, map, flat_map}
use Rattle.std.specs.List.{AllByRecursion}
use Rattle.row_model.specs.Ranges.{Range}
use Rattle.row_model.specs.Lists.{Pairs}
use Rattle.row_model.specs.Rows.{IsStrictlyOrdered, sorted_rows}
use Rattle.row_model.specs.Fold.{Operator}
use Rattle.row_model.specs.Written.Plan.{planned_ranges}
use Rattle.fleet_model.specs.Nodes.{is_among}
use Rattle.fleet_model.specs.Jobs.{JobSpec, Job, knows_cut, job_with}
use Rattle.fleet_model.specs.History.{Worker}
use Rattle.fleet_model.specs.Store.{stored_jobs, AreHeld}
use Rattle.fleet_model.specs.Handles.{context_tables}
use Rattle.fleet_model.specs.Work.Attempts.{noted_rows, range_rows}
use Rattle.fleet_model.specs.Work.Parties.{Attempt, LiveWorker, is_live, live_attempts, runs_attempt}
use Rattle.fleet_model.specs.Sweeps.{attempt_tables}
use Rattle.fleet_model.specs.Invariants.JobsFit.{SettingsFit}
use Rattle.fleet_model.specs.Past.Claimed.{IsClaimed, origin, settings_of, ranges_of, without_cut}
use Rattle.fleet_model.specs.Invariants.AttemptsFit.{IsPlanOf, TablesFit, CutFits, ContextExtends, AttemptFits, LiveFits, AttemptStands}
use Rattle.step_model.specs.Past.{World}
use Rattle.step_model.specs.Kept.Faithful.{Faithful}
use Rattle.step_model.specs.LawfulTables.{MayUse}
use Rattle.step_model.specs.Kept.TablesKept.{AreApart}
use Rattle.step_model.specs.Fits.{AttemptHeld, NotesOwn, WorkerHolds, noted_tables}
use Rattle.step_laws.proofs.Elements.{all_at, all_from, all_front, all_true_front}
use Rattle.step_laws.proofs.Held.{are_put}
use Rattle.step_laws.proofs.Changed.{job_found}
use Rattle.rival_laws.proofs.WorkerFollows.{Follows, flat_rows, map_rows, runs_running}
use Rattle.worker_laws.proofs.Live.{live_at}

-- The worker with this attempt alone.
abbrev pub single : LiveWorker → Attempt → LiveWorker
single w a = record w { attempts = a ∷ [] }

-- If the worker runs its job at the attempt, the stored job is this one.
abbrev pub RunsAs : LiveWorker → Attempt → Job → World → Type 0
RunsAs w a taken world = (job : Job) → job_with a.job (stored_jobs world.store) ≡ Some job → IsTrue (runs_attempt w.number a.number (Some job)) → job ≡ taken

-- The attempt was claimed, and its job then became this one. No heartbeat gave it an earlier origin.
pub record Waits (world : World) (w : LiveWorker) (a : Attempt) (taken : Job) : Type 0 where
  pub held : AttemptHeld world w.number a
  pub origin : origin world.store.history a.job a.number ≡ a.number
  pub tables : AreHeld world.store (attempt_tables a)
  pub spec : (specs : ℕ → JobSpec) → Faithful world specs → specs a.job ≡ taken.spec
  pub runs : RunsAs w a taken world

-- The sources of the attempt were put.
sources_put : (world : World) (a : Attempt) → AreHeld world.store (attempt_tables a) → AllByRecursion (λ id. IsTrue (is_among world.store.tables id)) a.sources
sources_put world a held = all_front _ a.sources (context_tables (Some a.context)) (all_true_front (is_among world.store.tables) (attempt_tables a) (are_put world.store (attempt_tables a) held))

-- An attempt whose plan is not noted yet stays as its claim left it, after calls that leave what its worker reads.
pub waits_follow : (old now : World) (w : LiveWorker) (a : Attempt) (taken : Job) → Follows old now (single w a) → Waits old w a taken → Waits now w a taken
waits_follow old now w a taken f h = record {
  held = record {
    counted = h.held.counted;
    claimed = f.grows a.job a.number h.held.claimed;
    ordered = subst IsStrictlyOrdered (sym (ap sorted_rows (flat_rows old.store.tables now.store.tables a.sources f.rows (sources_put old a h.tables)))) h.held.ordered;
    sources = sources (job_with a.job (stored_jobs now.store)) refl;
  };
  origin = sym (f.origins a (inl refl) h.held) ∙ h.origin;
  tables = f.held a (inl refl) h.tables;
  spec = λ specs faithful. h.spec specs (f.faithful specs faithful);
  runs = λ job e runs. h.runs job (f.jobs a (inl refl) h.held job e runs) runs;
}
  where
    sources : (o : Option Job) → job_with a.job (stored_jobs now.store) ≡ o → IfSome o (λ job. a.sources ≡ job.source_tables)
    sources None e = tt
    sources (Some job) e = f.sources a (inl refl) h.held job e

-- The attempt has the settings that the manifest of its claim gives, but no note of its plan yet.
pub record Begun (world : World) (w : LiveWorker) (a : Attempt) (taken : Job) : Type 0 where
  pub waits : Waits world w a taken
  pub settings : (specs : ℕ → JobSpec) → Faithful world specs → settings_of world.store.tables specs world.store.history a.job a.number ≡ Some (without_cut a.context.settings)
  pub fit : (job : Job) → job_with a.job (stored_jobs world.store) ≡ Some job → IsTrue (runs_attempt w.number a.number (Some job)) → SettingsFit world.store.manifest job.spec a.context.settings
  pub plan : IsPlanOf world.store.tables a.sources a.context

pub begun_follow : (old now : World) (w : LiveWorker) (a : Attempt) (taken : Job) → Follows old now (single w a) → Begun old w a taken → Begun now w a taken
begun_follow old now w a taken f h = record {
  waits = waits_follow old now w a taken f h.waits;
  settings = λ specs faithful. f.settings_found specs faithful a (inl refl) h.waits.held _ (h.settings specs (f.faithful specs faithful));
  fit = λ job e runs.
      let before = f.jobs a (inl refl) h.waits.held job e runs in
      f.settings job (job_found a.job (stored_jobs old.store) job before).there (runs_running w a job runs) a.context.settings (h.fit job before runs);
  plan = (h.plan.0, h.plan.1 ∙ ap (planned_ranges h.plan.0) (sym (map_rows old.store.tables now.store.tables a.sources f.rows (sources_put old a h.waits.tables))));
}

-- ---- after the note

-- The context of a claim that takes over none: no table is noted, and the cut is as the release asks.
pub record IsFresh (w : LiveWorker) (a : Attempt) : Type 0 where
  pub cut : a.context.has_cut ≡ knows_cut w.release
  pub cut_fits : CutFits a.context
  pub none : AllByRecursion (λ (range : Range × List ℕ). range.1 ≡ []) a.context.ranges

-- The job is the one that the attempt runs at.
pub record IsAt (a : Attempt) (job : Job) : Type 0 where
  pub id : job.id ≡ a.job
  pub number : job.attempt ≡ a.number
  pub sources : job.source_tables ≡ a.sources

none_noted : (ranges : List (Range × List ℕ)) → AllByRecursion (λ (range : Range × List ℕ). range.1 ≡ []) ranges → flat_map (λ (range : Range × List ℕ). range.1) ranges ≡ []
none_noted [] h = refl
none_noted (r ∷ ranges) h = ap (λ ids. ids ++ flat_map (λ (range : Range × List ℕ). range.1) ranges) h.0 ∙ none_noted ranges h.1

pub fresh_noted : (w : LiveWorker) (a : Attempt) → IsFresh w a → noted_tables a ≡ []
fresh_noted w a f = none_noted a.context.ranges f.none

fresh_fits : (merge : Operator) (world : World) (w : LiveWorker) (a : Attempt) → IsFresh w a → TablesFit merge world.store.tables a.sources a.context
fresh_fits merge world w a f = all_from _ a.context.ranges (λ range there.
    let rows : noted_rows world.store.tables range.1 ≡ [] = ap (noted_rows world.store.tables) (all_at _ a.context.ranges range f.none there) in
    ((range_rows merge world.store.tables a.context.settings a.sources range.0).rows, ap (λ xs. xs ++ (range_rows merge world.store.tables a.context.settings a.sources range.0).rows) rows))

-- A worker that runs one attempt holds it, if it holds what it has to in either case.
pub record Alone (merge : Operator) (world : World) (w : LiveWorker) (a : Attempt) : Type 0 where
  pub cut : a.context.has_cut ≡ knows_cut w.release
  pub held : AttemptHeld world w.number a
  pub stands : (specs : ℕ → JobSpec) → Faithful world specs → AttemptStands merge world.store specs a
  pub live : (specs : ℕ → JobSpec) → Faithful world specs → (job : Job) → job_with a.job (stored_jobs world.store) ≡ Some job → IsTrue (runs_attempt w.number a.number (Some job)) → AttemptFits merge world.store specs job a
  pub own : is_live (stored_jobs world.store) w.number a ≡ true → NotesOwn world w.number a

-- A worker that runs one attempt alone fits, if the attempt fits and notes only tables of the worker's own.
pub holds_alone : (merge : Operator) (world : World) (w : LiveWorker) (a : Attempt) → Alone merge world w a → WorkerHolds merge world (single w a)
holds_alone merge world w a h = record {
  fits = λ specs faithful. record { cuts = (h.cut, tt); each = (h.stands specs faithful, tt); live = if_live (LiveFits merge world.store specs) (λ lives. live specs faithful lives) };
  each = (h.held, tt);
  jobs_rise = (tt, tt);
  own = if_live (NotesOwn world w.number) h.own;
  apart = few (λ x y. AreApart (noted_tables x) (noted_tables y)) (is_live (stored_jobs world.store) w.number a);
}
  where
    if_live : (P : Attempt → Type 0) → (is_live (stored_jobs world.store) w.number a ≡ true → P a) → AllByRecursion P (live_attempts (stored_jobs world.store) (single w a))
    if_live P one = by (is_live (stored_jobs world.store) w.number a) refl
      where
        by : (b : Bool) → is_live (stored_jobs world.store) w.number a ≡ b → AllByRecursion P (cond b (a ∷ []) [])
        by true e = (one e, tt)
        by false e = tt

    few : (R : Attempt → Attempt → Type 0) (b : Bool) → Pairs R (cond b (a ∷ []) [])
    few R true = (tt, tt)
    few R false = tt

    live : (specs : ℕ → JobSpec) → Faithful world specs → is_live (stored_jobs world.store) w.number a ≡ true → LiveFits merge world.store specs a
    live specs faithful lives =
        let l = live_at w.number (stored_jobs world.store) a lives in
        subst (λ o. IfSome o (λ job. AttemptFits merge world.store specs job a)) (sym l.stored) (h.live specs faithful l.job l.stored l.runs)

-- After the note of its plan, a worker that runs the attempt alone fits.
pub begun_holds : (merge : Operator) (world : World) (w : LiveWorker) (a : Attempt) (taken : Job) → IsFresh w a → IsAt a taken → taken.context ≡ None → Begun world w a taken → ranges_of world.store.history a.job a.number ≡ Some (map (λ range. range.0) a.context.ranges)
    → WorkerHolds merge world (single w a)
begun_holds merge world w a taken fresh at none h ranges = holds_alone merge world w a (record {
  cut = fresh.cut;
  held = h.waits.held;
  stands = λ specs faithful. record { claimed = record { settings = h.settings specs faithful; ranges = ranges }; held = h.waits.tables; tables = fresh_fits merge world w a fresh };
  live = λ specs faithful job e runs. live specs faithful job e runs;
  own = λ lives. own (job_with a.job (stored_jobs world.store));
})
  where
    own : (o : Option Job) → IfSome o (λ job. AllByRecursion (MayUse (Worker w.number) world job) (noted_tables a))
    own None = tt
    own (Some job) = subst (AllByRecursion (MayUse (Worker w.number) world job)) (sym (fresh_noted w a fresh)) tt

    live : (specs : ℕ → JobSpec) → Faithful world specs → (job : Job) → job_with a.job (stored_jobs world.store) ≡ Some job → IsTrue (runs_attempt w.number a.number (Some job)) → AttemptFits merge world.store specs job a
    live specs faithful job e runs = subst (λ (j : Job). AttemptFits merge world.store specs j a) (sym same) (record {
      sources = sym at.sources;
      context = record {
        claimed = subst (λ id. IsClaimed world.store specs id taken.attempt a.context) (sym at.id) (subst (λ n. IsClaimed world.store specs a.job n a.context) (sym at.number) (record { settings = h.settings specs faithful; ranges = ranges }));
        settings = subst (λ (j : Job). SettingsFit world.store.manifest j.spec a.context.settings) same (h.fit job e runs);
        cut = fresh.cut_fits;
        ranges = subst (λ ids. IsPlanOf world.store.tables ids a.context) (sym at.sources) h.plan;
        tables = subst (λ ids. TablesFit merge world.store.tables ids a.context) (sym at.sources) (fresh_fits merge world w a fresh);
      };
      published = subst (λ o. IfSome o (λ c. ContextExtends c a.context)) (sym none) tt;
    })
      where
        same : job ≡ taken
        same = h.waits.runs job e runs
