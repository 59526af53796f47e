-- What a worker holds, after a call that leaves its claims, its tables, its live jobs and their settings.
use Rattle.std.proofs.Common.{◌≡◌, refl, sym, ◌∙◌, ap, subst, ℕ, List, [], ◌∷◌, ◌++◌, cond, Bool, true, false, inl, inr, ◌⊎◌, Option, Some, None}
use Rattle.std.specs.Prelude.{IsTrue, IfSome, ◌==◌, map, filter, flat_map}
use Rattle.std.specs.List.{AllByRecursion}
use Rattle.std.proofs.lemmas.Bool.Decides.{Decides-eqb}
use Rattle.row_model.specs.Lists.{Pairs, IsPrefixOf}
use Rattle.row_model.specs.Rows.{IsStrictlyOrdered, sorted_rows}
use Rattle.row_model.specs.Fold.{Operator}
use Rattle.row_model.specs.Settings.{Settings}
use Rattle.row_model.specs.Ranges.{Range}
use Rattle.row_model.specs.Written.Plan.{planned_ranges}
use Rattle.fleet_model.specs.Nodes.{Tables, is_among, table_rows}
use Rattle.fleet_model.specs.Jobs.{JobSpec, Job, Context, Running, has_status, job_with}
use Rattle.fleet_model.specs.History.{Worker}
use Rattle.fleet_model.specs.Store.{stored_jobs, AreHeld}
use Rattle.fleet_model.specs.Handles.{context_tables}
use Rattle.fleet_model.specs.Work.Attempts.{source_rows, noted_rows, range_rows}
use Rattle.fleet_model.specs.Work.Parties.{Attempt, LiveWorker, is_live, is_leased_to, live_attempts, runs_attempt}
use Rattle.fleet_model.specs.Sweeps.{attempt_tables}
use Rattle.fleet_model.specs.Invariants.JobsFit.{SettingsFit}
use Rattle.fleet_model.specs.Past.Claimed.{IsClaimed, origin, settings_of, ranges_of}
use Rattle.fleet_model.specs.Invariants.AttemptsFit.{TablesFit, AttemptFits, LiveFits, AttemptStands}
use Rattle.step_model.specs.Past.{World}
use Rattle.step_model.specs.Entries.{was_claimed}
use Rattle.step_model.specs.Kept.Faithful.{Faithful}
use Rattle.step_model.specs.LawfulTables.{MayUse}
use Rattle.step_model.specs.Fits.{AttemptHeld, NotesOwn, WorkerHolds, noted_tables}
use Rattle.step_laws.proofs.Elements.{IsIn, all_at, all_from, all_to, all_front, all_back, all_unflat, all_true_front}
use Rattle.step_laws.proofs.Deletions.{in_filter}
use Rattle.step_laws.proofs.Held.{are_put}
use Rattle.step_laws.proofs.Changed.{job_found}
use Rattle.step_laws.proofs.WorkerPuts.{last_of_three, first_of_three}

-- ---- what follows

-- What a call leaves of all that a worker's fit reads.
pub record Follows (old new : World) (w : LiveWorker) : Type 0 where
  pub grows : (job number : ℕ) → IsTrue (was_claimed old.store.history w.number job number) → IsTrue (was_claimed new.store.history w.number job number)
  pub faithful : (specs : ℕ → JobSpec) → Faithful new specs → Faithful old specs
  pub origins : (a : Attempt) → IsIn a w.attempts → AttemptHeld old w.number a → origin old.store.history a.job a.number ≡ origin new.store.history a.job a.number
  pub settings_found : (specs : ℕ → JobSpec) → Faithful new specs → (a : Attempt) → IsIn a w.attempts → AttemptHeld old w.number a → (s : Settings)
      → settings_of old.store.tables specs old.store.history a.job a.number ≡ Some s → settings_of new.store.tables specs new.store.history a.job a.number ≡ Some s
  pub ranges_found : (a : Attempt) → IsIn a w.attempts → AttemptHeld old w.number a → (ranges : List Range) → ranges_of old.store.history a.job a.number ≡ Some ranges → ranges_of new.store.history a.job a.number ≡ Some ranges
  pub held : (a : Attempt) → IsIn a w.attempts → AreHeld old.store (attempt_tables a) → AreHeld new.store (attempt_tables a)
  pub rows : (id : ℕ) → IsTrue (is_among old.store.tables id) → table_rows new.store.tables id ≡ table_rows old.store.tables id
  pub jobs : (a : Attempt) → IsIn a w.attempts → AttemptHeld old w.number a → (job : Job) → job_with a.job (stored_jobs new.store) ≡ Some job → IsTrue (runs_attempt w.number a.number (Some job)) → job_with a.job (stored_jobs old.store) ≡ Some job
  pub sources : (a : Attempt) → IsIn a w.attempts → AttemptHeld old w.number a → (job : Job) → job_with a.job (stored_jobs new.store) ≡ Some job → a.sources ≡ job.source_tables
  pub settings : (job : Job) → IsIn job (stored_jobs old.store) → IsTrue (has_status Running job) → (s : Settings) → SettingsFit old.store.manifest job.spec s → SettingsFit new.store.manifest job.spec s
  pub use_still : (job : Job) → IsIn job (stored_jobs old.store) → IsTrue (has_status Running job) → (t : ℕ) → MayUse (Worker w.number) old job t → MayUse (Worker w.number) new job t

-- ---- rows of tables

-- The tables that were put keep their rows.
abbrev pub RowsStay : Tables → Tables → Type 0
RowsStay old new = (id : ℕ) → IsTrue (is_among old id) → table_rows new id ≡ table_rows old id

pub flat_rows : (old new : Tables) (ids : List ℕ) → RowsStay old new → AllByRecursion (λ id. IsTrue (is_among old id)) ids → flat_map (table_rows new) ids ≡ flat_map (table_rows old) ids
flat_rows old new [] stay put = refl
flat_rows old new (id ∷ ids) stay put =
    let first = stay id put.0 in
    let rest = flat_rows old new ids stay put.1 in
    λ i. first i ++ rest i

pub map_rows : (old new : Tables) (ids : List ℕ) → RowsStay old new → AllByRecursion (λ id. IsTrue (is_among old id)) ids → map (table_rows new) ids ≡ map (table_rows old) ids
map_rows old new [] stay put = refl
map_rows old new (id ∷ ids) stay put =
    let first = stay id put.0 in
    let rest = map_rows old new ids stay put.1 in
    λ i. first i ∷ rest i

pub tables_stay : (merge : Operator) (old new : Tables) (sources : List ℕ) (context : Context) → RowsStay old new → AllByRecursion (λ id. IsTrue (is_among old id)) sources → AllByRecursion (λ id. IsTrue (is_among old id)) (context_tables (Some context))
    → TablesFit merge old sources context → TablesFit merge new sources context
tables_stay merge old new sources context stay put noted fits = all_to _ _ context.ranges (λ range there one. still range (all_at _ context.ranges range each there) one) fits
  where
    each : AllByRecursion (λ (range : Range × List ℕ). AllByRecursion (λ id. IsTrue (is_among old id)) range.1) context.ranges
    each = all_unflat _ (λ (range : Range × List ℕ). range.1) context.ranges noted

    still : (range : Range × List ℕ) → AllByRecursion (λ id. IsTrue (is_among old id)) range.1 → IsPrefixOf (noted_rows old range.1) (range_rows merge old context.settings sources range.0).rows
        → IsPrefixOf (noted_rows new range.1) (range_rows merge new context.settings sources range.0).rows
    still range own one = rw (flat_rows old new range.1 stay own, flat_rows old new sources stay put) one

-- ---- lists of live attempts

-- An element of a filtered list is in the whole list and passes the test.
pub from_filter : {A : Type 0} (p : A → Bool) (xs : List A) (x : A) → IsIn x (filter p xs) → IsIn x xs × (p x ≡ true)
from_filter p [] x there = absurd there
from_filter {A} p (y ∷ xs) x there = by (p y) refl (from_filter p xs x) there
  where
    later : IsIn x xs × (p x ≡ true) → IsIn x (y ∷ xs) × (p x ≡ true)
    later h = (inr h.0, h.1)

    front : (y ≡ x) ⊎ IsIn x (filter p xs) → p y ≡ true → (IsIn x (filter p xs) → IsIn x xs × (p x ≡ true)) → IsIn x (y ∷ xs) × (p x ≡ true)
    front (inl same) e rest = (inl same, subst (λ z. p z ≡ true) same e)
    front (inr one) e rest = later (rest one)

    by : (b : Bool) → p y ≡ b → (IsIn x (filter p xs) → IsIn x xs × (p x ≡ true)) → IsIn x (cond b (y ∷ filter p xs) (filter p xs)) → IsIn x (y ∷ xs) × (p x ≡ true)
    by true e rest there = front there e rest
    by false e rest there = later (rest there)

-- A relation between every two of some elements holds between every two of fewer.
pub fewer_pairs : {A : Type 0} (R : A → A → Type 0) (p q : A → Bool) (xs : List A) → ((x : A) → IsIn x xs → q x ≡ true → p x ≡ true) → Pairs R (filter p xs) → Pairs R (filter q xs)
fewer_pairs R p q [] h pairs = tt
fewer_pairs {A} R p q (x ∷ xs) h pairs = by (p x) refl (q x) refl (λ rest. fewer_pairs R p q xs (λ y there. h y (inr there)) rest) pairs
  where
    fewer : AllByRecursion (R x) (filter p xs) → AllByRecursion (R x) (filter q xs)
    fewer all = all_from _ (filter q xs) (λ y there. let found = from_filter q xs y there in all_at (R x) (filter p xs) y all (in_filter p xs y found.0 (h y (inr found.0) found.1)))

    by : (b : Bool) → p x ≡ b → (c : Bool) → q x ≡ c → (Pairs R (filter p xs) → Pairs R (filter q xs)) → Pairs R (cond b (x ∷ filter p xs) (filter p xs)) → Pairs R (cond c (x ∷ filter q xs) (filter q xs))
    by true e true f rest pairs = (fewer pairs.0, rest pairs.1)
    by true e false f rest pairs = rest pairs.1
    by false e true f rest pairs = absurd (cc (e, h x (inl refl) f))
    by false e false f rest pairs = rest pairs

-- ---- an attempt that is live

-- A live attempt, with its stored job, which was stored before too.
record StillLive (old new : World) (w : LiveWorker) (a : Attempt) : Type 0 where
  pub job : Job
  pub now : job_with a.job (stored_jobs new.store) ≡ Some job
  pub before : job_with a.job (stored_jobs old.store) ≡ Some job
  pub runs : IsTrue (runs_attempt w.number a.number (Some job))
  pub live : is_live (stored_jobs old.store) w.number a ≡ true

still_live : (old new : World) (w : LiveWorker) (a : Attempt) → Follows old new w → IsIn a w.attempts → AttemptHeld old w.number a → is_live (stored_jobs new.store) w.number a ≡ true → StillLive old new w a
still_live old new w a f there held live = by (job_with a.job (stored_jobs new.store)) refl live
  where
    by : (o : Option Job) → job_with a.job (stored_jobs new.store) ≡ o → runs_attempt w.number a.number o ≡ true → StillLive old new w a
    by None e never = absurd (cc never)
    by (Some job) e runs =
        let before = f.jobs a there held job e runs in
        record { job = job; now = e; before = before; runs = runs; live = ap (runs_attempt w.number a.number) before ∙ runs }

-- ---- the fit

-- The stored job of a live attempt is Running.
pub runs_running : (w : LiveWorker) (a : Attempt) (job : Job) → IsTrue (runs_attempt w.number a.number (Some job)) → IsTrue (has_status Running job)
runs_running w a job runs = first_of_three (has_status Running job) (is_leased_to w.number job.lease) (a.number == job.attempt) runs

pub runs_number : (w : LiveWorker) (a : Attempt) (job : Job) → IsTrue (runs_attempt w.number a.number (Some job)) → a.number ≡ job.attempt
runs_number w a job runs = (Decides-eqb a.number job.attempt).0 (last_of_three (has_status Running job) (is_leased_to w.number job.lease) (a.number == job.attempt) runs)

-- What a worker holds stays so after a call that leaves all that the worker's fit reads.
pub holds_after : (merge : Operator) (old new : World) (w : LiveWorker) (some : ℕ → JobSpec) → Faithful old some → Follows old new w → WorkerHolds merge old w → WorkerHolds merge new w
holds_after merge old new w some was_faithful f h = record {
  fits = λ specs faithful. record {
    cuts = (h.fits specs (f.faithful specs faithful)).cuts;
    each = all_from _ w.attempts (λ a there. stands specs faithful a there);
    live = all_from _ (live_attempts (stored_jobs new.store) w) (λ a there. live specs faithful a (from_filter (is_live (stored_jobs new.store) w.number) w.attempts a there));
  };
  each = all_from _ w.attempts (λ a there. record {
    counted = (held a there).counted;
    claimed = f.grows a.job a.number (held a there).claimed;
    ordered = subst IsStrictlyOrdered (sym (sources_same a there)) (held a there).ordered;
    sources = sources a there (job_with a.job (stored_jobs new.store)) refl;
  });
  jobs_rise = h.jobs_rise;
  own = all_from _ (live_attempts (stored_jobs new.store) w) (λ a there. own a (from_filter (is_live (stored_jobs new.store) w.number) w.attempts a there));
  apart = fewer_pairs _ (is_live (stored_jobs old.store) w.number) (is_live (stored_jobs new.store) w.number) w.attempts (λ a there live. (still_live old new w a f there (held a there) live).live) h.apart;
}
  where
    held : (a : Attempt) → IsIn a w.attempts → AttemptHeld old w.number a
    held a there = all_at (AttemptHeld old w.number) w.attempts a h.each there

    stood : (specs : ℕ → JobSpec) → Faithful new specs → (a : Attempt) → IsIn a w.attempts → AttemptStands merge old.store specs a
    stood specs faithful a there = all_at (AttemptStands merge old.store specs) w.attempts a (h.fits specs (f.faithful specs faithful)).each there

    all_put : (specs : ℕ → JobSpec) → Faithful new specs → (a : Attempt) → IsIn a w.attempts → AllByRecursion (λ id. IsTrue (is_among old.store.tables id)) (attempt_tables a)
    all_put specs faithful a there = all_true_front (is_among old.store.tables) (attempt_tables a) (are_put old.store (attempt_tables a) (stood specs faithful a there).held)

    sources_same : (a : Attempt) → IsIn a w.attempts → source_rows new.store.tables a.sources ≡ source_rows old.store.tables a.sources
    sources_same a there =
        let was = all_at (AttemptStands merge old.store some) w.attempts a (h.fits some was_faithful).each there in
        let put = all_true_front (is_among old.store.tables) (attempt_tables a) (are_put old.store (attempt_tables a) was.held) in
        ap sorted_rows (flat_rows old.store.tables new.store.tables a.sources f.rows (all_front _ a.sources (context_tables (Some a.context)) put))

    sources : (a : Attempt) → IsIn a w.attempts → (o : Option Job) → job_with a.job (stored_jobs new.store) ≡ o → IfSome o (λ job. a.sources ≡ job.source_tables)
    sources a there None e = tt
    sources a there (Some job) e = f.sources a there (held a there) job e

    stands : (specs : ℕ → JobSpec) → Faithful new specs → (a : Attempt) → IsIn a w.attempts → AttemptStands merge new.store specs a
    stands specs faithful a there =
        let was = stood specs faithful a there in
        let put = all_put specs faithful a there in
        record {
          claimed = record { settings = f.settings_found specs faithful a there (held a there) _ was.claimed.settings; ranges = f.ranges_found a there (held a there) _ was.claimed.ranges };
          held = f.held a there was.held;
          tables = tables_stay merge old.store.tables new.store.tables a.sources a.context f.rows (all_front _ a.sources (context_tables (Some a.context)) put) (all_back _ a.sources (context_tables (Some a.context)) put) was.tables;
        }

    live : (specs : ℕ → JobSpec) → Faithful new specs → (a : Attempt) → IsIn a w.attempts × (is_live (stored_jobs new.store) w.number a ≡ true) → LiveFits merge new.store specs a
    live specs faithful a found =
        let one = still_live old new w a f found.0 (held a found.0) found.1 in
        let old_fits = all_at (LiveFits merge old.store specs) (live_attempts (stored_jobs old.store) w) a (h.fits specs (f.faithful specs faithful)).live (in_filter (is_live (stored_jobs old.store) w.number) w.attempts a found.0 one.live) in
        subst (λ o. IfSome o (λ job. AttemptFits merge new.store specs job a)) (sym one.now) (fit one.job one.before one.runs (subst (λ o. IfSome o (λ job. AttemptFits merge old.store specs job a)) one.before old_fits))
      where
        fit : (job : Job) → job_with a.job (stored_jobs old.store) ≡ Some job → IsTrue (runs_attempt w.number a.number (Some job)) → AttemptFits merge old.store specs job a → AttemptFits merge new.store specs job a
        fit job stored runs fits =
            let is = job_found a.job (stored_jobs old.store) job stored in
            let put = all_put specs faithful a found.0 in
            let own = subst (λ ids. AllByRecursion (λ id. IsTrue (is_among old.store.tables id)) ids) fits.sources (all_front _ a.sources (context_tables (Some a.context)) put) in
            record {
              sources = fits.sources;
              context = record {
                claimed = subst (λ number. IsClaimed new.store specs job.id number a.context) (runs_number w a job runs)
                    (subst (λ id. IsClaimed new.store specs id a.number a.context) (sym is.same) (stands specs faithful a found.0).claimed);
                settings = f.settings job is.there (runs_running w a job runs) a.context.settings fits.context.settings;
                cut = fits.context.cut;
                ranges = (fits.context.ranges.0, fits.context.ranges.1 ∙ ap (planned_ranges fits.context.ranges.0) (sym (map_rows old.store.tables new.store.tables job.source_tables f.rows own)));
                tables = tables_stay merge old.store.tables new.store.tables job.source_tables a.context f.rows own (all_back _ a.sources (context_tables (Some a.context)) put) fits.context.tables;
              };
              published = fits.published;
            }

    own : (a : Attempt) → IsIn a w.attempts × (is_live (stored_jobs new.store) w.number a ≡ true) → NotesOwn new w.number a
    own a found =
        let one = still_live old new w a f found.0 (held a found.0) found.1 in
        let old_own = all_at (NotesOwn old w.number) (live_attempts (stored_jobs old.store) w) a h.own (in_filter (is_live (stored_jobs old.store) w.number) w.attempts a found.0 one.live) in
        let is = job_found a.job (stored_jobs old.store) one.job one.before in
        subst (λ o. IfSome o (λ job. AllByRecursion (MayUse (Worker w.number) new job) (noted_tables a))) (sym one.now)
        (all_to _ _ (noted_tables a) (λ t there may. f.use_still one.job is.there (runs_running w a one.job one.runs) t may)
        (subst (λ o. IfSome o (λ job. AllByRecursion (MayUse (Worker w.number) old job) (noted_tables a))) one.before old_own))
