-- Published contexts and attempts keep the settings and ranges of a claim. Their tables hold the first rows
-- of each range.
use Rattle.std.specs.Prelude.{◌≡◌, ℕ, ◌↔◌, Bool, false, ◌&&◌, ◌||◌, IsTrue, List, [], ◌∷◌, map, is_some, IfSome, ⊤}
use Rattle.std.specs.List.{list_any, AllByRecursion}
use Rattle.row_model.specs.Fold.{Operator}
use Rattle.fleet_model.specs.Nodes.{Tables, table_rows}
use Rattle.fleet_model.specs.Jobs.{Job, has_status, Scheduled, Running, knows_cut, Context, contains, JobSpec, job_with}
use Rattle.row_model.specs.Ranges.{Range}
use Rattle.fleet_model.specs.History.{Entry, Event, PutRecords, Beat, stood}
use Rattle.row_model.specs.Written.Plan.{planned_ranges}
use Rattle.fleet_model.specs.Work.Attempts.{range_rows, noted_rows}
use Rattle.fleet_model.specs.Work.Records.{firsts}
use Rattle.fleet_model.specs.Work.Parties.{Attempt, LiveWorker, live_attempts}
use Rattle.fleet_model.specs.Store.{Store, stored_jobs, AreHeld}
use Rattle.row_model.specs.Lists.{IsPrefixOf}
use Rattle.fleet_model.specs.Invariants.JobsFit.{SettingsFit}
use Rattle.fleet_model.specs.Sweeps.{attempt_tables}
use Rattle.fleet_model.specs.Past.Claimed.{IsClaimed}

-- The tables of each range hold the first rows that the range makes.
abbrev pub TablesFit : (merge : Operator) (tables : Tables) (sources : List ℕ) (context : Context) → Type 0
TablesFit merge tables sources context =
    AllByRecursion (λ range.
    IsPrefixOf (noted_rows tables range.1) (range_rows merge tables context.settings sources range.0).rows)
    context.ranges

-- The ranges of the context are those planned for these source tables, for some greatest number of ranges.
abbrev pub IsPlanOf : Tables → List ℕ → Context → Type 0
IsPlanOf tables sources context =
    (most : ℕ) × (map (λ range. range.0) context.ranges ≡ planned_ranges most (map (table_rows tables) sources))

-- True if the event is a heartbeat that names the job.
abbrev pub beats : ℕ → Event → Bool
beats job (PutRecords (Beat worker attempts)) = contains (firsts attempts) job
beats job _ = false

-- True if a heartbeat that names the job took effect.
abbrev pub was_beaten : List Entry → ℕ → Bool
was_beaten history job = list_any (λ entry. beats job entry.event && stood entry.answer) history

-- If the context has no cut, the cut of its settings is their floor.
abbrev pub CutFits : Context → Type 0
CutFits context = context.has_cut ≡ false → context.settings.cut ≡ context.settings.floor

-- A context fits its job. Its settings and ranges are those of a claim, and the manifest bounds its
-- settings. If it has no cut, the cut of its settings is their floor. Its ranges are planned for the source
-- tables, and its tables hold the first rows of each range.
pub record ContextFits (merge : Operator) (store : Store) (specs : ℕ → JobSpec) (job : Job) (context : Context)
    : Type 0 where
  pub claimed : IsClaimed store specs job.id job.attempt context
  pub settings : SettingsFit store.manifest job.spec context.settings
  pub cut : CutFits context
  pub ranges : IsPlanOf store.tables job.source_tables context
  pub tables : TablesFit merge store.tables job.source_tables context

-- A job has a context exactly if it is Scheduled or Running and a heartbeat that names it took effect. The
-- context fits the job.
pub record JobContext (merge : Operator) (store : Store) (specs : ℕ → JobSpec) (job : Job) : Type 0 where
  pub there : IsTrue (is_some job.context)
      ↔ (IsTrue (has_status Scheduled job || has_status Running job) × IsTrue (was_beaten store.history job.id))
  pub fits : IfSome job.context (ContextFits merge store specs job)

-- Both lists have the same ranges, and the old tables of each range are a prefix of its new tables.
abbrev pub Extends : (old new : List (Range × List ℕ)) → Type 0
Extends [] [] = ⊤
Extends [] (r ∷ ranges) = ⊥
Extends (q ∷ old) [] = ⊥
Extends (q ∷ old) (r ∷ ranges) = (q.0 ≡ r.0) × IsPrefixOf q.1 r.1 × Extends old ranges

-- The new context has the settings and ranges of the old context. The old tables of each range are a prefix
-- of its new tables.
pub record ContextExtends (old new : Context) : Type 0 where
  pub settings : old.settings ≡ new.settings
  pub ranges : Extends old.ranges new.ranges

-- A live attempt has the source tables of its job and a context that fits the job. If the job has a
-- published context, the attempt's context extends it.
pub record AttemptFits (merge : Operator) (store : Store) (specs : ℕ → JobSpec) (job : Job) (a : Attempt) : Type 0 where
  pub sources : a.sources ≡ job.source_tables
  pub context : ContextFits merge store specs job a.context
  pub published : IfSome job.context (λ old. ContextExtends old a.context)

-- The attempt fits the stored job that it names, if that job is stored.
abbrev pub LiveFits : (merge : Operator) (store : Store) (specs : ℕ → JobSpec) (a : Attempt) → Type 0
LiveFits merge store specs a = IfSome (job_with a.job (stored_jobs store)) (λ job. AttemptFits merge store specs job a)

-- Each attempt, live or not, has the context of its claim. The store holds its source tables and its noted
-- tables, and the noted tables hold the first rows that its ranges make.
pub record AttemptStands (merge : Operator) (store : Store) (specs : ℕ → JobSpec) (a : Attempt) : Type 0 where
  pub claimed : IsClaimed store specs a.job a.number a.context
  pub held : AreHeld store (attempt_tables a)
  pub tables : TablesFit merge store.tables a.sources a.context

-- The attempts of a worker have a cut exactly if its release knows cuts. Each attempt has what
-- `AttemptStands` asks, and each live attempt fits its job.
pub record WorkerFits (merge : Operator) (store : Store) (specs : ℕ → JobSpec) (w : LiveWorker) : Type 0 where
  pub cuts : AllByRecursion (λ a. a.context.has_cut ≡ knows_cut w.release) w.attempts
  pub each : AllByRecursion (AttemptStands merge store specs) w.attempts
  pub live : AllByRecursion (LiveFits merge store specs) (live_attempts (stored_jobs store) w)
