-- The active jobs of an executor, and how its calls change them.
use Rattle.std.specs.Prelude.{◌≡◌, ◌≢◌, ℕ, ◌-◌, ◌<◌, ◌≤◌, ◌==◌, nat_lt, not, true, if◌then◌else◌, List, [], ◌∷◌, ◌++◌, filter, find, length, map, max, slice_get, slice_set, option_map, Option, Some, IfNone, IfSome}
use Rattle.std.specs.List.{AllByRecursion}
use Rattle.std.specs.Option.{option_map_or}
use Rattle.row_model.specs.Lists.{Pairs}
use Rattle.row_model.specs.Written.Plan.{planned_ranges}
use Rattle.row_model.specs.Ranges.{Range}
use Rattle.row_model.specs.Rows.{Row}
use Rattle.row_laws.specs.Turns.{AreCut}
use Rattle.fleet_range.specs.Keys.{range_of}
use Rattle.fleet_range.specs.Ranges.{Ends}
use Rattle.fleet_rows.specs.declared.settings.Settings.{Settings}
use Rattle.fleet_tree.specs.Views.{View}
use Rattle.fleet_tree.specs.declared.handle.SsTableHandle.{SsTableHandle}
use Rattle.fleet_plan.specs.Boundaries.{HoldEveryKeyOnce}
use Rattle.fleet_plan.specs.Parts.{Part}
use Rattle.fleet_plan.specs.Plans.{AreOfRows, planned_of, views_of}
use Rattle.fleet_jobs.specs.Parts.ContextParts.{ContextParts}
use Rattle.fleet_jobs.specs.Contexts.{context_with}
use Rattle.fleet_exec.specs.ExecutorParts.{ActiveParts, ExecutorParts}
use Rattle.fleet_exec.specs.declared.args.StartCompactionJobArgs.{StartCompactionJobArgs}

abbrev pub job_ids : List ActiveParts → List ℕ
job_ids jobs = map (λ job. job.args.id) jobs

-- The active job with this id, if there is one.
abbrev pub active_job_with : ℕ → List ActiveParts → Option ActiveParts
active_job_with id jobs = find (λ job. job.args.id == id) jobs

-- Under every other id stands the job that stood there before, or still none.
abbrev pub OthersStay : (id : ℕ) (old new : List ActiveParts) → Type 0
OthersStay id old new = (other : ℕ) → other ≢ id → active_job_with other new ≡ active_job_with other old

-- The job with this id is changed so, and each other job stays. Ids and their order stay too.
pub record IsChanged (id : ℕ) (change : ActiveParts → ActiveParts) (old new : List ActiveParts) : Type 0 where
  pub found : active_job_with id new ≡ option_map change (active_job_with id old)
  pub others : OthersStay id old new
  pub count : length new ≡ length old
  pub same : job_ids new ≡ job_ids old

-- No two jobs have one id.
abbrev pub AreDistinct : List ActiveParts → Type 0
AreDistinct jobs = Pairs (λ a b. a ≢ b) (job_ids jobs)

-- The ids of the jobs rise.
abbrev pub AreById : List ActiveParts → Type 0
AreById jobs = Pairs (λ a b. a < b) (job_ids jobs)

-- Puts a job in front of the first job with a greater id.
abbrev pub put_job : ActiveParts → List ActiveParts → List ActiveParts
put_job job [] = job ∷ []
put_job job (other ∷ jobs) = if nat_lt job.args.id other.args.id then job ∷ other ∷ jobs else other ∷ put_job job jobs

-- The jobs without the one with this id.
abbrev pub without_job : ℕ → List ActiveParts → List ActiveParts
without_job id jobs = filter (λ job. not (job.args.id == id)) jobs

-- The ids of active jobs rise, and a stopped executor has no job.
pub record IsSound (executor : ExecutorParts) : Type 0 where
  pub by_id : AreById executor.jobs
  pub ended : executor.stopped ≡ true → executor.jobs ≡ []

-- ---- the context of a job

-- The settings of a job that starts with these arguments and this floor.
abbrev pub settings_with : ℕ → StartCompactionJobArgs → Settings
settings_with floor args =
    record { floor = floor; tick = args.compaction_clock_tick; last_run = args.is_dest_last_run; cut = args.cut }

-- The ranges are planned for these tables: they are cut at the tables' anchors and, if the tables' rows are
-- known, they are the ranges that the model plans for them. There are at most so many, where 0 counts as 1.
-- They follow one another, cut at rising edges, and each key lies in exactly one of them.
pub record ArePlanned (most : ℕ) (views : List View) (ranges : List Range) : Type 0 where
  pub anchors : ranges ≡ planned_of most views
  pub rows : (rows_of : View → List Row) → AreOfRows rows_of views → ranges ≡ planned_ranges most (map rows_of views)
  pub few : length ranges ≤ max most 1
  pub rising : AreCut ranges
  pub every_key : HoldEveryKeyOnce ranges

-- These ranges of keys, without tables.
abbrev pub fresh_parts : List (Ends (List ℕ)) → List Part
fresh_parts ranges = map (λ range. record { range = range; output_ssts = [] }) ranges

-- The keys of these ranges.
abbrev pub key_ranges : List Part → List Range
key_ranges ranges = map (λ part. range_of part.range) ranges

-- The context is made for these arguments: its floor and its other settings are theirs, its ranges are
-- planned for their tables, and no range has a table yet.
pub record IsPlanned (args : StartCompactionJobArgs) (most : ℕ) (context : ContextParts) : Type 0 where
  pub floor : args.retention_min_seq ≡ Some context.floor
  pub settings : context ≡ context_with context.ranges (settings_with context.floor args) args.release
  pub ranges : ArePlanned most (views_of args.l0_sst_views args.sorted_runs) (key_ranges context.ranges)
  pub empty : AllByRecursion (λ part. part.output_ssts ≡ []) context.ranges

-- The job has these arguments. Its context is theirs, or a planned one if they have none.
pub record StartsAs (args : StartCompactionJobArgs) (most : ℕ) (job : ActiveParts) : Type 0 where
  pub same : job.args ≡ args
  pub given : IfSome args.ctx (λ context. job.ctx ≡ context)
  pub planned : IfNone args.ctx (IsPlanned args most job.ctx)

-- A job that starts with these arguments is put among the jobs.
pub record IsStarted (args : StartCompactionJobArgs) (most : ℕ) (old new : List ActiveParts) : Type 0 where
  pub job : ActiveParts
  pub starts : StartsAs args most job
  pub placed : new ≡ put_job job old

-- ---- the tables of a job

-- The list with the element at a place changed. It stays if no element is there.
abbrev pub changed_at : {A : Type 0} → ℕ → (A → A) → List A → List A
changed_at place change xs = option_map_or (λ x. slice_set xs place (change x)) (slice_get xs place) xs

-- The range with this table at the end of its list.
abbrev pub longer_part : SsTableHandle → Part → Part
longer_part table part = record part { output_ssts = part.output_ssts ++ table ∷ [] }

-- The job with this table at the end of the list of a range, counted from 1.
abbrev pub with_table : ℕ → SsTableHandle → ActiveParts → ActiveParts
with_table range table job =
    record job { ctx = record job.ctx { ranges = changed_at (range - 1) (longer_part table) job.ctx.ranges } }
