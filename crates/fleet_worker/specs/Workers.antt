-- What a worker shows, and when it may make a step.
use Rattle.std.specs.Prelude.{◌≡◌, ◌==◌, ℕ, Bool, false, List, [], length, map, find, option_map, Option}
use Rattle.std.specs.List.{AllByRecursion}
use Rattle.fleet_model.specs.History.{Worker}
use Rattle.fleet_model.specs.Jobs.{number_of}
use Rattle.fleet_model.specs.Work.Parties.{Attempt, LiveWorker}
use Rattle.fleet_model.specs.Store.{Store}
use Rattle.step_model.specs.Kept.Keeps.{Keeps}
use Rattle.step_model.specs.Fits.{WorkerHolds}
use Rattle.step_model.specs.Views.{StoreView}
use Rattle.fleet_jobs.specs.Parts.ContextParts.{ContextParts}
use Rattle.fleet_jobs.specs.Contexts.{context_of, table_ids}
use Rattle.fleet_jobs.specs.Workers.{release_of}
use Rattle.fleet_jobs.specs.declared.release.Release.{Release}
use Rattle.fleet_tree.specs.declared.handle.SsTableHandle.{SsTableHandle}
use Rattle.fleet_store.specs.Handles.{IsDescribed}

-- What an attempt that runs shows: its job, its number, its source tables with their descriptions, and its context
-- with the tables that were noted so far.
pub record AttemptParts : Type 0 where
  pub job : ℕ
  pub number : ℕ
  pub sources : List ℕ
  pub tables : List SsTableHandle
  pub ctx : ContextParts

-- What a worker shows: its number, its release, the attempts that it runs, and whether it is stopped.
pub record WorkerParts : Type 0 where
  pub number : ℕ
  pub release : Release
  pub attempts : List AttemptParts
  pub stopped : Bool

-- The model's attempt and worker.
abbrev pub attempt_of : AttemptParts → Attempt
attempt_of a = record { job = a.job; number = a.number; sources = a.sources; context = context_of a.ctx }

abbrev pub live_of : WorkerParts → LiveWorker
live_of w = record { number = w.number; release = release_of w.release; attempts = map attempt_of w.attempts }

-- A worker that has just started runs nothing.
abbrev pub started_worker : ℕ → Release → WorkerParts
started_worker number release = record { number = number; release = release; attempts = []; stopped = false }

-- The attempt at the job that these attempts have, if there is one.
abbrev pub run_at : List AttemptParts → ℕ → Option AttemptParts
run_at attempts job = find (λ a. a.job == job) attempts

-- The attempt at the job whose id has this number, if there is one.
abbrev pub run_of_number : List AttemptParts → ℕ → Option AttemptParts
run_of_number attempts number = find (λ a. number == number_of a.job) attempts

-- How many ranges the attempt at the job has, if there is one.
abbrev pub ranges_at : List AttemptParts → ℕ → Option ℕ
ranges_at attempts job = option_map (λ a. length a.ctx.ranges) (run_at attempts job)

-- The source tables of the attempt and the tables that it has noted are described as they were put.
pub record IsNoted (store : Store) (a : AttemptParts) : Type 0 where
  pub sources : table_ids a.tables ≡ a.sources
  pub described : AllByRecursion (IsDescribed store.tables) a.tables
  pub noted : AllByRecursion (λ part. AllByRecursion (IsDescribed store.tables) part.output_ssts) a.ctx.ranges

-- So it is with each of these attempts.
abbrev pub AreNoted : List AttemptParts → Store → Type 0
AreNoted attempts store = AllByRecursion (IsNoted store) attempts

-- The model's worker may make a step over this store: the entries carry the worker, the store meets the invariant,
-- and the worker fits it.
pub record MayStep (view : StoreView) (w : LiveWorker) : Type 0 where
  pub party : view.who.party ≡ Worker w.number
  pub keeps : Keeps view.who.merge view.world
  pub holds : WorkerHolds view.who.merge view.world w

-- A worker is ready for a step over this store: its step may be made, and its attempts' tables are described.
pub record IsReady (view : StoreView) (w : WorkerParts) : Type 0 where
  pub may : MayStep view (live_of w)
  pub noted : AreNoted w.attempts view.world.store

-- The worker is ready for a step over each store that meets the invariant and whose entries carry it.
abbrev pub IsReadyAnywhere : WorkerParts → Type 0
IsReadyAnywhere w =
    (view : StoreView) → view.who.party ≡ Worker w.number → Keeps view.who.merge view.world → IsReady view w
