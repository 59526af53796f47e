-- How a coordinator polls.
use Rattle.std.specs.Prelude.{◌≡◌, ℕ, suc, ◌≤◌, List, length, map, nat_lt, if◌then◌else◌, None, Result, Ok, Err}
use Rattle.std.specs.List.{AllByRecursion, zip}
use Rattle.fleet_model.specs.Exchanges.{Plain}
use Rattle.fleet_model.specs.History.{Coordinator, GetManifest, GetRecords}
use Rattle.fleet_model.specs.History as model
use Rattle.fleet_model.specs.Store.{Manifest, Records}
use Rattle.fleet_model.specs.Work.PollStates.{PollOptions, PollState, poll_begun}
use Rattle.fleet_model.specs.Work.Scheduler.{Scheduler}
use Rattle.step_model.specs.Courses.Course.{Course}
use Rattle.step_model.specs.Courses.CourseRuns.{IsLawfulCourse}
use Rattle.step_model.specs.Courses.StepEnds.{StepEnd, Reports}
use Rattle.step_model.specs.Courses.Tries.{counted_tries}
use Rattle.step_model.specs.Fits.{CoordinatorHolds}
use Rattle.step_model.specs.Kept.Keeps.{Keeps}
use Rattle.step_model.specs.Past.{World}
use Rattle.step_model.specs.Rivals.{Rivals, after_call}
use Rattle.step_model.specs.Steps.PollSteps.{PollAsk, poll_try, polls_over, puts_trees, records_or_none}
use Rattle.step_model.specs.Views.{StoreView}
use Rattle.fleet_rows.specs.declared.errors.SlateDBError.{SlateDBError}
use Rattle.fleet_rows.specs.declared.errors.SlateDBError.TheVariants.{Fenced}
use Rattle.fleet_tree.specs.Trees.{RunFlushes, trees_of}
use Rattle.fleet_tree.specs.declared.manifest.ManifestCore.{ManifestCore}
use Rattle.fleet_tree.specs.declared.manifest.VersionedManifest.{VersionedManifest}
use Rattle.fleet_jobs.specs.Jobs.{jobs_of}
use Rattle.fleet_jobs.specs.declared.spec.CompactionSpec.{CompactionSpec}
use Rattle.fleet_book.specs.States.{own_jobs}
use Rattle.fleet_book.specs.VersionedRecords.{VersionedRecords}
use Rattle.fleet_book.specs.Versions.{records_of}
use Rattle.fleet_history.specs.Changes.{step_of}
use Rattle.fleet_history.specs.declared.manifest_change.ManifestChange.TheVariants.{Commit}
use Rattle.fleet_sched.specs.declared.options.CompactorOptions.{CompactorOptions}
use Rattle.fleet_store.specs.Handles.{NamesTable}
use Rattle.fleet_store.specs.Manifests.{bare, bare_of, changed_trees, spec_in, views_in}
use Rattle.fleet_store.specs.Records.{DescribeTables}
use Rattle.fleet_step.specs.Draws.{Drew}
use Rattle.fleet_step.specs.Steps.{Leads, StepRan}
use Rattle.fleet_poll.specs.Made.{own_core}
use Rattle.fleet_poll.specs.Polls.{poll_of}
use Rattle.fleet_poll.specs.Seen.{rest_of, without_trees}
use Rattle.fleet_poll.specs.declared.poll.Poll.{Poll}
use Rattle.fleet_change.specs.Same.{HasTreesOf}
use Rattle.fleet_coordinator.specs.declared.polling.CommitPut.{CommitPut}
use Rattle.fleet_coordinator.specs.declared.polling.GotPoll.{GotPoll}
use Rattle.fleet_coordinator.specs.declared.polling.Tried.{Tried}
use Rattle.fleet_coordinator.specs.declared.polling.Tried.TheVariants.{Done, Refused}
use Rattle.fleet_coordinator.specs.declared.polling.Turn.{Turn}

-- ---- what a poll is asked with

abbrev pub options_of : CompactorOptions → PollOptions
options_of options = record {
  timeout = options.worker_heartbeat_timeout_ms;
  concurrent = options.max_concurrent_compactions;
  moves = options.enable_trivial_move;
}

abbrev pub ask_of : Scheduler → CompactorOptions → Turn → PollAsk
ask_of scheduler options turn = record {
  epoch = turn.epoch;
  options = options_of options;
  scheduler = scheduler;
  moment = turn.moment;
  commits_only = turn.commits_only;
}

-- A coordinator with this epoch may poll over this store: it calls the store, which meets the invariant, and it fits
-- the store.
pub record MayPoll (view : StoreView) (epoch : ℕ) : Type 0 where
  pub number : ℕ
  pub party : view.who.party ≡ Coordinator number
  pub keeps : Keeps view.who.merge view.world
  pub holds : CoordinatorHolds view.world (record { number = number; epoch = epoch }) None

-- ---- ends

-- The poll ends with this error.
abbrev pub Fails : Course (StepEnd PollState) → (old new : StoreView) → SlateDBError → Type 0
Fails course old new error = StepRan {A = PollState} Reports course old new (Err error)

-- The poll ran the course and has reached what it reports, with some account of which flushes went into which runs.
pub record HasPolled (course : Course (StepEnd PollState)) (old new : StoreView) (poll : Poll) : Type 0 where
  pub flushes : RunFlushes
  pub ran : StepRan (λ poll. Reports (poll_of flushes poll)) course old new (Ok poll)

-- How a poll ran the course.
abbrev pub Polls : Course (StepEnd PollState) → (old new : StoreView) → Result Poll SlateDBError → Type 0
Polls course old new (Ok poll) = HasPolled course old new poll
Polls course old new (Err error) = Fails course old new error

-- How a try of a poll ran the course. A refused put of the manifest leads to another try.
abbrev pub TriesPoll : Course (StepEnd PollState) → (again : ℕ → Course (StepEnd PollState)) → (old new : StoreView)
    → Result Tried SlateDBError → Type 0
TriesPoll course again old new (Ok (Done poll)) = HasPolled course old new poll
TriesPoll course again old new (Ok (Refused seen)) = Leads course old (again seen) new
TriesPoll course again old new (Err error) = Fails course old new error

-- A try that ends with these puts of the records.
abbrev pub as_tried : Result Poll SlateDBError → Result Tried SlateDBError
as_tried (Ok poll) = Ok (Done poll)
as_tried (Err error) = Err error

-- A coordinator is fenced if the stored epoch is above its own.
abbrev pub fenced_at : (epoch stored : ℕ) → Result Unit SlateDBError
fenced_at epoch stored = if nat_lt epoch stored then Err (Fenced stored) else Ok tt

-- ---- what a poll got

-- A poll over these objects has not begun.
pub record IsGot (manifest : VersionedManifest) (records : VersionedRecords) (got : GotPoll) : Type 0 where
  pub state : got.poll.state ≡ record { manifest = manifest; compactions = records }
  pub begun : (flushes : RunFlushes) → poll_of flushes got.poll
      ≡ poll_begun (trees_of flushes got.core) got.core.horizon (jobs_of (own_jobs got.poll.state))
  pub core_is : got.core ≡ manifest.manifest.core
  pub epoch_is : got.epoch ≡ records.compactions.compactor_epoch

-- A poll got the manifest of one store and then the records of another. Neither has a later epoch. The poll has what
-- it got, and has not begun.
pub record GetsPoll (epoch : ℕ) (old new : StoreView) (got : GotPoll) : Type 0 where
  pub shown : World
  pub found : World
  pub met : Rivals old.who old.world shown
  pub low : shown.store.manifest.epoch ≤ epoch
  pub met_next : Rivals old.who (after_call old.who.line old.who.party (Plain GetManifest) None shown) found
  pub records_low : (records_or_none found.store.records).epoch ≤ epoch
  pub leaves : new.world ≡ after_call old.who.line old.who.party (Plain GetRecords) None found
  pub leads : (ask : PollAsk) (left seen : ℕ) (again : ℕ → Course (StepEnd PollState)) → ask.epoch ≡ epoch
      → Leads (poll_try ask left seen again) old
      (polls_over ask found.store.tables shown.store.manifest (records_or_none found.store.records) (suc left) seen
      again)
      new
  pub begun : (flushes : RunFlushes) → poll_of flushes got.poll
      ≡ poll_begun (trees_of flushes got.core) got.core.horizon (jobs_of (own_jobs got.poll.state))
  pub core_is : got.core ≡ own_core got.poll.state
  pub epoch_is : got.epoch ≡ (records_or_none found.store.records).epoch
  pub manifest_is : bare_of got.poll.state.manifest.id got.poll.state.manifest.manifest ≡ bare shown.store.manifest
  pub views : AllByRecursion (NamesTable found.store.tables) (views_in got.core)
  pub records_are : records_of got.poll.state.compactions ≡ records_or_none found.store.records
  pub described : DescribeTables (own_jobs got.poll.state) found.store

-- Ids were drawn for these specs, one after the other.
pub record NamesDrawn (moment : ℕ) (specs : List CompactionSpec) (old new : StoreView)
    (drawn : List (ℕ × CompactionSpec)) : Type 0 where
  pub ids : List ℕ
  pub many : length ids ≡ length specs
  pub drew : Drew moment ids old new
  pub are : drawn ≡ zip ids specs

-- ---- what a poll puts

-- The put of the manifest by a poll: its trees, for the version and with the epoch of the manifest that was got.
pub record IsCommit (poll : Poll) (put : CommitPut) : Type 0 where
  pub at : put.version ≡ poll.state.manifest.id
  pub value : put.value ≡ poll.state.manifest.manifest
  pub why : put.why ≡ Commit poll.steps
  pub jobs : put.jobs.value ≡ poll.state.compactions.compactions

-- A poll that reached this may put it. `core` is what was got of the manifest, and `got` the epoch of the records that
-- were got.
pub record MayPut (view : StoreView) (poll : Poll) (core : ManifestCore) (epoch got left seen : ℕ) : Type 0 where
  pub flushes : RunFlushes
  pub manifest : Manifest
  pub records : Records
  pub again : ℕ → Course (StepEnd PollState)
  pub got_is : HasTreesOf core manifest
  pub rest_is : without_trees manifest ≡ rest_of poll.state.manifest
  pub version : poll.state.compactions.id ≡ records.version
  pub epoch_is : got ≡ records.epoch
  pub lawful : IsLawfulCourse view.who view.world
      (puts_trees epoch (poll_of flushes poll) manifest records left seen again)
  pub makes : (met : World) → Rivals view.who view.world met → manifest.version ≡ met.store.manifest.version
      → trees_of flushes (own_core poll.state)
      ≡ changed_trees (spec_in (own_jobs poll.state)) (model.Commit (map step_of poll.steps)) met.store
  pub views : AllByRecursion (NamesTable view.world.store.tables) (views_in (own_core poll.state))
  pub described : DescribeTables (own_jobs poll.state) view.world.store

-- The course of the puts of a poll.
abbrev pub puts_of : {view : StoreView} {poll : Poll} {core : ManifestCore} {epoch got left seen : ℕ}
    → MayPut view poll core epoch got left seen → Course (StepEnd PollState)
puts_of {poll = poll} {epoch = epoch} {left = left} {seen = seen} may =
    puts_trees epoch (poll_of may.flushes poll) may.manifest may.records left seen may.again

-- A try of a poll may be made over this store.
pub record MayTry (view : StoreView) (ask : PollAsk) (left seen : ℕ) : Type 0 where
  pub ready : MayPoll view ask.epoch
  pub lawful : IsLawfulCourse view.who view.world (poll_try ask left seen (counted_tries (poll_try ask) left))
