-- When a put of the records is lawful, given that it is for the stored version.
use Rattle.std.specs.Prelude.{◌≡◌, ◌≢◌, ℕ, ◌+◌, ◌<◌, Bool, true, false, ◌&&◌, ◌||◌, IsTrue, IfSome, is_some, List, ◌++◌, Option, Some, None}
use Rattle.std.specs.List.{AllByRecursion, concat}
use Rattle.row_model.specs.Lists.{Pairs}
use Rattle.row_model.specs.Fold.{Operator}
use Rattle.fleet_model.specs.Jobs.{JobSpec, Context, Job, Jobs, Submitted, Scheduled, Running, Compacted, has_status, job_with, contains}
use Rattle.fleet_model.specs.History.{Party, Submitter, Worker, RecordChange, RecordsEpoch, Submit, Claim, Beat, Finish, Release, Polled, PollChange}
use Rattle.fleet_model.specs.Store.{stored_jobs, records_epoch, AreHeld}
use Rattle.fleet_model.specs.Trees.{tables_now}
use Rattle.fleet_model.specs.Work.Records.{Unrecorded, with_new, finished_by, jobs_after}
use Rattle.fleet_model.specs.Past.Replay.{epoch_after}
use Rattle.fleet_model.specs.Handles.{context_tables}
use Rattle.fleet_model.specs.Work.Parties.{runs_attempt}
use Rattle.fleet_model.specs.Work.Claims.{is_waiting}
use Rattle.fleet_model.specs.Invariants.JobsFit.{NodesHeldOnce, SourcesStand, OutputsFit}
use Rattle.fleet_model.specs.Invariants.AttemptsFit.{ContextFits, ContextExtends}
use Rattle.step_model.specs.Past.{World}
use Rattle.step_model.specs.Entries.{drew_job, did_put_epoch, was_named}
use Rattle.step_model.specs.Kept.Faithful.{Faithful, with_specs}
use Rattle.step_model.specs.Kept.TablesKept.{AreApart}
use Rattle.step_model.specs.LawfulTables.{MayUse}

-- ---- names

-- A party may name jobs with their specs if it drew their ids, names each of them once, and if every
-- replay may have these specs. The entry of a put that is refused or lost names its jobs too, so
-- this is asked of every put.
pub record NamesFit (party : Party) (world : World) (named : List (ℕ × JobSpec)) : Type 0 where
  pub once : Pairs (λ p q. p.0 ≢ q.0) named
  pub drawn : AllByRecursion (λ p. IsTrue (drew_job party world.store.history p.0)) named
  pub replays : (specs : ℕ → JobSpec) → Faithful world specs → Faithful world (with_specs named specs)

-- The jobs are new: no put that took effect has named them before.
abbrev pub AreNew : World → List (ℕ × JobSpec) → Type 0
AreNew world named = AllByRecursion (λ p. was_named world.store.history p.0 ≡ false) named

-- ---- jobs

-- There is an element, and the property holds of it.
abbrev pub OfSome : {A : Type 0} → (A → Type 0) → Option A → Type 0
OfSome P None = ⊥
OfSome P (Some x) = P x

-- A job with this id is stored, and the property holds of it.
abbrev pub IsStoredAs : World → ℕ → (Job → Type 0) → Type 0
IsStoredAs world id P = OfSome P (job_with id (stored_jobs world.store))

-- The job is Running with this worker at this attempt.
abbrev pub IsLiveAt : (worker attempt : ℕ) (job : Job) → Type 0
IsLiveAt worker attempt job = IsTrue (runs_attempt worker attempt (Some job))

-- ---- the epoch, and new jobs

-- A coordinator may raise the epoch of the records to one that it put into the manifest before.
pub record RecordsEpochFits (party : Party) (world : World) (epoch : ℕ) : Type 0 where
  pub by : IsTrue (did_put_epoch party world.store.history epoch)
  pub above : records_epoch world.store.records < epoch

-- A submitter may add new jobs.
pub record SubmitFits (party : Party) (world : World) (named : List (ℕ × JobSpec)) : Type 0 where
  pub by : party ≡ Submitter
  pub new : AreNew world named

-- ---- a worker's changes

-- A worker may take jobs that wait for a worker, each at its next attempt.
pub record ClaimFits (party : Party) (world : World) (worker : ℕ) (attempts : List (ℕ × ℕ)) : Type 0 where
  pub by : party ≡ Worker worker
  pub once : Pairs (λ a b. a.0 ≢ b.0) attempts
  pub each : AllByRecursion
      (λ a. IsStoredAs world a.0 (λ job. IsTrue (is_waiting job) × (a.1 ≡ job.attempt + 1))) attempts

-- A worker may give back attempts of its own that are live.
pub record ReleaseFits (party : Party) (world : World) (worker : ℕ) (attempts : List (ℕ × ℕ)) : Type 0 where
  pub by : party ≡ Worker worker
  pub each : AllByRecursion (λ a. IsStoredAs world a.0 (IsLiveAt worker a.1)) attempts

-- A party may publish a context for a job if the context fits the job by every faithful replay and
-- extends the published one. Its tables must be held, and the party must be allowed to name them.
pub record Publishes (merge : Operator) (party : Party) (world : World) (job : Job) (context : Context) : Type 0 where
  pub fits : (specs : ℕ → JobSpec) → Faithful world specs → ContextFits merge world.store specs job context
  pub extends : IfSome job.context (λ old. ContextExtends old context)
  pub held : AreHeld world.store (context_tables (Some context))
  pub own : AllByRecursion (MayUse party world job) (context_tables (Some context))

-- The tables of the contexts that are published for two jobs are apart.
abbrev pub PublishedApart : (unrecorded : Unrecorded) (a b : ℕ × ℕ) → Type 0
PublishedApart unrecorded a b =
    AreApart (context_tables (unrecorded.published a.0)) (context_tables (unrecorded.published b.0))

-- A worker may publish contexts for attempts of its own that are live. No table may be in two of
-- them: a table that is new to both jobs would get two uses.
pub record BeatFits (merge : Operator) (party : Party) (world : World) (unrecorded : Unrecorded) (worker : ℕ)
    (attempts : List (ℕ × ℕ)) : Type 0 where
  pub by : party ≡ Worker worker
  pub each : AllByRecursion
      (λ a. IsStoredAs world a.0 (λ job. IsLiveAt worker a.1 job
      × OfSome (Publishes merge party world job) (unrecorded.published a.0))) attempts
  pub apart : Pairs (PublishedApart unrecorded) attempts

-- A live attempt may finish with outputs that hold all rows that its settings make of the job's
-- sources. The outputs must be held, and the party must be allowed to name them.
pub record FinishIsWhole (merge : Operator) (party : Party) (world : World) (unrecorded : Unrecorded)
    (worker attempt : ℕ) (outputs : List (List ℕ)) (job : Job) : Type 0 where
  pub live : IsLiveAt worker attempt job
  pub fits : (specs : ℕ → JobSpec) → Faithful world specs
      → OutputsFit merge world.store specs (finished_by worker unrecorded outputs job)
  pub held : AreHeld world.store (concat outputs)
  pub own : AllByRecursion (MayUse party world job) (concat outputs)

-- A worker may finish an attempt of its own that is live.
pub record FinishFits (merge : Operator) (party : Party) (world : World) (unrecorded : Unrecorded)
    (worker id attempt : ℕ) (outputs : List (List ℕ)) : Type 0 where
  pub by : party ≡ Worker worker
  pub finishes : IsStoredAs world id (FinishIsWhole merge party world unrecorded worker attempt outputs)

-- ---- a coordinator's change

-- True if a poll may end the job: the job is Submitted, or it waits for its commit.
abbrev pub may_end : Job → Bool
may_end job = has_status Submitted job || has_status Compacted job

-- The coordinator that put the epoch of the records may free Running jobs, open Submitted ones, and
-- end Submitted and Compacted ones. The sources of a job that it opens must be in the trees, and
-- no two jobs may hold the same node afterwards.
pub record PollFits (party : Party) (world : World) (unrecorded : Unrecorded) (change : PollChange) (jobs : Jobs)
    : Type 0 where
  pub by : IsTrue (did_put_epoch party world.store.history (records_epoch world.store.records))
  pub new : AreNew world change.added
  pub freed : AllByRecursion (λ id. IsStoredAs world id (λ job. IsTrue (has_status Running job))) change.freed
  pub opened : AllByRecursion (λ id.
      OfSome
      (λ job. IsTrue (has_status Submitted job)
      × (unrecorded.tables_of job.spec ≡ tables_now world.store.manifest.trees job.spec))
      (job_with id (with_new change.added (stored_jobs world.store)))) change.scheduled
  pub ended : AllByRecursion
      (λ id. OfSome (λ job. IsTrue (may_end job)) (job_with id (with_new change.added (stored_jobs world.store))))
      (change.completed ++ change.failed)
  pub stand : AllByRecursion
      (λ job. IsTrue (contains change.scheduled job.id && has_status Scheduled job)
      → SourcesStand world.store.manifest.trees job) jobs
  pub apart : NodesHeldOnce jobs

-- ---- all changes

-- A change of the records fits, by its kind. `jobs` are the jobs that are put.
abbrev pub ChangeFits : (merge : Operator) (party : Party) (world : World) (unrecorded : Unrecorded) → (jobs : Jobs)
    → (change : RecordChange) → Type 0
ChangeFits merge party world unrecorded jobs (RecordsEpoch epoch) = RecordsEpochFits party world epoch
ChangeFits merge party world unrecorded jobs (Submit named) = SubmitFits party world named
ChangeFits merge party world unrecorded jobs (Claim worker attempts) = ClaimFits party world worker attempts
ChangeFits merge party world unrecorded jobs (Beat worker attempts) =
    BeatFits merge party world unrecorded worker attempts
ChangeFits merge party world unrecorded jobs (Finish worker id attempt outputs) =
    FinishFits merge party world unrecorded worker id attempt outputs
ChangeFits merge party world unrecorded jobs (Release worker attempts) = ReleaseFits party world worker attempts
ChangeFits merge party world unrecorded jobs (Polled change) = PollFits party world unrecorded change jobs

-- True if this change may be put over the stored records. Only a put for an epoch may be made where
-- there are none.
abbrev pub may_make : World → RecordChange → Bool
may_make world (RecordsEpoch epoch) = true
may_make world change = is_some world.store.records

-- A put of the records fits if its jobs and its epoch are what the change makes of the stored ones,
-- and the change fits.
pub record RecordsFit (merge : Operator) (party : Party) (world : World) (change : RecordChange) (epoch : ℕ)
    (jobs : Jobs) : Type 0 where
  pub there : IsTrue (may_make world change)
  pub unrecorded : Unrecorded
  pub makes_jobs : jobs ≡ jobs_after unrecorded change (stored_jobs world.store)
  pub makes_epoch : epoch ≡ epoch_after change world.store.records
  pub fits : ChangeFits merge party world unrecorded jobs change
