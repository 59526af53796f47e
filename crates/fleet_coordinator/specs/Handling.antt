-- What a coordinator shows, and how it handles messages.
use Rattle.std.specs.Prelude.{◌≡◌, ℕ, Bool, true, false, [], map, IfOk, Result}
use Rattle.fleet_model.specs.Work.PollStates.{PollState, poll_begun}
use Rattle.fleet_model.specs.Work.Records.{firsts}
use Rattle.fleet_model.specs.Work.Scheduler.{Scheduler}
use Rattle.step_model.specs.Courses.Course.{Course, Ends}
use Rattle.step_model.specs.Courses.StepEnds.{StepEnd, Reports}
use Rattle.step_model.specs.Steps.PollSteps.{poll}
use Rattle.step_model.specs.Views.{StoreView}
use Rattle.fleet_rows.specs.declared.errors.SlateDBError.{SlateDBError}
use Rattle.fleet_sched.specs.declared.options.CompactorOptions.{CompactorOptions}
use Rattle.fleet_step.specs.Steps.{StepRan}
use Rattle.fleet_poll.specs.declared.report.PollReport.{PollReport}
use Rattle.fleet_coordinator.specs.Polling.{MayPoll, ask_of}
use Rattle.fleet_coordinator.specs.declared.handling.CompactorMessage.{CompactorMessage}
use Rattle.fleet_coordinator.specs.declared.handling.CompactorMessage.TheVariants.{CommitCompacted, LogStats, PollManifest}

-- What a coordinator shows: its epoch, and whether it is stopped.
pub record CoordinatorParts : Type 0 where
  pub epoch : ℕ
  pub stopped : Bool

-- The coordinator may poll over this store.
abbrev pub IsReady : StoreView → CoordinatorParts → Type 0
IsReady view c = MayPoll view c.epoch

-- The course by which a coordinator handles a message.
abbrev pub handles : CompactorMessage → Scheduler → CompactorOptions → (epoch moment : ℕ) → Course (StepEnd PollState)
handles LogStats scheduler options epoch moment = Ends (Reports (poll_begun [] 0 []))
handles PollManifest scheduler options epoch moment =
    poll (ask_of scheduler options (record { epoch = epoch; moment = moment; commits_only = false }))
handles CommitCompacted scheduler options epoch moment =
    poll (ask_of scheduler options (record { epoch = epoch; moment = moment; commits_only = true }))

-- The report of what a poll reached. A dropped proposal fails rule 9.
abbrev pub shown_of : PollState → PollReport
shown_of p = record {
  freed = p.freed;
  committed = p.done;
  lost = p.lost;
  added = firsts p.added;
  dropped = map (λ place. (place, 9)) p.dropped;
  opened = p.opened;
  moved = p.moved;
  drained = p.drained;
  refused = p.refused;
}

-- A coordinator ran the course, and its result tells how that ended: the report is that of what was reached.
pub record HasHandled (course : Course (StepEnd PollState)) (old new : StoreView)
    (result : Result PollReport SlateDBError) : Type 0 where
  pub reached : PollState
  pub ran : StepRan (λ report. Reports reached) course old new result
  pub report : IfOk result (λ report. report ≡ shown_of reached)
