-- How the steps of parties run over the store of a fleet, and what a line replies to their ends.
use Rattle.std.specs.Prelude.{◌≡◌, ℕ, Bool, true, false, List, [], ◌∷◌, codes, decimal, IfOk, Option, Some, None, Result, Err, ⊤}
use Rattle.row_model.specs.Fold.{Operator}
use Rattle.fleet_model.specs.History.{Event, Start, Kill}
use Rattle.fleet_model.specs.Work.Parties.{LiveCoordinator}
use Rattle.fleet_model.specs.Work.PollStates.{PollState}
use Rattle.step_model.specs.Past.{World}
use Rattle.step_model.specs.Kept.Keeps.{Keeps}
use Rattle.step_model.specs.Fits.{WorkerHolds}
use Rattle.step_model.specs.LawfulRecords.{OfSome}
use Rattle.step_model.specs.Courses.Course.{Course, Ends, calls_each}
use Rattle.step_model.specs.Courses.CourseRuns.{End, Gives, MeetsFault, LacksMemory}
use Rattle.step_model.specs.Courses.Ran.{Ran}
use Rattle.step_model.specs.Courses.StepEnds.{StepEnd, Reports}
use Rattle.script_model.specs.Replies.{jobs_text, reply, rules_text}
use Rattle.script_model.specs.Words.{bytes_text}
use Rattle.script_model.specs.LineRuns.{step_reply}
use Rattle.fleet_rows.specs.declared.errors.MergeOperatorError.TheVariants.{Callback}
use Rattle.fleet_rows.specs.declared.errors.SlateDBError.{SlateDBError}
use Rattle.fleet_rows.specs.declared.errors.SlateDBError.TheVariants.{StoreFault, Conflict, Fenced, NotOwner, InvalidDBState, InvalidCompaction, Generate, MergeOperator}
use Rattle.fleet_history.specs.Parties.{party_of}
use Rattle.fleet_history.specs.declared.party.Party.{Party}
use Rattle.fleet_history.specs.declared.party.Party.TheVariants.{Coordinator}
use Rattle.fleet_poll.specs.declared.report.PollReport.{PollReport}
use Rattle.fleet_coordinator.specs.Handling.{shown_of}
use Rattle.fleet_text.specs.Printed.{polled_text}
use Rattle.fleet_text.specs.declared.report.PollReport as text
use Rattle.fleet_store.specs.Memory.{StoreParts}
use Rattle.fleet_store.specs.Under.{caller_of}
use Rattle.fleet_step.specs.Steps.{end_of}
use Rattle.fleet_worker.specs.Workers.{AreNoted, WorkerParts, live_of}

-- The store whose next entries carry this line and this party.
abbrev pub at_line : ℕ → Party → StoreParts → StoreParts
at_line number party store = record store { line = number; party = party }

-- A party made a step in this line, and nobody else called the store. The result tells how the step ended.
pub record Made {A B : Type 0} (ends : A → StepEnd B) (course : Course (StepEnd B)) (merge : Operator) (number : ℕ)
    (party : Party) (old new : StoreParts) (result : Result A SlateDBError) : Type 0 where
  pub ran : OfSome (Ran (caller_of merge (at_line number party old)) course old.world new.world old.waits new.waits)
      (end_of ends result)

-- The note that the party comes, or that it goes.
abbrev pub note_event : Bool → Party → Event
note_event true party = Start (party_of party)
note_event false party = Kill (party_of party)

-- The answer of notes, which say nothing else.
abbrev pub nothing : ⊤
nothing = tt

-- A party made these notes in this line, and nobody else called the store.
pub record Noted (merge : Operator) (number : ℕ) (party : Party) (notes : List Event) (old new : StoreParts)
    : Type 0 where
  pub ran : Ran (caller_of merge (at_line number party old)) (calls_each notes (Ends nothing)) old.world new.world
      old.waits new.waits (Gives nothing)

-- A coordinator polled in this line, and nobody else called the store. The result tells how the poll ended: if it ended
-- with a report, then with that of what it reached, and the coordinator is as it was.
pub record Polled (course : Course (StepEnd PollState)) (merge : Operator) (number : ℕ) (c : LiveCoordinator)
    (old new : StoreParts) (result : Result (LiveCoordinator × PollReport) SlateDBError) : Type 0 where
  pub reached : PollState
  pub made : Made (λ done. Reports reached) course merge number (Coordinator c.number) old new result
  pub same : IfOk result (λ done. done.0 ≡ c)
  pub report : IfOk result (λ done. done.1 ≡ shown_of reached)

-- A worker may make a step over a store of this world, once the store's entries carry the worker.
pub record MayWork (merge : Operator) (world : World) (w : WorkerParts) : Type 0 where
  pub keeps : Keeps merge world
  pub holds : WorkerHolds merge world (live_of w)
  pub noted : AreNoted w.attempts world.store

-- ---- replies

-- The reply of a line whose step ended with this error. A step that runs out of memory has none, and no step ends with
-- another error.
abbrev pub error_reply : SlateDBError → Option (List ℕ)
error_reply StoreFault = Some (reply (codes "storefault" ∷ []))
error_reply (Conflict seen) = Some (reply (codes "conflict" ∷ decimal seen ∷ []))
error_reply (Fenced stored) = Some (reply (codes "fenced" ∷ decimal stored ∷ []))
error_reply NotOwner = Some (reply (codes "notowner" ∷ []))
error_reply InvalidDBState = Some (reply (codes "invaliddbstate" ∷ []))
error_reply InvalidCompaction = Some (reply (codes "invalidcompaction" ∷ []))
error_reply (Generate message) = Some (reply (codes "generate" ∷ bytes_text message ∷ []))
error_reply (MergeOperator (Callback message)) = Some (reply (codes "callback" ∷ bytes_text message ∷ []))
error_reply _ = None

-- The reply of a line whose step ended so. `spell` prints a report.
abbrev pub end_reply : {A : Type 0} → (A → List ℕ) → End (StepEnd A) → Option (List ℕ)
end_reply spell (Gives end) = Some (step_reply spell end)
end_reply spell MeetsFault = Some (reply (codes "storefault" ∷ []))
end_reply spell LacksMemory = None

-- The line whose step has this result replies so.
pub record Says {A B : Type 0} (ends : A → StepEnd B) (spell : B → List ℕ) (result : Result A SlateDBError)
    (answer : List ℕ) : Type 0 where
  pub says : OfSome (λ end. end_reply spell end ≡ Some answer) (end_of ends result)

-- The reply to a submission, with its jobs after this word.
abbrev pub jobs_said : (word jobs : List ℕ) → List ℕ
jobs_said word jobs = reply (codes "ok" ∷ word ∷ jobs_text jobs ∷ [])

-- The reply to the start of a coordinator, with its epoch.
abbrev pub epoch_said : ℕ → List ℕ
epoch_said epoch = reply (codes "ok" ∷ codes "epoch" ∷ decimal epoch ∷ [])

-- The reply to a worker that stops, with the jobs that it gave back.
abbrev pub released_said : List ℕ → List ℕ
released_said jobs = reply (codes "ok" ∷ codes "released" ∷ jobs_text jobs ∷ [])

-- True if a fault struck a call of the step with this result.
abbrev pub is_struck : {A : Type 0} → Result A SlateDBError → Bool
is_struck (Err StoreFault) = true
is_struck result = false

-- The report of a poll as replies print it.
abbrev pub printed_report : PollReport → text.PollReport
printed_report r = record {
  freed = r.freed;
  done = r.committed;
  lost = r.lost;
  added = r.added;
  dropped = r.dropped;
  opened = r.opened;
  moved = r.moved;
  drained = r.drained;
  refused = r.refused;
}

-- The reply to a poll with this report.
abbrev pub report_said : (commits_only : Bool) → PollReport → List ℕ
report_said false r = polled_text (printed_report r)
report_said true r =
    reply (codes "ok" ∷ codes "done" ∷ jobs_text r.committed ∷ codes "lost" ∷ rules_text r.lost ∷ [])
