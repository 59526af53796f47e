-- The law on causes: a line is refused exactly if a cause of its kind holds, and by the first one that holds.
use Rattle.std.specs.Option.{option_or}
use Rattle.std.specs.Prelude.{◌≡◌, ℕ, ◌||◌, nat_lt, nat_eq, Bool, true, false, if◌then◌else◌, List, [], ◌∷◌, Option, Some, None, option_map, codes, decimal}
use Rattle.std.specs.List.{starts_with}
use Rattle.row_model.specs.Fold.{Outcome, Merged, Refused}
use Rattle.fleet_model.specs.Store.{Manifest, Records, Store, stored_jobs}
use Rattle.fleet_model.specs.Exchanges.{Fault, strikes, waiting_after}
use Rattle.fleet_model.specs.Reads.{flushed_read}
use Rattle.fleet_model.specs.Work.Parties.{coordinator_with, worker_with, is_live}
use Rattle.fleet_model.specs.Work.Scheduler.{Scheduler, Request, Generated, Specs, shown_view}
use Rattle.fleet_model.specs.Work.Scheduler as scheduler
use Rattle.step_model.specs.Courses.StepEnds.{FlushFault}
use Rattle.step_model.specs.Entries.{last_name}
use Rattle.step_model.specs.Steps.FlushSteps.{FlushAsk, fault_before_get, fault_after_get}
use Rattle.step_model.specs.Steps.PollSteps.{records_or_none}
use Rattle.script_model.specs.Words.{bytes_text}
use Rattle.script_model.specs.Script.{Line, KillCoordinator, KillWorker, StopCoordinator, StopWorker, FlushRows, ReadKey, SubmitJob, SubmitDrain, SubmitFull, Poll, CommitOnly, ClaimJobs, Heartbeat, Output, FinishJob, Scan, Settle, Together}
use Rattle.script_model.specs.States.{Inputs, State}
use Rattle.script_model.specs.Replies.{reply, not_retained}
use Rattle.script_model.specs.LineRuns.{LineCourse, if_some, flush_fault_text}
use Rattle.script_model.specs.LineCourses.{prepared_state, job_at, range_at}
use Rattle.script_model.specs.LineSteps.{OneCourse}
use Rattle.script_model.specs.Lines.Looks.{is_not_retained}
use Rattle.script_model.specs.Lines.Settles.{is_ok, SettleRun}
use Rattle.script_model.specs.Lines.Submits.{request_of}
use Rattle.line_laws.specs.Faults.{calls_made}
use Rattle.line_laws.specs.Lines.PollRuns.{Answered}
use Rattle.line_laws.specs.Ran.{IsStepOf}

-- ---- faults

-- The fault strikes one of these calls: the get or the put that it waits for is among them.
abbrev pub does_strike : Option Fault → List Answered → Bool
does_strike fault [] = false
does_strike fault (call ∷ calls) = strikes call.0 fault || does_strike (waiting_after call.0 fault) calls

-- The reply to a line that a fault struck.
abbrev pub store_fault : List ℕ
store_fault = reply (codes "storefault" ∷ [])

-- ---- causes of steps, each as the reply prints it

-- The reply if the party that the line names is not live.
abbrev pub no_party : List ℕ
no_party = reply (codes "nosuchparty" ∷ [])

-- The refusal for want of a party, unless it is there.
abbrev pub unless_there : {A : Type 0} → Option A → Option (List ℕ)
unless_there None = Some no_party
unless_there (Some x) = None

-- The first fault of a flush over this store: in the name, the segment, the order, the sequences, the floor or the
-- tick.
abbrev pub fault_of_flush : FlushAsk → Store → Option FlushFault
fault_of_flush ask store =
    option_or (fault_before_get (last_name store.history) ask) (fault_after_get store.manifest ask)

-- The reply to a flush with this fault.
abbrev pub bad_flush : FlushFault → List ℕ
bad_flush fault = reply (codes "badflush" ∷ flush_fault_text fault ∷ [])

-- The reply to a submission if there are no records.
abbrev pub no_records : List ℕ
no_records = reply (codes "invaliddbstate" ∷ [])

-- The refusal for want of records, unless they are there.
abbrev pub unless_records : Option Records → Option (List ℕ)
unless_records None = Some no_records
unless_records (Some records) = None

-- The scheduler refuses a request.
abbrev pub generate_refusal : Generated → Option (List ℕ)
generate_refusal (Specs specs) = None
generate_refusal scheduler.Invalid = Some (reply (codes "invalidcompaction" ∷ []))
generate_refusal (scheduler.Declined message) = Some (reply (codes "generate" ∷ bytes_text message ∷ []))

-- There are no records, or the scheduler refuses the request by the view of what is stored.
abbrev pub request_refusal : Scheduler → Request → Store → Option (List ℕ)
request_refusal asked request store =
    if_some store.records (Some no_records)
    (λ got. generate_refusal (asked.generate (shown_view store.tables store.manifest got got.jobs) request))

-- The reply to a poll that met this epoch above the coordinator's.
abbrev pub fenced_reply : ℕ → List ℕ
fenced_reply stored = reply (codes "fenced" ∷ decimal stored ∷ [])

-- A stored epoch is above the coordinator's.
abbrev pub fence_of : ℕ → Store → Option (List ℕ)
fence_of epoch store =
    if nat_lt epoch store.manifest.epoch then Some (fenced_reply store.manifest.epoch)
    else (if nat_lt epoch (records_or_none store.records).epoch
    then Some (fenced_reply (records_or_none store.records).epoch) else None)

-- The coordinator is not live, or it is fenced.
abbrev pub poll_refusal : ℕ → State → Option (List ℕ)
poll_refusal n s = if_some (coordinator_with n s.parties) (Some no_party) (λ c. fence_of c.epoch s.store)

-- The reply if the operator refuses a fold with this message.
abbrev pub callback : List ℕ → List ℕ
callback message = reply (codes "callback" ∷ bytes_text message ∷ [])

-- The operator refuses a fold, or the attempt is not live.
abbrev pub end_refusal : (message : Option (List ℕ)) → (live : Bool) → Option (List ℕ)
end_refusal (Some message) live = Some (callback message)
end_refusal None true = None
end_refusal None false = Some (reply (codes "notowner" ∷ []))

-- The worker does not run the job, or its finish is refused.
abbrev pub finish_refusal : (n job : ℕ) → (message : Option (List ℕ)) → (s : State) → Option (List ℕ)
finish_refusal n job message s =
    if_some (job_at s n job) (Some no_party)
    (λ found. end_refusal message (is_live (stored_jobs s.store) found.0.number found.1))

-- The fold of a read refuses.
abbrev pub fold_refusal : Option Outcome → Option (List ℕ)
fold_refusal None = None
fold_refusal (Some (Merged bytes)) = None
fold_refusal (Some (Refused message)) = Some (callback message)

-- The sequence is below the horizon, or the moment is before the tick.
abbrev pub unless_retained : Manifest → Bool → Option (List ℕ) → Option (List ℕ)
unless_retained m refused next = if refused then Some (not_retained m.horizon m.tick) else next

-- ---- the cause of a line

-- The refusal of a line by the state in which it runs, or None if no cause of one holds. `message` is given if the
-- operator refuses a fold that an output or a finish needs; `OutputMay` and `FinishMay` say when it may. The other
-- kinds of lines are never refused. A settle line is refused here for want of a party: otherwise it is a run of other
-- lines.
abbrev pub refusal_of : Inputs → Line → (message : Option (List ℕ)) → State → Option (List ℕ)
refusal_of inputs (KillCoordinator n) message s = unless_there (coordinator_with n s.parties)
refusal_of inputs (StopCoordinator n) message s = unless_there (coordinator_with n s.parties)
refusal_of inputs (KillWorker n) message s = unless_there (worker_with n s.parties)
refusal_of inputs (StopWorker n) message s = unless_there (worker_with n s.parties)
refusal_of inputs (ClaimJobs n) message s = unless_there (worker_with n s.parties)
refusal_of inputs (Heartbeat n) message s = unless_there (worker_with n s.parties)
refusal_of inputs (FlushRows name segment floor tick rows) message s =
    option_map bad_flush
    (fault_of_flush (record { name = name; segment = segment; floor = floor; tick = tick; rows = rows }) s.store)
refusal_of inputs (SubmitJob segment destination sources) message s = unless_records s.store.records
refusal_of inputs (SubmitDrain segment sources) message s = unless_records s.store.records
refusal_of inputs (SubmitFull segment) message s = request_refusal inputs.scheduler (request_of segment) s.store
refusal_of inputs (Poll n) message s = poll_refusal n s
refusal_of inputs (CommitOnly n) message s = poll_refusal n s
refusal_of inputs (Output n job place rows) message s =
    if_some (range_at s n job place) (Some no_party) (λ found. end_refusal message true)
refusal_of inputs (FinishJob n job) message s = finish_refusal n job message s
refusal_of inputs (ReadKey segment key seq now) message s =
    unless_retained s.store.manifest (is_not_retained s.store.manifest seq now)
    (fold_refusal (flushed_read inputs.merge s.store segment key seq now))
refusal_of inputs (Scan segment from to seq now limit) message s =
    unless_retained s.store.manifest (is_not_retained s.store.manifest seq now) None
refusal_of inputs (Settle coordinator worker rounds) message s = Some no_party
refusal_of inputs (Together workers turns) message s = Some no_party
refusal_of inputs line message s = None

-- The refusal of a line with this course: the fault strikes one of its calls, or a cause of its kind holds. A line
-- whose party is missing makes no call.
abbrev pub refusal_by : (inputs : Inputs) (number : ℕ) (line : Line) (c : LineCourse) → (message : Option (List ℕ))
    → (s : State) → Option (List ℕ)
refusal_by inputs number line c message s =
    if does_strike s.fault (calls_made number c.party c.course s.store) then Some store_fault
    else refusal_of inputs line message s

-- ---- the law

-- The reply is that of a line that is not refused. That of a read begins with `none` or `value`, and each other one
-- with `ok`.
abbrev pub is_served : Line → List ℕ → Bool
is_served (ReadKey segment key seq now) answer =
    starts_with nat_eq answer (codes "none") || starts_with nat_eq answer (codes "value")
is_served line answer = is_ok answer

-- The reply is the refusal, if there is one. Otherwise the line is not refused.
abbrev pub RepliesBy : Line → Option (List ℕ) → List ℕ → Type 0
RepliesBy line None answer = is_served line answer ≡ true
RepliesBy line (Some refusal) answer = answer ≡ refusal

-- How a settle line ends whose parties are live: it is not refused, or its last step is refused, and it replies as
-- that step does.
pub data SettleEnds (inputs : Inputs) (number coordinator worker : ℕ) (answer : List ℕ) (new : State) : Type 0 where
  AllServed : is_ok answer ≡ true → SettleEnds inputs number coordinator worker answer new
  LastRefused : (step : Line) → IsStepOf coordinator worker step → (at : State)
      → OneCourse inputs number at step answer new → is_ok answer ≡ false
      → SettleEnds inputs number coordinator worker answer new

-- Each course of a line replies with the refusal that holds, or is not refused, from any state. So does each step of
-- a settle line.
pub record CausesDecide : Type 0 where
  pub course : (inputs : Inputs) (number : ℕ) (old : State) (line : Line) (answer : List ℕ) (new : State)
      (one : OneCourse inputs number old line answer new)
      → RepliesBy line
      (refusal_by inputs number line one.course one.does.refusal (prepared_state line old)) answer
  pub settles : (inputs : Inputs) (number coordinator worker rounds : ℕ) (old : State) (answer : List ℕ) (new : State)
      → SettleRun inputs number coordinator worker rounds old answer new
      → SettleEnds inputs number coordinator worker answer new
