-- The law on refusals: what a line leaves that is refused, kind by kind.
use Rattle.std.specs.Prelude.{◌≡◌, ℕ, ◌⊎◌, Bool, true, false, if◌then◌else◌, List, [], ◌∷◌, ◌++◌, Some, None, codes, decimal}
use Rattle.fleet_model.specs.Nodes.{Tables}
use Rattle.fleet_model.specs.Jobs.{Jobs}
use Rattle.fleet_model.specs.History.{Party, Release}
use Rattle.fleet_model.specs.Store.{Store, stored_jobs}
use Rattle.fleet_model.specs.Exchanges.{after_answered, struck_by, does_stand}
use Rattle.fleet_model.specs.Work.Parties.{Attempt, LiveWorker, Parties, is_live, without_coordinator, without_worker}
use Rattle.fleet_model.specs.Work.Records.{jobs_after}
use Rattle.step_model.specs.Courses.Course.{Course, Ends, Calls}
use Rattle.step_model.specs.Courses.StepEnds.{FlushFault}
use Rattle.step_model.specs.Entries.{last_name}
use Rattle.step_model.specs.Steps.ClaimSteps.{at_moment}
use Rattle.script_model.specs.Words.{bytes_text}
use Rattle.script_model.specs.Script.{Line, StartCoordinator, StopWorker, FlushRows, ReadKey, SubmitJob, SubmitDrain, SubmitFull, Poll, CommitOnly, ClaimJobs, Heartbeat, Output, FinishJob, Scan}
use Rattle.script_model.specs.States.{Inputs, State}
use Rattle.script_model.specs.Replies.{reply}
use Rattle.script_model.specs.LineRuns.{LineCourse, flush_fault_text}
use Rattle.script_model.specs.LineCourses.{prepared_state, job_at}
use Rattle.script_model.specs.Lines.Settles.{is_ok}
use Rattle.script_model.specs.Lines.WorkLines.{parties_running, without_attempt}
use Rattle.script_model.specs.LineSteps.{OneCourse}

-- ---- what a refusal leaves in the store

-- The store is as before but for its history, and the greatest name of a flush is as before.
pub record IsAsBefore (old new : Store) : Type 0 where
  pub same : new ≡ record old { history = new.history }
  pub names : last_name new.history ≡ last_name old.history

-- The jobs after this attempt is given back. If it is live, its job waits for a worker again and keeps its context.
abbrev pub given_back : (worker : ℕ) → Attempt → Jobs → Jobs
given_back worker a jobs =
    if is_live jobs worker a then jobs_after (at_moment 0) (Release worker ((a.job, a.number) ∷ [])) jobs else jobs

-- The attempt was given back. The manifest, all tables and the counts of draws are as before.
pub record IsGivenBack (worker : ℕ) (a : Attempt) (old new : Store) : Type 0 where
  pub same : new ≡ record old { records = new.records; history = new.history }
  pub jobs : stored_jobs new ≡ given_back worker a (stored_jobs old)

-- Tables were put beside the old ones. The manifest and the records are as before.
pub record HasPutTables (old new : Store) : Type 0 where
  pub same : new ≡ record old { tables = new.tables; tables_drawn = new.tables_drawn; history = new.history }
  pub made : Tables
  pub beside : new.tables ≡ old.tables ++ made

-- ---- a fault

-- A course made its calls in order up to a struck one, and left this store.
abbrev pub StruckIn : {A : Type 0} → ℕ → Party → (stands : Bool) → Course A → (old new : Store) → Type 0
StruckIn line party stands (Ends answer) old new = ⊥
StruckIn line party stands (Calls x next) old new =
    (new ≡ struck_by stands line party x old)
    ⊎ StruckIn line party stands (next old) (after_answered line party x old) new

-- The parties that are live after a fault struck a call of the line. The party that called is no longer live, unless
-- it is a writer, a submitter or a sweeper.
abbrev pub struck_parties : Line → State → Parties
struck_parties (StartCoordinator n) s = without_coordinator n s.parties
struck_parties (StopWorker n) s = without_worker n s.parties
struck_parties (Poll n) s = without_coordinator n s.parties
struck_parties (CommitOnly n) s = without_coordinator n s.parties
struck_parties (ClaimJobs n) s = without_worker n s.parties
struck_parties (Heartbeat n) s = without_worker n s.parties
struck_parties (Output n job place rows) s = without_worker n s.parties
struck_parties (FinishJob n job) s = without_worker n s.parties
struck_parties line s = s.parties

-- A fault struck a call of the line's course. The calls before it were made, and the struck one was made or lost, as
-- the fault says. No fault waits any more.
pub record WasStruck (number : ℕ) (line : Line) (c : LineCourse) (old : State) (answer : List ℕ) (new : State)
    : Type 0 where
  pub printed : answer ≡ reply (codes "storefault" ∷ [])
  pub store : StruckIn number c.party (does_stand old.fault) c.course old.store new.store
  pub parties : new.parties ≡ struck_parties line old
  pub fault : new.fault ≡ None

-- ---- refusals of steps

-- A flush with a fault leaves store and parties as before, and uses no name.
pub record FlushRefused (old : State) (answer : List ℕ) (new : State) : Type 0 where
  pub fault : FlushFault
  pub printed : answer ≡ reply (codes "badflush" ∷ flush_fault_text fault ∷ [])
  pub store : IsAsBefore old.store new.store
  pub parties : new.parties ≡ old.parties

-- Without records no job is submitted. Store and parties are as before.
pub record SubmitRefused (old : State) (answer : List ℕ) (new : State) : Type 0 where
  pub printed : answer ≡ reply (codes "invaliddbstate" ∷ [])
  pub store : IsAsBefore old.store new.store
  pub parties : new.parties ≡ old.parties

-- The scheduler may refuse a request, too.
pub record RequestRefused (old : State) (answer : List ℕ) (new : State) : Type 0 where
  pub message : List ℕ
  pub printed : (answer ≡ reply (codes "invaliddbstate" ∷ []))
      ⊎ ((answer ≡ reply (codes "invalidcompaction" ∷ []))
      ⊎ (answer ≡ reply (codes "generate" ∷ bytes_text message ∷ [])))
  pub store : IsAsBefore old.store new.store
  pub parties : new.parties ≡ old.parties

-- A poll that is fenced leaves the store as before. Its coordinator is no longer live.
pub record PollRefused (n : ℕ) (old : State) (answer : List ℕ) (new : State) : Type 0 where
  pub stored : ℕ
  pub printed : answer ≡ reply (codes "fenced" ∷ decimal stored ∷ [])
  pub store : IsAsBefore old.store new.store
  pub parties : new.parties ≡ without_coordinator n old.parties

-- The operator refused a fold of the attempt that the worker runs at this job. The attempt is given back, and the
-- worker runs it no more.
pub record CalledBack (n job : ℕ) (old : State) (answer : List ℕ) (new : State) : Type 0 where
  pub worker : LiveWorker
  pub attempt : Attempt
  pub ran : job_at old n job ≡ Some (worker, attempt)
  pub message : List ℕ
  pub printed : answer ≡ reply (codes "callback" ∷ bytes_text message ∷ [])
  pub store : IsGivenBack worker.number attempt old.store new.store
  pub parties : new.parties ≡ parties_running worker old (without_attempt worker attempt)

-- The attempt that the worker runs at this job is not live. Its finish put tables, and the worker runs it no more.
pub record NotOwned (n job : ℕ) (old : State) (answer : List ℕ) (new : State) : Type 0 where
  pub worker : LiveWorker
  pub attempt : Attempt
  pub ran : job_at old n job ≡ Some (worker, attempt)
  pub printed : answer ≡ reply (codes "notowner" ∷ [])
  pub over : is_live (stored_jobs old.store) worker.number attempt ≡ false
  pub store : HasPutTables old.store new.store
  pub parties : new.parties ≡ parties_running worker old (without_attempt worker attempt)

-- ---- the line

-- What a refusal leaves that is neither a fault nor a missing party, kind by kind. The other kinds of lines have no
-- such refusal. Reads and scans change nothing, whatever they reply.
abbrev pub RefusedSo : (line : Line) (old : State) (answer : List ℕ) (new : State) → Type 0
RefusedSo (FlushRows name segment floor tick rows) old answer new = FlushRefused old answer new
RefusedSo (ReadKey segment key seq now) old answer new = new ≡ old
RefusedSo (SubmitJob segment destination sources) old answer new = SubmitRefused old answer new
RefusedSo (SubmitDrain segment sources) old answer new = SubmitRefused old answer new
RefusedSo (SubmitFull segment) old answer new = RequestRefused old answer new
RefusedSo (Poll n) old answer new = PollRefused n old answer new
RefusedSo (CommitOnly n) old answer new = PollRefused n old answer new
RefusedSo (Output n job place rows) old answer new = CalledBack n job old answer new
RefusedSo (FinishJob n job) old answer new = CalledBack n job old answer new ⊎ NotOwned n job old answer new
RefusedSo (Scan segment from to seq now limit) old answer new = new ≡ old
RefusedSo line old answer new = ⊥

-- The reply to a line is ok, or it says that a party is missing, that a fault struck, or that the line's step was
-- refused. A line whose party is missing changes nothing.
pub data Replied (number : ℕ) (line : Line) (c : LineCourse) (old : State) (answer : List ℕ) (new : State)
    : Type 0 where
  IsDone : is_ok answer ≡ true → Replied number line c old answer new
  HasNoParty : answer ≡ reply (codes "nosuchparty" ∷ []) → new ≡ old → Replied number line c old answer new
  IsStruck : WasStruck number line c old answer new → Replied number line c old answer new
  IsRefused : RefusedSo line old answer new → Replied number line c old answer new

-- A line changes neither options nor moment, unless it sets them, and a refused one leaves what its kind says.
pub record LineLeaves (inputs : Inputs) (number : ℕ) (old : State) (line : Line) (answer : List ℕ) (new : State)
    (one : OneCourse inputs number old line answer new) : Type 0 where
  pub options : new.options ≡ (prepared_state line old).options
  pub moment : new.moment ≡ (prepared_state line old).moment
  pub replied : Replied number line one.course old answer new

-- Each course of a line leaves so, from any state.
abbrev pub RefusalsLeave : Type 0
RefusalsLeave = (inputs : Inputs) (number : ℕ) (old : State) (line : Line) (answer : List ℕ) (new : State)
    (one : OneCourse inputs number old line answer new) → LineLeaves inputs number old line answer new one
