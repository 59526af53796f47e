-- The rounds of a settle line. If each round that goes on lowers a count, the line settles.
use Rattle.std.specs.Prelude.{◌≡◌, ℕ, ◌+◌, ◌<◌, ◌≤◌, Bool, true, false, IsTrue, List, [], ◌∷◌}
use Rattle.script_model.specs.Script.{Line, Poll, ClaimJobs, FinishJob}
use Rattle.script_model.specs.States.{Inputs, State}
use Rattle.script_model.specs.LineSteps.{OneCourse}
use Rattle.script_model.specs.Lines.Settles.{is_ok, has_active, has_added, jobs_run, settled_reply, SettleRun}

-- One step of a settle line that is not refused. `Rest` holds of the state after it.
pub record WentWell (inputs : Inputs) (number : ℕ) (line : Line) (old : State) (Rest : State → Type 0) : Type 0 where
  pub replied : List ℕ
  pub after : State
  pub does : OneCourse inputs number old line replied after
  pub ok : is_ok replied ≡ true
  pub rest : Rest after

-- The worker finishes these jobs in order, and none of these steps is refused.
abbrev pub FinishedAll : (inputs : Inputs) (number worker : ℕ) (jobs : List ℕ) → (old new : State) → Type 0
FinishedAll inputs number worker [] old new = new ≡ old
FinishedAll inputs number worker (job ∷ jobs) old new =
    WentWell inputs number (FinishJob worker job) old (λ after. FinishedAll inputs number worker jobs after new)

-- What a round does after its poll if it goes on. If a job is active, the worker claims jobs and finishes all
-- that it runs. Otherwise the poll added a job, and the round is over.
abbrev pub WorkedOn : (active added : Bool) → (inputs : Inputs) (number worker : ℕ) → (old new : State) → Type 0
WorkedOn true added inputs number worker old new =
    WentWell inputs number (ClaimJobs worker) old
    (λ claimed. FinishedAll inputs number worker (jobs_run worker claimed) claimed new)
WorkedOn false true inputs number worker old new = new ≡ old
WorkedOn false false inputs number worker old new = ⊥

-- A round that goes on takes the old state to the new one.
abbrev pub Round : Inputs → (number coordinator worker : ℕ) → (old new : State) → Type 0
Round inputs number coordinator worker old new =
    WentWell inputs number (Poll coordinator) old
    (λ polled. WorkedOn (has_active polled) (has_added coordinator polled) inputs number worker polled new)

-- The line has settled: its reply says in which round. The last poll of the line began in `last`, and it left no
-- active job and added none.
pub record HasSettled (inputs : Inputs) (number coordinator : ℕ) (Kept : State → Type 0) (rounds : ℕ) (answer : List ℕ)
    (new : State) : Type 0 where
  pub round : ℕ
  pub says : answer ≡ settled_reply round
  pub in_time : round ≤ rounds
  pub last : State
  pub kept : Kept last
  pub polled : WentWell inputs number (Poll coordinator) last (λ after. new ≡ after)
  pub none_active : has_active new ≡ false
  pub none_added : has_added coordinator new ≡ false

-- Each round that goes on keeps what is kept, and lowers the count.
abbrev pub RoundsLower : Inputs → (number coordinator worker : ℕ) → (State → Type 0) → (State → ℕ) → Type 0
RoundsLower inputs number coordinator worker Kept count = (old new : State) → Kept old
    → Round inputs number coordinator worker old new → Kept new × (count new < count old)

-- If each round lowers a count, as long as a test holds, then rounds that are more than the count settle, unless
-- a step is refused. They do so in at most one round more than the count.
abbrev pub CountedRoundsSettle : Type 0
CountedRoundsSettle = (inputs : Inputs) (number coordinator worker : ℕ) (test : State → Bool) (count : State → ℕ)
    → RoundsLower inputs number coordinator worker (λ s. IsTrue (test s)) count
    → (rounds : ℕ) (old : State) (answer : List ℕ) (new : State) → IsTrue (test old) → count old < rounds
    → SettleRun inputs number coordinator worker rounds old answer new → is_ok answer ≡ true
    → HasSettled inputs number coordinator (λ s. IsTrue (test s)) (count old + 1) answer new
