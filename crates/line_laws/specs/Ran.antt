-- The law on lines: which courses a line of a script runs.
use Rattle.std.specs.Prelude.{◌≡◌, ℕ, false, List, [], ◌∷◌}
use Rattle.std.specs.List.{AllByRecursion}
use Rattle.row_model.specs.Fold.{IsLawful}
use Rattle.script_model.specs.Script.{Line, Poll, ClaimJobs, FinishJob, Settle}
use Rattle.script_model.specs.States.{Inputs, State}
use Rattle.script_model.specs.LineSteps.{OneCourse}
use Rattle.script_model.specs.Lines.Settles.{is_ok}
use Rattle.script_model.specs.Follows.{LineStep}
use Rattle.line_laws.specs.Alone.{HadRoom}
use Rattle.line_laws.specs.Scripts.{HasRun}
use Rattle.line_laws.specs.States.{StateKeeps}

-- A fresh fleet ran these lines, and then this line, which took the old state to the new one with this
-- reply. The history had room for all draws.
pub record ThenRan (inputs : Inputs) (lines : List Line) (old : State) (line : Line) (answer : List ℕ) (new : State)
    : Type 0 where
  pub before : HasRun inputs lines old
  pub number : ℕ
  pub step : LineStep inputs number old line answer new
  pub had_room : HadRoom new.store

-- One course of this line took the old state, which keeps the invariant, to the new one with this reply.
-- The operator is lawful, and the history had room for all draws.
pub record CourseRan (inputs : Inputs) (old : State) (line : Line) (answer : List ℕ) (new : State) : Type 0 where
  pub lawful : IsLawful inputs.merge
  pub keeps : StateKeeps inputs.merge old
  pub number : ℕ
  pub course : OneCourse inputs number old line answer new
  pub had_room : HadRoom new.store

-- A step that is refused is the last one, and the line replies as the step does.
abbrev pub StopsIfRefused : (replied : List ℕ) (others : List Line) (answer : List ℕ) → Type 0
StopsIfRefused replied others answer = is_ok replied ≡ false → (others ≡ []) × (answer ≡ replied)

-- One course of each of these steps, one after the other, took the old state to the new one. The line
-- whose steps they are has this reply.
abbrev pub StepsRan : (inputs : Inputs) (old : State) (steps : List Line) (answer : List ℕ) (new : State) → Type 0
StepsRan inputs old [] answer new = new ≡ old
StepsRan inputs old (step ∷ others) answer new =
    (replied : List ℕ) × (mid : State) × CourseRan inputs old step replied mid × StopsIfRefused replied others answer
    × StepsRan inputs mid others answer new

-- The step is a poll of this coordinator, or a claim or a finish of this worker.
abbrev pub IsStepOf : (coordinator worker : ℕ) → Line → Type 0
IsStepOf coordinator worker (Poll n) = n ≡ coordinator
IsStepOf coordinator worker (ClaimJobs n) = n ≡ worker
IsStepOf coordinator worker (FinishJob n job) = n ≡ worker
IsStepOf coordinator worker line = ⊥

-- The steps of a settle line are polls, claims and finishes of its parties, and each is one course.
pub record SettleRan (inputs : Inputs) (old : State) (coordinator worker : ℕ) (answer : List ℕ) (new : State)
    : Type 0 where
  pub steps : List Line
  pub each : AllByRecursion (IsStepOf coordinator worker) steps
  pub ran : StepsRan inputs old steps answer new

-- A settle line runs its steps, and each other line runs one course.
abbrev pub LineRan : (inputs : Inputs) (old : State) (line : Line) (answer : List ℕ) (new : State) → Type 0
LineRan inputs old (Settle coordinator worker rounds) answer new = SettleRan inputs old coordinator worker answer new
LineRan inputs old line answer new = CourseRan inputs old line answer new

-- Each line of a script runs so. So a law on one course speaks of each line of its own, and of each step
-- of a settle line.
abbrev pub LinesRunCourses : Type 0
LinesRunCourses = (inputs : Inputs) (lines : List Line) (old new : State) (line : Line) (answer : List ℕ)
    → ThenRan inputs lines old line answer new → LineRan inputs old line answer new
