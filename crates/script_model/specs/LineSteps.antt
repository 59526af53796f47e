-- Which courses a line may have. One of them runs.
use Rattle.std.specs.Prelude.{◌≡◌, ℕ, List, Option, None}
use Rattle.script_model.specs.Script.{Line, Output, FinishJob}
use Rattle.script_model.specs.States.{Inputs, State}
use Rattle.script_model.specs.LineRuns.{LineCourse, run_line}
use Rattle.script_model.specs.LineCourses.{prepared_state, course_of, job_at, range_at}
use Rattle.script_model.specs.Refusals.{OutputMay, FinishMay}

-- The line may have this refusal of the operator, or none. Only an output and a finish leave a
-- choice.
abbrev pub MayRefuse : (inputs : Inputs) (line : Line) (s : State) (refusal : Option (List ℕ)) → Type 0
MayRefuse inputs (Output n job place rows) s refusal = OutputMay inputs s rows (range_at s n job place) refusal
MayRefuse inputs (FinishJob n job) s refusal = FinishMay inputs s (job_at s n job) refusal
MayRefuse inputs line s refusal = refusal ≡ None

-- The line may have this course.
pub record Does (inputs : Inputs) (line : Line) (s : State) (course : LineCourse) : Type 0 where
  pub refusal : Option (List ℕ)
  pub may : MayRefuse inputs line s refusal
  pub is : course ≡ course_of inputs line refusal s

-- One course takes the old state to the new one and gives the reply. It is a course that the line
-- may have. `number` is the line's number, from 1.
pub record OneCourse (inputs : Inputs) (number : ℕ) (old : State) (line : Line) (answer : List ℕ) (new : State)
    : Type 0 where
  pub course : LineCourse
  pub does : Does inputs line (prepared_state line old) course
  pub ends : run_line number (prepared_state line old) course ≡ (answer, new)
