-- The lines that submit jobs.
use Rattle.std.specs.Prelude.{ℕ, List, [], ◌∷◌, Option, Some, None, codes}
use Rattle.fleet_model.specs.Jobs.{JobSpec}
use Rattle.fleet_model.specs.History.{Submitter}
use Rattle.fleet_model.specs.Work.Scheduler.{Request, Full, FullSegment}
use Rattle.step_model.specs.Courses.Course.{Course}
use Rattle.step_model.specs.Courses.StepEnds.{StepEnd}
use Rattle.step_model.specs.Steps.SubmitSteps.{submit, submit_request}
use Rattle.script_model.specs.Replies.{reply, jobs_text}
use Rattle.script_model.specs.LineRuns.{LineCourse, step_line, line_end}
use Rattle.script_model.specs.States.{Inputs, State}

-- A line that does a step of a submitter. Its reply lists the submitted jobs after `word`. No party
-- changes.
abbrev pub submits : State → List ℕ → Course (StepEnd (List ℕ)) → LineCourse
submits s word step =
    step_line Submitter step
    (line_end (λ jobs. reply (codes "ok" ∷ word ∷ jobs_text jobs ∷ [])) (λ jobs. s.parties) s.parties) s.parties

-- The line that submits one job.
abbrev pub submit_line : JobSpec → State → LineCourse
submit_line spec s = submits s (codes "job") (submit s.moment (spec ∷ []))

-- The request of a line: one tree whole, or all trees whole if no segment is given.
abbrev pub request_of : Option (List ℕ) → Request
request_of None = Full
request_of (Some segment) = FullSegment segment

-- The line that submits the jobs that the scheduler generates for one tree or for all trees.
abbrev pub full_line : Inputs → Option (List ℕ) → State → LineCourse
full_line inputs segment s = submits s (codes "jobs") (submit_request s.moment inputs.scheduler (request_of segment))
