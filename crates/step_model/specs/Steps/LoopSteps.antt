-- The loop in which a coordinator polls.
use Rattle.std.specs.Prelude.{ℕ, Bool, not, if◌then◌else◌, List, [], ◌∷◌}
use Rattle.std.specs.List.{list_any}
use Rattle.fleet_model.specs.Jobs.{is_active}
use Rattle.fleet_model.specs.Work.PollStates.{PollState}
use Rattle.step_model.specs.Courses.Course.{Course, Ends, then_course}
use Rattle.step_model.specs.Courses.StepEnds.{StepEnd, Reports, Fenced}
use Rattle.step_model.specs.Steps.PollSteps.{PollAsk, poll}

-- How a loop ends: its last poll left no active job, or all turns were taken, or a poll was fenced.
pub data LoopEnd : Type 0 where
  IsIdle : LoopEnd
  TookTurns : LoopEnd
  WasFenced : (stored : ℕ) → LoopEnd

-- True if the poll reached a state without active jobs.
abbrev pub leaves_none : PollState → Bool
leaves_none p = not (list_any is_active p.jobs)

-- The loop after a poll. A poll that gave up does not end it.
abbrev pub goes_on : Course LoopEnd → StepEnd PollState → Course LoopEnd
goes_on others (Reports p) = if leaves_none p then Ends IsIdle else others
goes_on others (Fenced stored) = Ends (WasFenced stored)
goes_on others end = others

-- A coordinator polls at each of these moments, one poll a turn.
unfoldable pub polls_at : PollAsk → (moments : List ℕ) → Course LoopEnd
polls_at ask [] = Ends TookTurns
polls_at ask (moment ∷ moments) = then_course (poll (record ask { moment = moment })) (goes_on (polls_at ask moments))
