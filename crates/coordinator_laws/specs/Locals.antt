-- The laws on what a coordinator holds after a poll as its local state.
use Rattle.std.specs.Prelude.{◌≡◌, ℕ, Option, Some, None}
use Rattle.std.specs.List.{AllByRecursion}
use Rattle.std.specs.Option.{option_or}
use Rattle.row_model.specs.Fold.{IsLawful}
use Rattle.fleet_model.specs.Jobs.{Job, Jobs, job_with, trimmed_jobs}
use Rattle.fleet_model.specs.History.{Coordinator}
use Rattle.fleet_model.specs.Work.PollStates.{PollState}
use Rattle.step_model.specs.Past.{World}
use Rattle.step_model.specs.Steps.Merging.{Local}
use Rattle.step_model.specs.Rivals.{Caller}
use Rattle.step_model.specs.Kept.Keeps.{Keeps}
use Rattle.step_model.specs.Fits.{CoordinatorHolds}
use Rattle.step_model.specs.Courses.CourseRuns.{Gives, Runs}
use Rattle.step_model.specs.Courses.StepEnds.{Reports}
use Rattle.step_model.specs.Steps.PollSteps.{PollAsk, poll}

-- ---- the trees and the jobs that the poll reached

-- Under a lawful operator, a coordinator that fits does so after its poll that reports, with a
-- local state that has the trees and the jobs that the poll reached.
abbrev pub PollsFitLocally : Type 0
PollsFitLocally = (who : Caller) (old new : World) (number : ℕ) (ask : PollAsk)
    (before : Option Local) (p : PollState) (held : Local)
    → IsLawful who.merge → who.party ≡ Coordinator number → Keeps who.merge old
    → CoordinatorHolds old (record { number = number; epoch = ask.epoch }) before
    → Runs who (poll ask) old new (Gives (Reports p))
    → held.manifest.trees ≡ p.trees → held.records.jobs ≡ p.jobs
    → CoordinatorHolds new (record { number = number; epoch = ask.epoch }) (Some held)

-- ---- other finished jobs

-- The job with this id in the local state, if there is one.
abbrev pub job_held : Option Local → ℕ → Option Job
job_held None id = None
job_held (Some local) id = job_with id local.records.jobs

-- The job is found by its id.
abbrev pub IsFoundIn : Jobs → Job → Type 0
IsFoundIn jobs job = job_with job.id jobs ≡ Some job

-- The job is one that the poll reached or, if the poll reached none of its id, one that was held
-- before.
abbrev pub WasReachedOrHeld : PollState → Option Local → Job → Type 0
WasReachedOrHeld p before job =
    option_or (job_with job.id p.jobs) (job_held before job.id) ≡ Some job

-- The local state has the trees that the poll reached, and at least those of its jobs that a put of
-- the records keeps. Each of its other jobs is one that the poll reached or that was held before.
pub record IsAfter (before : Option Local) (p : PollState) (held : Local) : Type 0 where
  pub trees : held.manifest.trees ≡ p.trees
  pub kept : AllByRecursion (IsFoundIn held.records.jobs) (trimmed_jobs p.jobs)
  pub only : AllByRecursion (WasReachedOrHeld p before) held.records.jobs

-- Under a lawful operator, a coordinator that fits does so after its poll that reports, also with
-- a local state that lacks jobs of the poll which a put of the records drops, or that has jobs which
-- it held before and which the records have dropped since. All these jobs are finished.
abbrev pub FinishedJobsMayDiffer : Type 0
FinishedJobsMayDiffer = (who : Caller) (old new : World) (number : ℕ) (ask : PollAsk)
    (before : Option Local) (p : PollState) (held : Local)
    → IsLawful who.merge → who.party ≡ Coordinator number → Keeps who.merge old
    → CoordinatorHolds old (record { number = number; epoch = ask.epoch }) before
    → Runs who (poll ask) old new (Gives (Reports p))
    → IsAfter before p held
    → CoordinatorHolds new (record { number = number; epoch = ask.epoch }) (Some held)
