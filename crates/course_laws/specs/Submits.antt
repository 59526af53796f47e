-- The laws on submissions.
use Rattle.std.specs.Prelude.{◌≡◌, ℕ, List}
use Rattle.fleet_model.specs.Jobs.{JobSpec}
use Rattle.fleet_model.specs.History.{Submitter}
use Rattle.fleet_model.specs.Work.Scheduler.{Scheduler, Request}
use Rattle.step_model.specs.Past.{World}
use Rattle.step_model.specs.Rivals.{Caller}
use Rattle.step_model.specs.Kept.Keeps.{Keeps}
use Rattle.step_model.specs.Steps.SubmitSteps.{submit, submit_request}
use Rattle.step_model.specs.Courses.CourseRuns.{IsLawfulCourse}
use Rattle.step_laws.specs.Runs.{CallsKeep}

-- Submissions of jobs and of requests are lawful courses over any store that meets the invariant, if
-- every lawful call keeps the invariant.
pub record SubmitsAreLawful (who : Caller) (world : World) : Type 0 where
  pub submits : (moment : ℕ) (specs : List JobSpec) → CallsKeep who.merge → Keeps who.merge world
      → who.party ≡ Submitter → IsLawfulCourse who world (submit moment specs)
  pub requests : (moment : ℕ) (asked : Scheduler) (request : Request) → CallsKeep who.merge → Keeps who.merge world
      → who.party ≡ Submitter → IsLawfulCourse who world (submit_request moment asked request)
