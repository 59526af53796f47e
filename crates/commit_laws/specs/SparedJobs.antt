-- The law on jobs that a commit does not do: those that wait for a worker or run.
use Rattle.std.specs.Prelude.{◌≡◌, ◌||◌, IsTrue, List, Some}
use Rattle.row_model.specs.Fold.{Operator}
use Rattle.row_model.specs.Settings.{Settings}
use Rattle.fleet_model.specs.Jobs.{Job, Scheduled, Running, has_status, job_with}
use Rattle.fleet_model.specs.History.{Party, Step}
use Rattle.fleet_model.specs.Store.{Manifest, stored_jobs}
use Rattle.fleet_model.specs.Invariants.JobsFit.{SourcesStand, SettingsFit}
use Rattle.step_model.specs.Past.{World}
use Rattle.step_model.specs.LawfulManifests.{CommitFits}
use Rattle.step_model.specs.Kept.Keeps.{Keeps}

-- The sources of the job are in their tree one after the other, with the tables that they had when the
-- job was opened. Settings that fit the job fit it still: a last run stays one of the oldest nodes.
pub record IsSpared (world : World) (value : Manifest) (job : Job) : Type 0 where
  pub stands : SourcesStand value.trees job
  pub settings : (settings : Settings) → SettingsFit world.store.manifest job.spec settings
      → SettingsFit value job.spec settings

-- A lawful commit spares each stored job that is Scheduled or Running.
abbrev pub CommitsSpareJobs : Operator → Type 0
CommitsSpareJobs merge = (world : World) (party : Party) (steps : List Step) (value : Manifest) (job : Job)
    → Keeps merge world → CommitFits party world steps value
    → job_with job.id (stored_jobs world.store) ≡ Some job
    → IsTrue (has_status Scheduled job || has_status Running job) → IsSpared world value job
