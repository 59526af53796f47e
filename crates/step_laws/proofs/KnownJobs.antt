-- What is known of a job that is stored: its spec, and the tables that it recorded.
use Rattle.std.proofs.Common.{◌≡◌, ap, ℕ, Option, Some, None}
use Rattle.std.specs.List.{concat}
use Rattle.fleet_model.specs.Jobs.{JobSpec, Job, job_with}
use Rattle.fleet_model.specs.History.{Party}
use Rattle.fleet_model.specs.Store.{Records, jobs_in, stored_jobs}
use Rattle.fleet_model.specs.Past.Replay.{outputs_of, outputs_in}
use Rattle.step_model.specs.Past.{World}
use Rattle.step_model.specs.LawfulManifests.{IsKnownTo}

pub outputs_are : (records : Option Records) (id : ℕ) (job : Job) → job_with id (jobs_in records) ≡ Some job → outputs_in records id ≡ concat job.outputs
outputs_are None id job e = absurd (cc e)
outputs_are (Some records) id job e = ap outputs_of e

pub known_spec : (party : Party) (world : World) (own : ℕ → JobSpec) (id : ℕ) (job : Job) → job_with id (stored_jobs world.store) ≡ Some job → IsKnownTo party world own id → own id ≡ job.spec
known_spec party world own id job stored known = rw stored at known
