-- The law on second joins: they change no tree.
use Rattle.std.specs.Prelude.{◌≡◌, ℕ, true, IsTrue, List, [], Some, None}
use Rattle.std.specs.List.{AllByRecursion, concat}
use Rattle.row_model.specs.Fold.{Operator}
use Rattle.fleet_model.specs.Jobs.{JobSpec, Job, Compacted, has_status, job_with}
use Rattle.fleet_model.specs.History.{Party, Step, Join}
use Rattle.fleet_model.specs.Store.{stored_jobs}
use Rattle.fleet_model.specs.Trees.{stepped_in, job_of}
use Rattle.fleet_model.specs.Work.Gates.{commit_gate}
use Rattle.fleet_model.specs.Invariants.JobsFit.{was_joined}
use Rattle.step_model.specs.Past.{World}
use Rattle.step_model.specs.LawfulManifests.{IsKnownTo, StepsFit}
use Rattle.step_model.specs.Kept.Keeps.{Keeps}
use Rattle.commit_laws.specs.After.{trees_after}

-- A job whose join took effect is Compacted still, since the records were lost. If it passes the
-- gate, be it after the first steps of a commit, a second join of it changes no tree.
abbrev pub SecondJoinsRest : Operator → Type 0
SecondJoinsRest merge = (world : World) (party : Party) (specs : ℕ → JobSpec) (first : List Step) (job : Job)
    → Keeps merge world
    → AllByRecursion (λ step. IsKnownTo party world specs (job_of step)) first
    → StepsFit world specs world.store.manifest.trees [] first
    → job_with job.id (stored_jobs world.store) ≡ Some job → IsTrue (has_status Compacted job)
    → IsTrue (was_joined world.store.history job.id)
    → commit_gate (trees_after world specs first) (λ spec. true) job ≡ None
    → stepped_in world.store.tables (Join job.id) job.spec (concat job.outputs) (trees_after world specs first)
    ≡ trees_after world specs first
