-- How jobs are submitted.
use Rattle.std.specs.Prelude.{◌≡◌, ◌≢◌, ℕ, IsTrue, List, map, None}
use Rattle.std.specs.List.{AllByRecursion, zip}
use Rattle.row_model.specs.Lists.{Pairs}
use Rattle.fleet_model.specs.History.{Submit, Submitter}
use Rattle.fleet_model.specs.Jobs.{trimmed_jobs}
use Rattle.fleet_model.specs.Work.Records.{with_new}
use Rattle.fleet_model.specs.Store.{Store}
use Rattle.step_model.specs.Courses.Course.{Course}
use Rattle.step_model.specs.Courses.CourseRuns.{IsLawfulCourse}
use Rattle.step_model.specs.Entries.{was_named}
use Rattle.step_model.specs.Kept.Keeps.{Keeps}
use Rattle.step_model.specs.Courses.StepEnds.{StepEnd}
use Rattle.step_model.specs.Steps.SubmitSteps.{submits_specs}
use Rattle.step_model.specs.Views.{StoreView}
use Rattle.fleet_jobs.specs.Parts.JobParts.{JobParts}
use Rattle.fleet_jobs.specs.Jobs.{jobs_of}
use Rattle.fleet_jobs.specs.Specs.{spec_of}
use Rattle.fleet_jobs.specs.declared.spec.CompactionSpec.{CompactionSpec}
use Rattle.fleet_book.specs.Records.{record_with}
use Rattle.fleet_book.specs.VersionedRecords.{VersionedRecords}
use Rattle.fleet_book.specs.Versions.{records_of}
use Rattle.fleet_book.specs.declared.compactions.Compactions.{Compactions}
use Rattle.fleet_history.specs.Changes.{new_specs, record_change_of}
use Rattle.fleet_store.specs.Records.{DescribeTables}
use Rattle.fleet_coordinator.specs.declared.submission.SubmitPut.{SubmitPut}

-- The submitter calls the store.
abbrev pub IsSubmitter : StoreView → Type 0
IsSubmitter view = view.who.party ≡ Submitter

-- None of these jobs has one of these ids, and no id is there twice.
pub record AreNewTo (jobs : List JobParts) (ids : List ℕ) : Type 0 where
  pub unused : AllByRecursion (λ id. record_with id jobs ≡ None) ids
  pub once : Pairs (λ a b. a ≢ b) ids

-- The records have the new jobs beside the old ones, keep the epoch, and describe no other tables.
pub record AddsJobs (old new : Compactions) (named : List (ℕ × CompactionSpec)) : Type 0 where
  pub jobs : jobs_of new.jobs ≡ with_new (new_specs named) (jobs_of old.jobs)
  pub epoch : new.compactor_epoch ≡ old.compactor_epoch
  pub described : (store : Store) → DescribeTables old.jobs store → DescribeTables new.jobs store

-- The put is over these records. It adds jobs of these specs, with these ids, and describes only tables that the
-- records describe.
pub record IsSubmitPut (got : VersionedRecords) (ids : List ℕ) (specs : List CompactionSpec)
    (put : SubmitPut) : Type 0 where
  pub at : put.version ≡ got.id
  pub why : record_change_of put.why ≡ Submit (zip ids (map spec_of specs))
  pub epoch : put.value.compactor_epoch ≡ got.compactions.compactor_epoch
  pub jobs : jobs_of put.value.jobs
      ≡ trimmed_jobs (with_new (zip ids (map spec_of specs)) (jobs_of got.compactions.jobs))
  pub described : (store : Store) → DescribeTables got.compactions.jobs store → DescribeTables put.value.jobs store

-- The submitter may submit jobs of these specs over records that it got: it calls a store that meets the invariant,
-- each job of the records was named there, their tables are described there, and the submission is a lawful course.
pub record MaySubmit (view : StoreView) (moment : ℕ) (got : VersionedRecords)
    (specs : List CompactionSpec) : Type 0 where
  pub keeps : Keeps view.who.merge view.world
  pub named : AllByRecursion (λ job. IsTrue (was_named view.world.store.history job.id)) (jobs_of got.compactions.jobs)
  pub described : DescribeTables got.compactions.jobs view.world.store
  pub again : ℕ → Course (StepEnd (List ℕ))
  pub lawful : IsLawfulCourse view.who view.world (submits_specs moment (records_of got) (map spec_of specs) again)
