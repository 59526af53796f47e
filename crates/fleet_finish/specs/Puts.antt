-- The records that the end of a job puts.
use Rattle.std.specs.Prelude.{◌≡◌, ◌==◌, if◌then◌else◌, List, map, None}
use Rattle.std.specs.List.{AllByRecursion}
use Rattle.fleet_model.specs.History as model
use Rattle.fleet_model.specs.Work.Records.{Unrecorded, jobs_after}
use Rattle.fleet_model.specs.Store.{Store}
use Rattle.step_model.specs.Steps.ClaimSteps.{at_moment}
use Rattle.fleet_tree.specs.declared.handle.SsTableHandle.{SsTableHandle}
use Rattle.fleet_jobs.specs.Contexts.{table_ids}
use Rattle.fleet_jobs.specs.Parts.JobParts.{JobParts}
use Rattle.fleet_jobs.specs.Jobs.{jobs_of, with_status}
use Rattle.fleet_jobs.specs.Laws.{worker_at}
use Rattle.fleet_jobs.specs.declared.status.CompactionStatus.TheVariants.{Compacted}
use Rattle.fleet_book.specs.VersionedRecords.{VersionedRecords}
use Rattle.fleet_book.specs.declared.compactions.Compactions.{Compactions}
use Rattle.fleet_history.specs.Changes.{record_change_of}
use Rattle.fleet_store.specs.Handles.{IsDescribed}
use Rattle.fleet_store.specs.Records.{DescribeTables}
use Rattle.fleet_finish.specs.declared.put.EndedAttempt.{EndedAttempt}
use Rattle.fleet_finish.specs.declared.put.FinishPut.{FinishPut}

-- Tables for each range: a list for the first range, a list for the next, and so on.
abbrev pub Outputs : Type 0
Outputs = List (List SsTableHandle)

-- The record of a job that the attempt has ended with these tables.
abbrev pub compacted_record : EndedAttempt → Outputs → JobParts → JobParts
compacted_record attempt outputs job = record (with_status Compacted job) {
  worker = worker_at attempt.worker attempt.moment;
  ctx = None;
  outputs = outputs;
  cut = attempt.cut;
}

-- The record of the job, ended if it is the job of the attempt.
abbrev pub ended_record : EndedAttempt → Outputs → JobParts → JobParts
ended_record attempt outputs job = if attempt.job == job.id then compacted_record attempt outputs job else job

-- What the history does not record of the end of the attempt: the moment, and the cut that the job keeps.
abbrev pub unrecorded_of : EndedAttempt → Unrecorded
unrecorded_of attempt = record (at_moment attempt.moment) { kept_cut = attempt.cut }

-- The model's change of the records by which the attempt ends with these tables.
abbrev pub change_of : EndedAttempt → Outputs → model.RecordChange
change_of attempt outputs = model.Finish attempt.worker attempt.job attempt.number (map table_ids outputs)

-- The tables are described as they were put.
abbrev pub AreShown : Outputs → Store → Type 0
AreShown outputs store = AllByRecursion (λ tables. AllByRecursion (IsDescribed store.tables) tables) outputs

-- The records have the model's jobs after the end of the attempt, keep the epoch, and describe no other tables than
-- before and those that the attempt ends with.
pub record EndsRecords (attempt : EndedAttempt) (outputs : Outputs) (old new : Compactions) : Type 0 where
  pub jobs : jobs_of new.jobs ≡ jobs_after (unrecorded_of attempt) (change_of attempt outputs) (jobs_of old.jobs)
  pub epoch : new.compactor_epoch ≡ old.compactor_epoch
  pub described : (store : Store) → AreShown outputs store → DescribeTables old.jobs store
      → DescribeTables new.jobs store

-- The put ends the attempt with these tables.
pub record IsFinishPut (attempt : EndedAttempt) (outputs : Outputs) (got : VersionedRecords)
    (put : FinishPut) : Type 0 where
  pub at : put.version ≡ got.id
  pub why : record_change_of put.why ≡ change_of attempt outputs
  pub made : EndsRecords attempt outputs got.compactions put.value
