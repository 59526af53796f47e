-- The law on what a finish did that reports, over any store.
use Rattle.std.specs.Prelude.{◌≡◌, ℕ, true, false, IsTrue, List, [], ◌∷◌, Some, None}
use Rattle.std.specs.List.{concat}
use Rattle.row_model.specs.Fold.{Operator, IsLawful}
use Rattle.row_model.specs.Settings.{Settings}
use Rattle.row_model.specs.JobRows.{job_rows}
use Rattle.fleet_model.specs.Jobs.{Job, Compacted, has_status, job_with}
use Rattle.fleet_model.specs.History.{Worker, Finish}
use Rattle.fleet_model.specs.Store.{Records, Store, stored_jobs}
use Rattle.fleet_model.specs.Work.Attempts.{noted_rows, source_rows}
use Rattle.fleet_model.specs.Past.Claimed.{settings_of, without_cut}
use Rattle.fleet_model.specs.Invariants.JobsFit.{cut_or}
use Rattle.fleet_model.specs.Work.Records.{jobs_after}
use Rattle.fleet_model.specs.Past.Replay.{IsReplayed}
use Rattle.fleet_model.specs.Work.Parties.{Attempt, LiveWorker, is_live, without_attempts}
use Rattle.fleet_model.specs.Exchanges.{Exchange, PutsRecords}
use Rattle.step_model.specs.Past.{World}
use Rattle.step_model.specs.Rivals.{Caller, after_call}
use Rattle.step_model.specs.Kept.Keeps.{Keeps}
use Rattle.step_model.specs.Fits.{WorkerHolds}
use Rattle.step_model.specs.Courses.CourseRuns.{Gives, Runs}
use Rattle.step_model.specs.Courses.StepEnds.{Reports}
use Rattle.step_model.specs.Steps.FinishSteps.{FinishAsk, FinishedJob, all_outputs, unrecorded_of_finish, finish}
use Rattle.step_laws.specs.Runs.{CallsKeep}
use Rattle.course_laws.specs.Outputs.{DoesRun}
use Rattle.course_laws.specs.Finishes.{WholeUnless}

-- The outputs of the job hold all rows that one merge of its source tables makes under the settings of
-- one claim, and the cut that the job kept.
pub record OneMerge (merge : Operator) (store : Store) (job : Job) : Type 0 where
  pub replay : IsReplayed store
  pub settings : Settings
  pub claimed : settings_of store.tables replay.specs store.history job.id job.attempt ≡ Some (without_cut settings)
  pub cut : settings.cut ≡ cut_or settings.floor job.kept_cut
  pub rows : job_rows merge settings (source_rows store.tables job.source_tables)
      ≡ record { rows = noted_rows store.tables (concat job.outputs); whole = true }

-- The job is stored. It waits for its commit with these outputs, and they are one merge.
pub record IsFinished (merge : Operator) (store : Store) (id : ℕ) (outputs : List (List ℕ)) : Type 0 where
  pub job : Job
  pub stored : job_with id (stored_jobs store) ≡ Some job
  pub waits : IsTrue (has_status Compacted job)
  pub has : job.outputs ≡ outputs
  pub merged : OneMerge merge store job

-- The put of the records by which a finish ends an attempt with these outputs, over the records that it
-- got.
abbrev pub finish_put : (moment : ℕ) → LiveWorker → Attempt → (outputs : List (List ℕ)) → (got : Records) → Exchange
finish_put moment w a outputs got =
    let change = Finish w.number a.job a.number outputs in
    PutsRecords got.version change got.epoch (jobs_after (unrecorded_of_finish moment w a) change got.jobs)

-- A finish that reports has for each range the tables that the attempt had noted, and then those that it
-- made. The attempt was live as it put the records, and this was its last call. The attempt is over, and
-- its job waits for its commit. The outputs have all rows that the attempt's settings make of its sources.
-- The worker runs its other attempts.
pub record FinishDid (who : Caller) (moment : ℕ) (w : LiveWorker) (a : Attempt) (new : World) (report : FinishedJob)
    : Type 0 where
  pub made : List (List ℕ)
  pub outputs : report.outputs ≡ all_outputs a.context.ranges made
  pub attempts : report.attempts ≡ without_attempts (a.job ∷ []) w.attempts
  pub at : World
  pub got : Records
  pub stored : at.store.records ≡ Some got
  pub live : is_live got.jobs w.number a ≡ true
  pub last : new ≡ after_call who.line who.party (finish_put moment w a report.outputs got) None at
  pub over : is_live (stored_jobs new.store) w.number a ≡ false
  pub finished : IsFinished who.merge new.store a.job report.outputs
  pub rows : job_rows who.merge a.context.settings (source_rows new.store.tables a.sources)
      ≡ record { rows = noted_rows new.store.tables (concat report.outputs); whole = true }

-- A finish of a worker that fits did so if it reports, under a lawful operator and if every lawful call
-- keeps the invariant.
abbrev pub FinishesReport : Type 0
FinishesReport = (who : Caller) (old new : World) (ask : FinishAsk) (report : FinishedJob)
    → CallsKeep who.merge → IsLawful who.merge → who.party ≡ Worker ask.worker.number → Keeps who.merge old
    → WorkerHolds who.merge old ask.worker → DoesRun ask.worker ask.attempt
    → WholeUnless who.merge old.store.tables ask.attempt ask.refusal
    → Runs who (finish who.merge old.store.tables ask) old new (Gives (Reports report))
    → FinishDid who ask.moment ask.worker ask.attempt new report
