-- A worker fits after the steps by which it takes messages.
use Rattle.std.proofs.Common.{◌≡◌, refl, sym, subst, ℕ, List, [], ◌∷◌, false, Option, Some, None}
use Rattle.std.specs.Prelude.{not, IfSome}
use Rattle.fleet_model.specs.Jobs.{Context, contains}
use Rattle.fleet_model.specs.Work.Parties.{Attempt, LiveWorker, without_attempts}
use Rattle.step_model.specs.Past.{World}
use Rattle.step_model.specs.Rivals.{Caller}
use Rattle.step_model.specs.Kept.Keeps.{Keeps}
use Rattle.step_model.specs.Fits.{WorkerHolds, noted_tables}
use Rattle.step_model.specs.Courses.Course.{Ends}
use Rattle.step_model.specs.Courses.CourseRuns.{End, Gives, Runs, IsLawfulCourse}
use Rattle.step_model.specs.Courses.StepEnds.{StepEnd, Reports, GivesUp, NotOwner, most_refused}
use Rattle.step_model.specs.Steps.FinishSteps.{FinishedJob, end_job}
use Rattle.step_model.specs.Steps.MessageSteps.{attempt_run, ends_run, take_finished, release_job, gives_run, take_failed, notes_run, take_progress}
use Rattle.step_laws.proofs.Elements.{IsIn, all_at, in_contains}
use Rattle.course_laws.specs.Messages.{ResultFits}
use Rattle.course_laws.proofs.Beats.{Fit}
use Rattle.course_laws.proofs.Made.{Relies, all_of}
use Rattle.course_laws.proofs.Messages.{run_there, new_tables, result_is, result_all, result_lawful, messages_are_lawful}
use Rattle.worker_laws.specs.After.{FitsAfterwards}
use Rattle.worker_laws.specs.FinishReports.{FinishDid}
use Rattle.worker_laws.specs.Messages.{ProgressFits, EndsLive, MessagesKeepFit}
use Rattle.worker_laws.proofs.Attempts.{holds_fewer}
use Rattle.worker_laws.proofs.Finishes.{After, end_fits}
use Rattle.worker_laws.proofs.Progress.{progress_holds}
use Rattle.worker_laws.proofs.Releases.{released}
use Rattle.worker_laws.proofs.Runs.{Left, reported, left_stopped, left_reported, left_ended}
use Rattle.worker_laws.proofs.Tables.{AreUnnoted, IsUnnoted}
use Rattle.rival_laws.proofs.FreeTables.{refused}

-- ---- an attempt that finished

result_unnoted : (who : Caller) (w : LiveWorker) (world : World) (a : Attempt) (result : List (List ℕ)) (each : ResultFits who.merge world w result a) → AreUnnoted w (all_of (new_tables who.merge world w a a.context.ranges result each))
result_unnoted who w world a result each =
    result_all (λ p. IsUnnoted w p.0) who.merge world w a (λ table unused b there noted.
    refused (contains (noted_tables b) table) (all_at (λ (x : Attempt). contains (noted_tables x) table ≡ false) w.attempts b unused.unnoted there) (in_contains (noted_tables b) table noted)) a.context.ranges result each

-- After the end of an attempt with a whole result, the worker fits without it, and it is over.
result_left : (who : Caller) (w : LiveWorker) (moment : ℕ) (a : Attempt) (result : List (List ℕ)) → Relies who w → IsIn a w.attempts → (old new : World) (end : End (StepEnd FinishedJob)) → ResultFits who.merge old w result a → Fit who w old
    → Runs who (end_job moment w a result) old new end → Left who w (λ (report : FinishedJob). report.attempts) (FinishDid who moment w a) new end
result_left who w moment a result r there old new end each fit run =
    let made = new_tables who.merge old w a a.context.ranges result each in
    let lawful = result_lawful who old moment w a result r.keep r.own fit.kept fit.holds there each in
    subst (λ outputs. After who moment w a (end_job moment w a outputs) old new end) (sym (result_is who.merge old w a a.context.ranges result each))
    (λ fit lawful run. end_fits who w moment a made r there (result_unnoted who w old a result each) new end old fit lawful run) fit lawful run

-- What is so where the step reports.
abbrev RunOver : Caller → ℕ → LiveWorker → Option Attempt → World → FinishedJob → Type 0
RunOver who moment w run new report = IfSome run (λ a. FinishDid who moment w a new report)

finished_left : (who : Caller) (w : LiveWorker) (moment job number : ℕ) (result : List (List ℕ)) → Relies who w → (old new : World) (end : End (StepEnd FinishedJob)) → IfSome (attempt_run w job number) (ResultFits who.merge old w result) → Fit who w old
    → Runs who (take_finished moment w job number result) old new end → Left who w (λ (report : FinishedJob). report.attempts) (RunOver who moment w (attempt_run w job number)) new end
unfolding take_finished
finished_left who w moment job number result r old new end fits fit run = at (attempt_run w job number) refl fits run
  where
    at : (o : Option Attempt) → attempt_run w job number ≡ o → IfSome o (ResultFits who.merge old w result) → Runs who (ends_run moment w result o) old new end → Left who w (λ (report : FinishedJob). report.attempts) (RunOver who moment w o) new end
    at None e fits run = left_ended who w (λ (report : FinishedJob). report.attempts) (RunOver who moment w None) NotOwner old new end (λ report e. absurd (cc e)) fit.holds run
    at (Some a) e fits run = result_left who w moment a result r (run_there w job number a e) old new end fits fit run

-- ---- an attempt that failed

abbrev GivenBack : LiveWorker → Option Attempt → World → List Attempt → Type 0
GivenBack w run new attempts = IfSome run (EndsLive new w)

release_left : (who : Caller) (w : LiveWorker) (a : Attempt) → Relies who w → (old new : World) (end : End (StepEnd (List Attempt))) → Fit who w old → IsLawfulCourse who old (release_job w a) → Runs who (release_job w a) old new end
    → Left who w (λ (attempts : List Attempt). attempts) (GivenBack w (Some a)) new end
unfolding release_job
release_left who w a r old new end fit lawful run =
    released (Left who w (λ (attempts : List Attempt). attempts) (GivenBack w (Some a)) new end) who w (a ∷ []) (λ jobs. Ends (Reports (without_attempts (a.job ∷ []) w.attempts))) new end r (record {
      stops = λ x met fit stop. left_stopped who w (λ (attempts : List Attempt). attempts) (GivenBack w (Some a)) x met new end fit.holds stop;
      gives_up = λ seen world fit run. left_ended who w (λ (attempts : List Attempt). attempts) (GivenBack w (Some a)) (GivesUp seen) world new end (λ report e. absurd (cc e)) fit.holds run;
      goes = λ world jobs fit over lawful run. left_reported who w (λ (attempts : List Attempt). attempts) (GivenBack w (Some a)) (without_attempts (a.job ∷ []) w.attempts) world new end fit.holds
          (holds_fewer who.merge world w (λ (b : Attempt). not (contains (a.job ∷ []) b.job)) fit.holds) over.0 run;
    }) most_refused 0 old fit lawful run

failed_left : (who : Caller) (w : LiveWorker) (job number : ℕ) → Relies who w → (old new : World) (end : End (StepEnd (List Attempt))) → Fit who w old → IsLawfulCourse who old (take_failed w job number) → Runs who (take_failed w job number) old new end
    → Left who w (λ (attempts : List Attempt). attempts) (GivenBack w (attempt_run w job number)) new end
unfolding take_failed
failed_left who w job number r old new end fit lawful run = at (attempt_run w job number) lawful run
  where
    at : (o : Option Attempt) → IsLawfulCourse who old (gives_run w o) → Runs who (gives_run w o) old new end → Left who w (λ (attempts : List Attempt). attempts) (GivenBack w o) new end
    at None lawful run = left_ended who w (λ (attempts : List Attempt). attempts) (GivenBack w None) NotOwner old new end (λ report e. absurd (cc e)) fit.holds run
    at (Some a) lawful run = release_left who w a r old new end fit lawful run

-- ---- an attempt that went on

progress_left : (who : Caller) (w : LiveWorker) (job number : ℕ) (context : Context) (old new : World) (end : End (StepEnd (List Attempt))) → Keeps who.merge old → WorkerHolds who.merge old w
    → IfSome (attempt_run w job number) (ProgressFits who.merge old w context) → Runs who (take_progress w job number context) old new end → FitsAfterwards who.merge w (λ (attempts : List Attempt). attempts) new end
unfolding take_progress
progress_left who w job number context old new end kept holds fits run =
    reported who w (λ (attempts : List Attempt). attempts) (notes_run w context (attempt_run w job number)) old new end holds (at (attempt_run w job number) refl fits) run
  where
    at : (o : Option Attempt) → attempt_run w job number ≡ o → IfSome o (ProgressFits who.merge old w context) → WorkerHolds who.merge old (record w { attempts = notes_run w context o })
    at None e fits = holds
    at (Some a) e fits = progress_holds who.merge old w a context kept holds (run_there w job number a e) fits

-- ---- the laws

-- A worker still fits after it takes the message that an attempt finished, failed or went on, if the message fits.
pub messages_keep_fit : MessagesKeepFit
messages_keep_fit = record {
  finished = λ who old moment w job number result keep own kept holds fits. (
    λ new end run. (finished_left who w moment job number result (record { keep = keep; own = own }) old new end fits (record { kept = kept; holds = holds }) run).0,
    λ new report run. (finished_left who w moment job number result (record { keep = keep; own = own }) old new (Gives (Reports report)) fits (record { kept = kept; holds = holds }) run).1,
  );
  failed = λ who old w job number keep own kept holds. (
    λ new end run. (failed_left who w job number (record { keep = keep; own = own }) old new end (record { kept = kept; holds = holds }) (messages_are_lawful.failed who old w job number own) run).0,
    λ new attempts run. (failed_left who w job number (record { keep = keep; own = own }) old new (Gives (Reports attempts)) (record { kept = kept; holds = holds }) (messages_are_lawful.failed who old w job number own) run).1,
  );
  progress = λ who old w job number context kept holds fits new end run. progress_left who w job number context old new end kept holds fits run;
}
