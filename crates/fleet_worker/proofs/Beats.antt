-- The turns of a heartbeat.
use Rattle.std.proofs.Common.{◌≡◌, ◌≢◌, refl, ap, subst, ℕ, true, cond, map, List, [], ◌∷◌, None, Ok}
use Rattle.row_model.specs.Fold.{IsLawful}
use Rattle.fleet_model.specs.Work.Gates.{is_nonempty}
use Rattle.fleet_model.specs.Work.Parties.{LiveWorker}
use Rattle.step_model.specs.Steps.BeatSteps.{Beaten, beat_report, beat_try, heartbeat}
use Rattle.step_model.specs.Courses.Tries.{tries}
use Rattle.step_model.specs.Courses.Course.{Ends}
use Rattle.step_model.specs.Courses.CourseRuns.{IsLawfulCourse}
use Rattle.step_model.specs.Courses.StepEnds.{Reports, most_refused}
use Rattle.commit_laws.proofs.AllCalls.{calls_keep}
use Rattle.course_laws.proofs.Beats.{beats_are_lawful}
use Rattle.worker_laws.proofs.Beats.{beats_keep_fit}
use Rattle.fleet_worker.specs.declared.beat.BeatReport.{BeatReport}
use Rattle.fleet_worker.specs.Beats.{beat_ends_over}
use Rattle.fleet_step.specs.Steps.{Leads, StepRan}
use Rattle.step_model.specs.Views.{StoreView}
use Rattle.fleet_worker.specs.Workers.{AttemptParts, MayStep, WorkerParts, attempt_of, live_of}
use Rattle.fleet_worker.proofs.Ready.{IsSafe}
use Rattle.fleet_step.proofs.Steps.{begins, reports}

some_attempts : (attempts : List AttemptParts) → attempts ≢ [] → is_nonempty (map attempt_of attempts) ≡ true
some_attempts [] some = absurd (some refl)
some_attempts (a ∷ attempts) some = refl

-- The heartbeat of a worker with attempts is its tries.
is_tries : (moment : ℕ) (w : WorkerParts) → w.attempts ≢ [] → heartbeat moment (live_of w) ≡ tries (beat_try moment (live_of w)) 64 0
unfolding heartbeat
is_tries moment w some = ap (λ b. cond b (tries (beat_try moment (live_of w)) most_refused 0) (Ends (Reports (beat_report (live_of w) [])))) (some_attempts w.attempts some)

pub first_beat : (moment : ℕ) (w : WorkerParts) (view : StoreView) → w.attempts ≢ [] → Leads (heartbeat moment (live_of w)) view (tries (beat_try moment (live_of w)) 64 0) view
first_beat moment w view some = subst (λ course. Leads (heartbeat moment (live_of w)) view course view) (is_tries moment w some) (begins (heartbeat moment (live_of w)) view)

-- A worker without attempts calls nothing.
pub beats_nothing : (moment : ℕ) (w : WorkerParts) (view : StoreView) (report : BeatReport) → w.attempts ≡ [] → report ≡ record { beat = []; not_owner = [] } → StepRan (beat_ends_over w) (heartbeat moment (live_of w)) view view (Ok (report, None))
unfolding heartbeat
beats_nothing moment w view report none is = reports (beat_ends_over w) (heartbeat moment (live_of w)) view (report, None) (rw is (by w.attempts none))
  where
    by : (attempts : List AttemptParts) → attempts ≡ []
        → heartbeat moment (live_of (record w { attempts = attempts })) ≡ Ends (beat_ends_over (record w { attempts = attempts }) (record { beat = []; not_owner = [] }, None))
    by [] e = refl
    by (a ∷ attempts) e = absurd (cc e)

-- A heartbeat is safe for a worker that may make a step.
pub beat_safe : (view : StoreView) (moment : ℕ) (w : LiveWorker) → IsLawful view.who.merge → MayStep view w → IsSafe view w (λ (report : Beaten). report.attempts) (heartbeat moment w)
beat_safe view moment w merges may = record {
  lawful = beats_are_lawful view.who view.world moment w (calls_keep view.who.merge merges) may.party may.keeps may.holds;
  fits = (beats_keep_fit view.who view.world moment w (calls_keep view.who.merge merges) may.party may.keeps may.holds).0;
}

-- One try is a lawful course.
pub try_lawful : (view : StoreView) (moment : ℕ) (w : WorkerParts) → IsLawful view.who.merge → MayStep view (live_of w) → w.attempts ≢ [] → IsLawfulCourse view.who view.world (beat_try moment (live_of w) (tries (beat_try moment (live_of w)) 63))
try_lawful view moment w merges may some = subst (IsLawfulCourse view.who view.world) (is_tries moment w some) (beat_safe view moment (live_of w) merges may).lawful
