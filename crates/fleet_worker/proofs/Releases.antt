-- The turns of a release.
use Rattle.std.proofs.Common.{◌≡◌, refl, sym, ◌∙◌, ap, subst, ℕ, zero, suc, true, cond, map, List, [], ◌∷◌, Result, Ok, Err}
use Rattle.fleet_rows.specs.declared.errors.SlateDBError.{SlateDBError}
use Rattle.row_model.specs.Fold.{IsLawful}
use Rattle.fleet_model.specs.Work.Gates.{is_nonempty}
use Rattle.fleet_model.specs.Work.Parties.{LiveWorker}
use Rattle.step_model.specs.Steps.BeatSteps.{release_all}
use Rattle.step_model.specs.Courses.CourseRuns.{IsLawfulCourse}
use Rattle.step_model.specs.Courses.StepEnds.{Reports, most_refused}
use Rattle.step_model.specs.Courses.Tries.{tries}
use Rattle.commit_laws.proofs.AllCalls.{calls_keep}
use Rattle.course_laws.proofs.Releases.{releases, releases_are_lawful}
use Rattle.worker_laws.proofs.Releases.{releases_keep_fit}
use Rattle.step_model.specs.Views.{StoreView}
use Rattle.std.specs.Bool.{OnFalse}
use Rattle.fleet_worker.specs.Releases.{is_over, one_release, released_are}
use Rattle.fleet_step.specs.Steps.{Leads, StepRan, stops}
use Rattle.fleet_worker.specs.Workers.{AttemptParts, IsReady, MayStep, WorkerParts, attempt_of, live_of}
use Rattle.fleet_worker.proofs.Ready.{IsSafe, worker_after}
use Rattle.fleet_step.proofs.Steps.{begins, reports}

-- ---- all tries

-- A worker without attempts calls nothing.
pub runs_nothing : (w : WorkerParts) (view : StoreView) (answer : List ℕ) → w.attempts ≡ [] → answer ≡ [] → StepRan Reports (release_all (live_of w)) view view (Ok answer)
unfolding release_all
runs_nothing w view answer none is =
    reports Reports (release_all (live_of w)) view answer
    (ap (λ attempts. cond (is_nonempty (map attempt_of attempts)) (tries (one_release (live_of w)) most_refused 0) (released_are [])) none ∙ ap released_are (sym is))

some_attempts : (attempts : List AttemptParts) → (attempts ≡ [] → ⊥) → is_nonempty (map attempt_of attempts) ≡ true
some_attempts [] some = absurd (some refl)
some_attempts (a ∷ attempts) some = refl

-- The first try.
pub first_try : (w : WorkerParts) (view : StoreView) → (w.attempts ≡ [] → ⊥) → Leads (release_all (live_of w)) view (tries (one_release (live_of w)) 64 0) view
unfolding release_all
first_try w view some =
    subst (λ b. Leads (cond b (tries (one_release (live_of w)) most_refused 0) (released_are [])) view (tries (one_release (live_of w)) 64 0) view)
    (sym (some_attempts w.attempts some)) (begins _ view)

-- A release is safe for a worker that may make a step.
pub release_safe : (view : StoreView) (w : LiveWorker) → IsLawful view.who.merge → MayStep view w → IsSafe view w (λ (jobs : List ℕ). w.attempts) (release_all w)
release_safe view w merges may = record {
  lawful = releases_are_lawful view.who view.world w may.party;
  fits = (releases_keep_fit view.who view.world w (calls_keep view.who.merge merges) may.party may.keeps may.holds).0;
}

-- One try is a lawful course.
pub try_lawful : (view : StoreView) (w : LiveWorker) → MayStep view w → IsLawfulCourse view.who view.world (one_release w (tries (one_release w) zero))
try_lawful view w may = releases view.who w w.attempts released_are may.party (λ world jobs. tt) (suc zero) 0 view.world

-- A release leaves the attempts that the worker runs.
pub same_after : (w : WorkerParts) (result : Result (List ℕ) SlateDBError) → live_of w ≡ worker_after (λ jobs. (live_of w).attempts) (live_of w) result
same_after w (Ok jobs) = refl
same_after w (Err error) = refl

-- A worker that is ready unless the release stops it is ready unless it is over.
pub ready_unless_over : (view : StoreView) (w : WorkerParts) (result : Result (List ℕ) SlateDBError) → OnFalse (stops result) (IsReady view (record w { stopped = stops result }))
    → OnFalse (is_over result) (IsReady view (record w { stopped = is_over result }))
ready_unless_over view w (Ok jobs) ready = tt
ready_unless_over view w (Err error) ready = ready
