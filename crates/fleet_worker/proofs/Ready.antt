-- A worker is ready after its steps.
use Rattle.std.proofs.Common.{◌≡◌, refl, sym, ◌∙◌, ap, subst, ℕ, map, List, Bool, true, false, Option, Some, None, Result, Ok, Err}
use Rattle.std.specs.Bool.{OnFalse}
use Rattle.row_model.specs.Fold.{IsLawful}
use Rattle.fleet_model.specs.History.{Worker}
use Rattle.fleet_model.specs.Work.Parties.{Attempt, LiveWorker}
use Rattle.step_model.specs.Rivals.{Caller}
use Rattle.step_model.specs.Kept.Keeps.{Keeps}
use Rattle.step_model.specs.Fits.{WorkerHolds}
use Rattle.step_model.specs.Courses.Course.{Course}
use Rattle.step_model.specs.Courses.CourseRuns.{End, Gives, LacksMemory, IsLawfulCourse}
use Rattle.step_model.specs.LawfulRecords.{OfSome}
use Rattle.step_model.specs.Courses.StepEnds.{StepEnd, Reports, GivesUp, NotOwner, NoRecords, Invalid, Declined, OperatorRefuses}
use Rattle.step_laws.proofs.Runs.{runs_keep}
use Rattle.commit_laws.proofs.AllCalls.{calls_keep}
use Rattle.worker_laws.specs.After.{FitsAfter, FitsAfterwards}
use Rattle.fleet_rows.specs.declared.errors.SlateDBError.{SlateDBError}
use Rattle.fleet_rows.specs.declared.errors.SlateDBError.TheVariants as error
use Rattle.fleet_rows.specs.declared.errors.MergeOperatorError.TheVariants as merge_error
use Rattle.step_model.specs.Views.{StoreView}
use Rattle.fleet_step.specs.Steps.{Leads, RunsTo, StepRan, end_of, stops}
use Rattle.fleet_worker.specs.Workers.{AreNoted, AttemptParts, IsReady, IsReadyAnywhere, MayStep, WorkerParts, attempt_of, live_of, started_worker}
use Rattle.fleet_worker.proofs.Later.{runs_later, still_noted}
use Rattle.worker_laws.proofs.Fewer.{idle_workers_fit}
use Rattle.fleet_jobs.specs.Workers.{release_of}
use Rattle.fleet_jobs.specs.declared.release.Release.{Release}
use Rattle.step_model.specs.Later.{IsLater}
use Rattle.fleet_model.specs.Store.{Store}
use Rattle.step_laws.proofs.RanLaws.{ran_runs}
use Rattle.fleet_step.proofs.Steps.{lacks, then_runs}

-- The course is lawful for the worker, and the worker fits after each of its runs.
pub record IsSafe {A : Type 0} (view : StoreView) (w : LiveWorker) (attempts : A → List Attempt) (course : Course (StepEnd A)) : Type 0 where
  pub lawful : IsLawfulCourse view.who view.world course
  pub fits : FitsAfter view.who w attempts view.world course

-- The worker after a step: with the attempts that the answer tells, if there is one.
abbrev pub worker_after : {A : Type 0} → (A → List Attempt) → LiveWorker → Result A SlateDBError → LiveWorker
worker_after attempts w (Ok answer) = record w { attempts = attempts answer }
worker_after attempts w (Err error) = w

module _ {A : Type 0} (old new : StoreView) (w : LiveWorker) (attempts : A → List Attempt) (course : Course (StepEnd A)) (merges : IsLawful old.who.merge) (may : MayStep old w) (safe : IsSafe old w attempts course) where
  keeps_on : (end : End (StepEnd A)) → RunsTo course old new end → Keeps old.who.merge new.world
  keeps_on end runs = runs_keep old.who course (calls_keep old.who.merge merges) old.world new.world end may.keeps safe.lawful (ran_runs old.who course old.world new.world old.waits new.waits end runs.ran)

  may_go_on : (next : LiveWorker) (end : End (StepEnd A)) → next.number ≡ w.number → RunsTo course old new end → WorkerHolds old.who.merge new.world next → MayStep new next
  may_go_on next end same runs holds = record {
    party = ap (λ (who : Caller). who.party) runs.same.who ∙ (may.party ∙ ap Worker (sym same));
    keeps = subst (λ (who : Caller). Keeps who.merge new.world) (sym runs.same.who) (keeps_on end runs);
    holds = subst (λ (who : Caller). WorkerHolds who.merge new.world next) (sym runs.same.who) holds;
  }

  -- A step reported.
  reported : (report : A) → RunsTo course old new (Gives (Reports report)) → MayStep new (record w { attempts = attempts report })
  reported report runs =
      may_go_on (record w { attempts = attempts report }) (Gives (Reports report)) refl runs
      (safe.fits new.world (Gives (Reports report)) (ran_runs old.who course old.world new.world old.waits new.waits _ runs.ran))

  -- A step ended otherwise, and left the worker as it was.
  other : (answer : StepEnd A) → (FitsAfterwards old.who.merge w attempts new.world (Gives answer) → WorkerHolds old.who.merge new.world w) → RunsTo course old new (Gives answer) → MayStep new w
  other answer same runs =
      may_go_on w (Gives answer) refl runs (same (safe.fits new.world (Gives answer) (ran_runs old.who course old.world new.world old.waits new.waits _ runs.ran)))

  -- Memory ran out.
  lacked : RunsTo course old new LacksMemory → MayStep new w
  lacked runs = may_go_on w LacksMemory refl runs (safe.fits new.world LacksMemory (ran_runs old.who course old.world new.world old.waits new.waits _ runs.ran))

  -- The worker is in the midst of the step. Memory could run out here.
  midway : (rest : Course (StepEnd A)) → Leads course old rest new → MayStep new w
  midway rest lead = lacked (then_runs lead (lacks rest new))

-- ---- ready workers

-- A worker that is ready for a step is ready in the midst of it.
pub ready_midway : {A : Type 0} (old new : StoreView) (w : WorkerParts) (attempts : A → List Attempt) (course rest : Course (StepEnd A)) → IsLawful old.who.merge → IsReady old w → IsSafe old (live_of w) attempts course
    → Leads course old rest new → IsReady new w
ready_midway old new w attempts course rest merges ready safe lead = record {
  may = midway old new (live_of w) attempts course merges ready.may safe rest lead;
  noted = still_noted old.world.store new.world.store w.attempts lead.later ready.noted;
}

-- The store is later after a step that tells its end.
pub step_later : {A B : Type 0} (ends : A → StepEnd B) (old new : StoreView) (course : Course (StepEnd B)) (result : Result A SlateDBError) → StepRan ends course old new result → IsLater old.world.store new.world.store
step_later {B = B} ends old new course result ran = by (end_of ends result) ran.to_end
  where
    by : (end : Option (End (StepEnd B))) → OfSome (RunsTo course old new) end → IsLater old.world.store new.world.store
    by None runs = absurd runs
    by (Some end) runs = runs_later course old new end runs

-- A worker may make a step after its step, with the attempts of the report if it reports, unless the step stops it.
may_after : {A B : Type 0} (report : A → B) (attempts : B → List Attempt) (old new : StoreView) (w : LiveWorker) (course : Course (StepEnd B)) → IsLawful old.who.merge → MayStep old w → IsSafe old w attempts course
    → (result : Result A SlateDBError) → StepRan (λ answer. Reports (report answer)) course old new result → stops result ≡ false → MayStep new (worker_after (λ answer. attempts (report answer)) w result)
may_after {A = A} {B = B} report attempts old new w course merges may safe result ran e = by result e ran.to_end
  where
    ended : (answer : StepEnd B) → (FitsAfterwards old.who.merge w attempts new.world (Gives answer) → WorkerHolds old.who.merge new.world w) → RunsTo course old new (Gives answer) → MayStep new w
    ended answer same runs = other old new w attempts course merges may safe answer same runs

    by : (result : Result A SlateDBError) → stops result ≡ false → OfSome (RunsTo course old new) (end_of (λ answer. Reports (report answer)) result) → MayStep new (worker_after (λ answer. attempts (report answer)) w result)
    by (Ok answer) e runs = reported old new w attempts course merges may safe (report answer) runs
    by (Err error.StoreFault) e runs = absurd (cc e)
    by (Err error.Memory) e runs = lacked old new w attempts course merges may safe runs
    by (Err (error.Conflict seen)) e runs = ended (GivesUp seen) (λ holds. holds) runs
    by (Err (error.Fenced stored)) e runs = absurd (cc e)
    by (Err error.NotOwner) e runs = ended NotOwner (λ holds. holds) runs
    by (Err error.InvalidDBState) e runs = ended NoRecords (λ holds. holds) runs
    by (Err error.InvalidCompaction) e runs = ended Invalid (λ holds. holds) runs
    by (Err (error.Generate message)) e runs = ended (Declined message) (λ holds. holds) runs
    by (Err (error.MergeOperator (merge_error.Callback message))) e runs = ended (OperatorRefuses message) (λ holds. holds) runs
    by (Err (error.MergeOperator merge_error.EmptyBatch)) e runs = absurd runs
    by (Err (error.MergeOperator merge_error.Memory)) e runs = absurd runs
    by (Err error.IteratorNotInitialized) e runs = absurd runs
    by (Err error.IteratorFailed) e runs = absurd runs
    by (Err error.MergeOperatorMissing) e runs = absurd runs
    by (Err (error.InvalidSequenceOrder current after)) e runs = absurd runs
    by (Err (error.CompactionFilter cause)) e runs = absurd runs

-- A worker is ready after its step, unless the step stops it. `next` are the attempts that it then runs: those of
-- the report, or the same as before. What they have noted is described.
pub ready_with : {A B : Type 0} (report : A → B) (attempts : B → List Attempt) (old new : StoreView) (w : WorkerParts) (course : Course (StepEnd B)) → IsLawful old.who.merge → IsReady old w → IsSafe old (live_of w) attempts course
    → (result : Result A SlateDBError) → StepRan (λ answer. Reports (report answer)) course old new result → (stopped : Bool) → stopped ≡ stops result
    → (next : List AttemptParts) → record (live_of w) { attempts = map attempt_of next } ≡ worker_after (λ answer. attempts (report answer)) (live_of w) result → AreNoted next new.world.store
    → OnFalse stopped (IsReady new (record w { attempts = next; stopped = stopped }))
ready_with report attempts old new w course merges ready safe result ran true e next same noted = tt
ready_with report attempts old new w course merges ready safe result ran false e next same noted = record {
  may = subst (MayStep new) (sym same) (may_after report attempts old new (live_of w) course merges ready.may safe result ran (sym e));
  noted = noted;
}

-- What a worker has noted is described after its step.
pub noted_after : {A B : Type 0} (ends : A → StepEnd B) (old new : StoreView) (w : WorkerParts) (course : Course (StepEnd B)) (result : Result A SlateDBError) → StepRan ends course old new result → IsReady old w → AreNoted w.attempts new.world.store
noted_after ends old new w course result ran ready = still_noted old.world.store new.world.store w.attempts (step_later ends old new course result ran) ready.noted

-- The same for a worker that runs no attempt that it did not run before.
pub ready_after : {A B : Type 0} (report : A → B) (attempts : B → List Attempt) (old new : StoreView) (w : WorkerParts) (course : Course (StepEnd B)) → IsLawful old.who.merge → IsReady old w → IsSafe old (live_of w) attempts course
    → (result : Result A SlateDBError) → StepRan (λ answer. Reports (report answer)) course old new result → (stopped : Bool) → stopped ≡ stops result
    → (next : List AttemptParts) → record (live_of w) { attempts = map attempt_of next } ≡ worker_after (λ answer. attempts (report answer)) (live_of w) result → ((store : Store) → AreNoted w.attempts store → AreNoted next store)
    → OnFalse stopped (IsReady new (record w { attempts = next; stopped = stopped }))
ready_after report attempts old new w course merges ready safe result ran stopped e next same noted =
    ready_with report attempts old new w course merges ready safe result ran stopped e next same (noted new.world.store (noted_after (λ answer. Reports (report answer)) old new w course result ran ready))

-- A worker that runs nothing is ready anywhere.
pub idle_ready : (number : ℕ) (release : Release) → IsReadyAnywhere (started_worker number release)
idle_ready number release view party keeps = record {
  may = record { party = party; keeps = keeps; holds = idle_workers_fit view.who.merge view.world number (release_of release) };
  noted = tt;
}
