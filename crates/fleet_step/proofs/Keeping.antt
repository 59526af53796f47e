-- A step that is a lawful course keeps the fleet's invariant, however it ends.
use Rattle.std.proofs.Common.{◌≡◌, subst, sym, Option, Some, None, Result}
use Rattle.row_model.specs.Fold.{IsLawful}
use Rattle.step_model.specs.Rivals.{Caller}
use Rattle.step_model.specs.Kept.Keeps.{Keeps}
use Rattle.step_model.specs.Views.{StoreView}
use Rattle.step_model.specs.Courses.Course.{Course}
use Rattle.step_model.specs.Courses.CourseRuns.{End, IsLawfulCourse}
use Rattle.step_model.specs.LawfulRecords.{OfSome}
use Rattle.step_model.specs.Courses.StepEnds.{StepEnd}
use Rattle.step_laws.proofs.RanLaws.{ran_runs}
use Rattle.step_laws.proofs.Runs.{runs_keep}
use Rattle.commit_laws.proofs.AllCalls.{calls_keep}
use Rattle.fleet_rows.specs.declared.errors.SlateDBError.{SlateDBError}
use Rattle.fleet_step.specs.Steps.{RunsTo, StepRan, end_of}

module _ {A : Type 0} (course : Course A) (old new : StoreView) (lawful : IsLawful old.who.merge) (kept : Keeps old.who.merge old.world) (calls : IsLawfulCourse old.who old.world course) where
  run_keeps : (end : End A) → RunsTo course old new end → Keeps new.who.merge new.world
  run_keeps end runs =
      subst (λ (who : Caller). Keeps who.merge new.world) (sym runs.same.who)
      (runs_keep old.who course (calls_keep old.who.merge lawful) old.world new.world end kept calls (ran_runs old.who course old.world new.world old.waits new.waits end runs.ran))

  pub some_keeps : (end : Option (End A)) → OfSome (RunsTo course old new) end → Keeps new.who.merge new.world
  some_keeps None runs = absurd runs
  some_keeps (Some end) runs = run_keeps end runs

pub step_keeps : {A B : Type 0} (ends : A → StepEnd B) (course : Course (StepEnd B)) (old new : StoreView) (result : Result A SlateDBError) → IsLawful old.who.merge → Keeps old.who.merge old.world → IsLawfulCourse old.who old.world course
    → StepRan ends course old new result → Keeps new.who.merge new.world
step_keeps ends course old new result lawful kept calls ran = some_keeps course old new lawful kept calls (end_of ends result) ran.to_end
