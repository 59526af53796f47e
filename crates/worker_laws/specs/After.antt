-- What a worker holds after a step.
use Rattle.std.specs.Prelude.{List, ⊤}
use Rattle.row_model.specs.Fold.{Operator}
use Rattle.fleet_model.specs.Work.Parties.{Attempt, LiveWorker}
use Rattle.step_model.specs.Past.{World}
use Rattle.step_model.specs.Rivals.{Caller}
use Rattle.step_model.specs.Fits.{WorkerHolds}
use Rattle.step_model.specs.Courses.Course.{Course}
use Rattle.step_model.specs.Courses.CourseRuns.{End, Gives, MeetsFault, LacksMemory, Runs}
use Rattle.step_model.specs.Courses.StepEnds.{StepEnd, Reports}

-- The worker fits the store after a step that ended so. If the step reports, the worker fits with
-- the attempts of the report. If it ends otherwise, or memory runs out, the worker fits with those
-- that it ran before. A worker whose call met a fault runs nothing any more.
abbrev pub FitsAfterwards : {A : Type 0} → (merge : Operator) (w : LiveWorker) (attempts : A → List Attempt)
    (new : World) (end : End (StepEnd A)) → Type 0
FitsAfterwards merge w attempts new (Gives (Reports report)) =
    WorkerHolds merge new (record w { attempts = attempts report })
FitsAfterwards merge w attempts new (Gives answer) = WorkerHolds merge new w
FitsAfterwards merge w attempts new MeetsFault = ⊤
FitsAfterwards merge w attempts new LacksMemory = WorkerHolds merge new w

-- The worker fits after each run of the course, whatever calls of others come in between.
abbrev pub FitsAfter : {A : Type 0} → (who : Caller) (w : LiveWorker) (attempts : A → List Attempt) (old : World)
    (course : Course (StepEnd A)) → Type 0
FitsAfter {A} who w attempts old course = (new : World) (end : End (StepEnd A)) → Runs who course old new end
    → FitsAfterwards who.merge w attempts new end
