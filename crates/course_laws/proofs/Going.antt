-- A run that gives an answer, call by call.
use Rattle.std.proofs.Common.{inl, inr, None}
use Rattle.fleet_model.specs.Store.{Store}
use Rattle.fleet_model.specs.Exchanges.{Exchange}
use Rattle.step_model.specs.Past.{World}
use Rattle.step_model.specs.Lawful.{Lawful}
use Rattle.step_model.specs.Rivals.{Caller, Rivals, after_call}
use Rattle.step_model.specs.Kept.Keeps.{Keeps}
use Rattle.step_model.specs.Courses.Course.{Course, Calls}
use Rattle.step_model.specs.Courses.CourseRuns.{Gives, HasRoom, Runs, IsLawfulCourse}
use Rattle.step_laws.specs.Runs.{CallsKeep}
use Rattle.step_laws.proofs.Runs.{rivals_keep}
use Rattle.course_laws.proofs.Calls.{keeps_after}

-- The run of a lawful course, from one world to the last one, gives this answer.
pub record Going {A : Type 0} (who : Caller) (course : Course A) (world last : World) (answer : A) : Type 0 where
  pub kept : Keeps who.merge world
  pub lawful : IsLawfulCourse who world course
  pub run : Runs who course world last (Gives answer)

-- The call is lawful at the world that it meets, and the run goes on after it.
pub record Gone {A : Type 0} (who : Caller) (x : Exchange) (next : Store → Course A) (world last : World) (answer : A) : Type 0 where
  pub met : World
  pub rivals : Rivals who world met
  pub kept : Keeps who.merge met
  pub room : HasRoom met x
  pub call : Lawful who.merge who.party met x
  pub going : Going who (next met.store) (after_call who.line who.party x None met) last answer

pub goes : {A : Type 0} (who : Caller) (x : Exchange) (next : Store → Course A) (world last : World) (answer : A) → CallsKeep who.merge → Going who (Calls x next) world last answer → Gone who x next world last answer
goes {A} who x next world last answer keep going = by going.run
  where
    by : Runs who (Calls x next) world last (Gives answer) → Gone who x next world last answer
    by (met, (rivals, inl stops)) = absurd stops
    by (met, (rivals, inr (room, run))) =
        let here = going.lawful met rivals room in
        let kept = rivals_keep who world met keep going.kept rivals in
        record { met = met; rivals = rivals; kept = kept; room = room; call = here.0; going = record { kept = keeps_after who x met keep kept here.0; lawful = here.1; run = run } }
