-- Lines that do one step: how they end, and what they leave if no party changes.
use Rattle.std.proofs.Common.{◌≡◌, refl, sym, ◌∙◌, ap, subst, ℕ, List, true, false}
use Rattle.std.specs.Prelude.{⊤}
use Rattle.row_model.specs.Fold.{Operator, IsLawful}
use Rattle.fleet_model.specs.History.{Party, Writer}
use Rattle.fleet_model.specs.Work.Parties.{Parties, LiveWorker}
use Rattle.step_model.specs.Past.{World}
use Rattle.step_model.specs.Entries.{party_eq}
use Rattle.step_model.specs.Rivals.{Caller}
use Rattle.step_model.specs.Kept.Keeps.{Keeps}
use Rattle.step_model.specs.Courses.Course.{Course, Ends, then_course}
use Rattle.step_model.specs.Courses.CourseRuns.{End, Gives, MeetsFault, LacksMemory, Runs, IsLawfulCourse}
use Rattle.step_model.specs.Courses.StepEnds.{StepEnd, Reports}
use Rattle.commit_laws.proofs.AllCalls.{calls_keep}
use Rattle.course_laws.proofs.Sweeps.{NonePending}
use Rattle.script_model.specs.States.{State}
use Rattle.script_model.specs.LineRuns.{LineEnd, run_line, step_line, line_end, step_parties}
use Rattle.line_laws.specs.Alone.{HadRoom}
use Rattle.line_laws.specs.States.{FleetKeeps, StateKeeps}
use Rattle.line_laws.proofs.Courses.{Split, split, all_calls, runs_hold, then_lawful}
use Rattle.line_laws.proofs.Others.{none_pending_holds}
use Rattle.line_laws.proofs.Lines.{caller_of, world_of, IsOther, Spares, line_keeps, all_stay}

-- No flush is to come after a run of another party than the writer.
pub none_comes : {A : Type 0} (who : Caller) (course : Course A) (old new : World) (end : End A) → IsLawful who.merge → who.alone ≡ true → party_eq Writer who.party ≡ false → Keeps who.merge old → IsLawfulCourse who old course → NonePending old.store
    → Runs who course old new end → NonePending new.store
none_comes who course old new end merge_lawful alone other kept lawful none run =
    runs_hold who (λ x. ⊤) (λ world. NonePending world.store) course alone (calls_keep who.merge merge_lawful) (none_pending_holds who other) (all_calls (λ x. ⊤) (λ x. tt) course) old new end kept lawful run none

-- ---- ends

-- The run made all calls of its course, or a fault struck one.
abbrev pub HasEnded : {A : Type 0} → End A → Type 0
HasEnded (Gives answer) = ⊤
HasEnded MeetsFault = ⊤
HasEnded LacksMemory = ⊥

-- A line that does a step ended by the end of the step.
pub record StepEnded {A : Type 0} (who : Caller) (step : Course A) (ends : A → LineEnd) (old new : World) (end : LineEnd) : Type 0 where
  pub answer : A
  pub run : Runs who step old new (Gives answer)
  pub is : ends answer ≡ end

pub step_ended : {A : Type 0} (who : Caller) (step : Course A) (ends : A → LineEnd) (old new : World) (end : LineEnd) → Runs who (then_course step (λ answer. Ends (ends answer))) old new (Gives end) → StepEnded who step ends old new end
step_ended {A} who step ends old new end run = by (split who step (λ answer. Ends (ends answer)) old new end run)
  where
    by : Split who step (λ answer. Ends (ends answer)) old new end → StepEnded who step ends old new end
    by s = record { answer = s.answer; run = subst (λ mid. Runs who step old mid (Gives s.answer)) s.second.0 s.first; is = s.second.1 }

pub step_lawful : {A : Type 0} (who : Caller) (step : Course A) (ends : A → LineEnd) (world : World) → IsLawfulCourse who world step → IsLawfulCourse who world (then_course step (λ answer. Ends (ends answer)))
step_lawful who step ends world lawful = then_lawful who step (λ answer. Ends (ends answer)) world lawful (λ answer new. tt)

-- The parties after a step are these, whether it reports or not.
pub same_either : {A : Type 0} (parties : Parties) (end : StepEnd A) → step_parties (λ (report : A). parties) parties end ≡ parties
same_either parties (Reports report) = refl
same_either parties end = refl

-- ---- lines after which the same parties are live

-- The caller is no worker, and the fleet has the same parties however the step ends.
pub stays_line : {A : Type 0} (merge : Operator) (number : ℕ) (s : State) (party : Party) (step : Course (StepEnd A)) (spell : A → List ℕ) (k : StateKeeps merge s) → IsLawful merge → ((w : LiveWorker) → IsOther party w)
    → IsLawfulCourse (caller_of merge number party) (world_of merge s k) step
    → ((course : Course LineEnd) → Spares party s.parties course)
    → ((new : World) (end : End LineEnd) → Runs (caller_of merge number party) (then_course step (λ end. Ends (line_end spell (λ report. s.parties) s.parties end))) (world_of merge s k) new end → HasEnded end → NonePending new.store)
    → let c = step_line party step (line_end spell (λ report. s.parties) s.parties) s.parties in HadRoom (run_line number s c).1.store → StateKeeps merge (run_line number s c).1
stays_line {A} merge number s party step spell k merge_lawful other lawful spares none room =
    line_keeps merge number s (step_line party step (line_end spell (λ report. s.parties) s.parties) s.parties) k merge_lawful
    (step_lawful who step (line_end spell (λ report. s.parties) s.parties) (world_of merge s k) lawful) (spares _) (record {
      struck = λ new run left. all_stay merge number party (world_of merge s k) new s.parties other k.fleet left (none new MeetsFault run tt);
      gives = λ new end run left.
          let ended = step_ended who step (line_end spell (λ report. s.parties) s.parties) (world_of merge s k) new end run in
          subst (FleetKeeps merge new) (sym (same_either s.parties ended.answer) ∙ ap (λ (e : LineEnd). e.parties) ended.is)
          (all_stay merge number party (world_of merge s k) new s.parties other k.fleet left (none new (Gives end) run tt));
    }) room
  where
    who : Caller
    who = caller_of merge number party
