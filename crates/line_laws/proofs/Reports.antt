-- Lines whose reply begins with ok: their step reported.
use Rattle.std.proofs.Common.{◌≡◌, refl, sym, ◌∙◌, ap, subst, ℕ, List, true, Option, Some, None}
use Rattle.row_model.specs.Fold.{Operator}
use Rattle.fleet_model.specs.History.{Party}
use Rattle.fleet_model.specs.Work.Parties.{Parties}
use Rattle.step_model.specs.Past.{World}
use Rattle.step_model.specs.Rivals.{Caller}
use Rattle.step_model.specs.Courses.Course.{Course}
use Rattle.step_model.specs.Courses.CourseRuns.{Gives, Runs}
use Rattle.step_model.specs.Courses.StepEnds.{StepEnd, Reports, GivesUp, Fenced, NotOwner, NoRecords, Invalid, Declined, OperatorRefuses, BadFlush}
use Rattle.step_model.specs.Courses.Alone.{AloneEnd, run_alone}
use Rattle.script_model.specs.States.{State}
use Rattle.script_model.specs.LineRuns.{LineEnd, LineCourse, run_line, end_or_fault, after_line, step_line, step_reply, step_parties, line_end}
use Rattle.script_model.specs.Lines.Settles.{is_ok}
use Rattle.line_laws.specs.Alone.{end_of, HadRoom}
use Rattle.line_laws.specs.States.{StateKeeps}
use Rattle.line_laws.proofs.AloneRuns.{alone_runs}
use Rattle.line_laws.proofs.Lines.{caller_of, world_of}
use Rattle.line_laws.proofs.Steps.{StepEnded, step_ended}

-- ---- replies

-- The end of a step whose reply is ok is a report.
record IsReport {A : Type 0} (end : StepEnd A) : Type 0 where
  pub report : A
  pub is : end ≡ Reports report

reports : {A : Type 0} (spell : A → List ℕ) (end : StepEnd A) → is_ok (step_reply spell end) ≡ true → IsReport end
reports spell (Reports report) e = record { report = report; is = refl }
reports spell (GivesUp seen) e = absurd (cc e)
reports spell (Fenced stored) e = absurd (cc e)
reports spell NotOwner e = absurd (cc e)
reports spell NoRecords e = absurd (cc e)
reports spell Invalid e = absurd (cc e)
reports spell (Declined message) e = absurd (cc e)
reports spell (OperatorRefuses message) e = absurd (cc e)
reports spell (BadFlush fault) e = absurd (cc e)

-- ---- lines

-- The step of a line reported this, from the world before it to the store of the new state. The line
-- printed it, and the new state has the parties that it gives.
pub record StepReported {A : Type 0} (who : Caller) (step : Course (StepEnd A)) (spell : A → List ℕ) (parties : A → Parties) (old : World) (answer : List ℕ) (new : State) : Type 0 where
  pub report : A
  pub printed : answer ≡ spell report
  pub left : World
  pub stored : left.store ≡ new.store
  pub run : Runs who step old left (Gives (Reports report))
  pub live : new.parties ≡ parties report

-- If the reply to a line is ok, its step reported, and the line printed the report and left the report's parties.
pub step_reported : {A : Type 0} (merge : Operator) (number : ℕ) (old : State) (party : Party) (step : Course (StepEnd A)) (spell : A → List ℕ) (parties : A → Parties) (refused struck : Parties) (k : StateKeeps merge old) (answer : List ℕ) (new : State)
    → run_line number old (step_line party step (line_end spell parties refused) struck) ≡ (answer, new) → HadRoom new.store → is_ok answer ≡ true → StepReported (caller_of merge number party) step spell parties (world_of merge old k) answer new
step_reported {A} merge number old party step spell parties refused struck k answer new is room ok =
    let alone = run_alone number party c.course old.fault old.store in
    let store : alone.store ≡ new.store = ap (λ (p : List ℕ × State). p.1.store) is in
    let r = alone_runs who c.course (world_of merge old k) old.fault (subst HadRoom (sym store) room) in
    gave alone alone.answer r.new r.left r.run is
  where
    who : Caller
    who = caller_of merge number party

    c : LineCourse
    c = step_line party step (line_end spell parties refused) struck

    at : (end : LineEnd) (left : World) → end.reply ≡ answer → end.parties ≡ new.parties → left.store ≡ new.store → StepEnded who step (line_end spell parties refused) (world_of merge old k) left end
        → StepReported who step spell parties (world_of merge old k) answer new
    at end left printed live stored ended =
        let same : step_reply spell ended.answer ≡ answer = ap (λ (e : LineEnd). e.reply) ended.is ∙ printed in
        let r = reports spell ended.answer (ap is_ok same ∙ ok) in
        record {
          report = r.report;
          printed = sym same ∙ ap (step_reply spell) r.is;
          left = left;
          stored = stored;
          run = subst (λ (end : StepEnd A). Runs who step (world_of merge old k) left (Gives end)) r.is ended.run;
          live = sym live ∙ sym (ap (λ (e : LineEnd). e.parties) ended.is) ∙ ap (step_parties parties refused) r.is;
        }

    gave : (alone : AloneEnd LineEnd) (o : Option LineEnd) (left : World) → left.store ≡ alone.store → Runs who c.course (world_of merge old k) left (end_of o) → after_line old (end_or_fault c.struck o) alone ≡ (answer, new)
        → StepReported who step spell parties (world_of merge old k) answer new
    gave alone None left stored run is = let same = ap (λ (p : List ℕ × State). p.0) is in absurd (cc (ap is_ok same ∙ ok))
    gave alone (Some end) left stored run is =
        at end left (ap (λ (p : List ℕ × State). p.0) is) (ap (λ (p : List ℕ × State). p.1.parties) is) (stored ∙ ap (λ (p : List ℕ × State). p.1.store) is)
        (step_ended who step (line_end spell parties refused) (world_of merge old k) left end run)
