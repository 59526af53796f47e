-- A run of a worker's step, call by call.
use Rattle.std.specs.Prelude.{⊤}
use Rattle.std.proofs.Common.{◌≡◌, subst, List, inl, inr, ◌⊎◌, None}
use Rattle.fleet_model.specs.Store.{Store}
use Rattle.fleet_model.specs.Work.Parties.{Attempt, LiveWorker}
use Rattle.fleet_model.specs.Exchanges.{Exchange}
use Rattle.step_model.specs.Past.{World}
use Rattle.step_model.specs.Lawful.{Lawful}
use Rattle.step_model.specs.Rivals.{Caller, Rivals, after_call}
use Rattle.step_model.specs.Kept.Keeps.{Keeps}
use Rattle.step_model.specs.Fits.{WorkerHolds}
use Rattle.step_model.specs.Courses.Course.{Course, Ends, Calls}
use Rattle.step_model.specs.Courses.CourseRuns.{End, Gives, MeetsFault, LacksMemory, HasRoom, StopsAt, Runs, IsLawfulCourse}
use Rattle.step_model.specs.Courses.StepEnds.{StepEnd, Reports}
use Rattle.course_laws.proofs.Calls.{keeps_after}
use Rattle.course_laws.proofs.OwnCalls.{rivals_keep_worker}
use Rattle.course_laws.proofs.Beats.{Fit, fit_met}
use Rattle.course_laws.proofs.Made.{Relies}
use Rattle.worker_laws.specs.After.{FitsAfterwards}

-- Where a run stops, the worker fits with the attempts that it ran.
pub stopped : {A : Type 0} (who : Caller) (w : LiveWorker) (attempts : A → List Attempt) (x : Exchange) (met new : World) (end : End (StepEnd A)) → WorkerHolds who.merge met w → StopsAt who x met new end → FitsAfterwards who.merge w attempts new end
stopped who w attempts x met new (Gives answer) h stops = absurd stops
stopped who w attempts x met new MeetsFault h stops = tt
stopped who w attempts x met new LacksMemory h stops = subst (λ world. WorkerHolds who.merge world w) stops h

-- What a call of a run has before and after it.
pub record Made {A : Type 0} (who : Caller) (w : LiveWorker) (x : Exchange) (next : Store → Course (StepEnd A)) (old new : World) (end : End (StepEnd A)) : Type 0 where
  pub met : World
  pub rivals : Rivals who old met
  pub room : HasRoom met x
  pub fit : Fit who w met
  pub lawful : Lawful who.merge who.party met x
  pub kept : Keeps who.merge (after_call who.line who.party x None met)
  pub further : IsLawfulCourse who (after_call who.line who.party x None met) (next met.store)
  pub run : Runs who (next met.store) (after_call who.line who.party x None met) new end

-- A run that begins with a call of a lawful course stops there, or goes on after the call.
pub call_by : {A : Type 0} (R : Type 0) (who : Caller) (w : LiveWorker) (x : Exchange) (next : Store → Course (StepEnd A)) (old new : World) (end : End (StepEnd A)) → Relies who w → Fit who w old
    → IsLawfulCourse who old (Calls x next) → Runs who (Calls x next) old new end → ((met : World) → Fit who w met → StopsAt who x met new end → R) → (Made who w x next old new end → R) → R
call_by R who w x next old new end r fit lawful run stops goes = by run.1.1
  where
    there : Fit who w run.0
    there = fit_met who w old run.0 r.keep (rivals_keep_worker who w r.keep r.own) fit run.1.0

    by : StopsAt who x run.0 new end ⊎ (HasRoom run.0 x × Runs who (next run.0.store) (after_call who.line who.party x None run.0) new end) → R
    by (inl stop) = stops run.0 there stop
    by (inr on) =
        let may = lawful run.0 run.1.0 on.0 in
        goes (record {
          met = run.0;
          rivals = run.1.0;
          room = on.0;
          fit = there;
          lawful = may.0;
          kept = keeps_after who x run.0 r.keep there.kept may.0;
          further = may.1;
          run = on.1;
        })

-- The same, where the worker has to fit at the end.
pub one_call : {A : Type 0} (who : Caller) (w : LiveWorker) (attempts : A → List Attempt) (x : Exchange) (next : Store → Course (StepEnd A)) (old new : World) (end : End (StepEnd A)) → Relies who w → Fit who w old
    → IsLawfulCourse who old (Calls x next) → Runs who (Calls x next) old new end → (Made who w x next old new end → FitsAfterwards who.merge w attempts new end) → FitsAfterwards who.merge w attempts new end
one_call who w attempts x next old new end r fit lawful run goes =
    call_by (FitsAfterwards who.merge w attempts new end) who w x next old new end r fit lawful run (λ met there stops. stopped who w attempts x met new end there.holds stops) goes

-- At the end of a course that reports, the worker fits with the attempts of the report, and with
-- those that it ran before.
pub reported : {A : Type 0} (who : Caller) (w : LiveWorker) (attempts : A → List Attempt) (report : A) (old new : World) (end : End (StepEnd A)) → WorkerHolds who.merge old w
    → WorkerHolds who.merge old (record w { attempts = attempts report }) → Runs who (Ends (Reports report)) old new end → FitsAfterwards who.merge w attempts new end
reported who w attempts report old new (Gives (Reports other)) h k run =
    let same : report ≡ other = cc run.1 in
    subst (λ world. WorkerHolds who.merge world (record w { attempts = attempts other })) run.0 (subst (λ r. WorkerHolds who.merge old (record w { attempts = attempts r })) same k)
reported who w attempts report old new (Gives answer) h k run = absurd (cc run.1)
reported who w attempts report old new MeetsFault h k run = tt
reported who w attempts report old new LacksMemory h k run = subst (λ world. WorkerHolds who.merge world w) run.0 h

-- At the end of a course that does not report, the worker fits with the attempts that it ran before.
pub ended : {A : Type 0} (who : Caller) (w : LiveWorker) (attempts : A → List Attempt) (answer : StepEnd A) (old new : World) (end : End (StepEnd A)) → ((report : A) → answer ≡ Reports report → ⊥) → WorkerHolds who.merge old w
    → Runs who (Ends answer) old new end → FitsAfterwards who.merge w attempts new end
ended who w attempts answer old new (Gives (Reports report)) never h run = absurd (never report run.1)
ended who w attempts answer old new (Gives other) never h run = subst (λ world. WorkerHolds who.merge world w) run.0 h
ended who w attempts answer old new MeetsFault never h run = tt
ended who w attempts answer old new LacksMemory never h run = subst (λ world. WorkerHolds who.merge world w) run.0 h

-- ---- what is said of reports

-- Where the run reports, this is so of the report.
abbrev pub ReportsAs : {A : Type 0} → (World → A → Type 0) → World → End (StepEnd A) → Type 0
ReportsAs P new (Gives (Reports report)) = P new report
ReportsAs P new (Gives answer) = ⊤
ReportsAs P new MeetsFault = ⊤
ReportsAs P new LacksMemory = ⊤

-- The worker fits after the run, and where the run reports, this is so of the report.
abbrev pub Left : {A : Type 0} → Caller → LiveWorker → (A → List Attempt) → (World → A → Type 0) → World → End (StepEnd A) → Type 0
Left who w attempts P new end = FitsAfterwards who.merge w attempts new end × ReportsAs P new end

says_stopped : {A : Type 0} (who : Caller) (P : World → A → Type 0) (x : Exchange) (met new : World) (end : End (StepEnd A)) → StopsAt who x met new end → ReportsAs P new end
says_stopped who P x met new (Gives answer) stops = absurd stops
says_stopped who P x met new MeetsFault stops = tt
says_stopped who P x met new LacksMemory stops = tt

pub left_stopped : {A : Type 0} (who : Caller) (w : LiveWorker) (attempts : A → List Attempt) (P : World → A → Type 0) (x : Exchange) (met new : World) (end : End (StepEnd A)) → WorkerHolds who.merge met w → StopsAt who x met new end → Left who w attempts P new end
left_stopped who w attempts P x met new end h stops = (stopped who w attempts x met new end h stops, says_stopped who P x met new end stops)

says_reported : {A : Type 0} (who : Caller) (P : World → A → Type 0) (report : A) (old new : World) (end : End (StepEnd A)) → P old report → Runs who (Ends (Reports report)) old new end → ReportsAs P new end
says_reported who P report old new (Gives (Reports other)) h run =
    let same : report ≡ other = cc run.1 in
    subst (λ world. P world other) run.0 (subst (P old) same h)
says_reported who P report old new (Gives answer) h run = absurd (cc run.1)
says_reported who P report old new MeetsFault h run = tt
says_reported who P report old new LacksMemory h run = tt

pub left_reported : {A : Type 0} (who : Caller) (w : LiveWorker) (attempts : A → List Attempt) (P : World → A → Type 0) (report : A) (old new : World) (end : End (StepEnd A)) → WorkerHolds who.merge old w
    → WorkerHolds who.merge old (record w { attempts = attempts report }) → P old report → Runs who (Ends (Reports report)) old new end → Left who w attempts P new end
left_reported who w attempts P report old new end h k p run = (reported who w attempts report old new end h k run, says_reported who P report old new end p run)

says_ended : {A : Type 0} (who : Caller) (P : World → A → Type 0) (answer : StepEnd A) (old new : World) (end : End (StepEnd A)) → ((report : A) → answer ≡ Reports report → ⊥) → Runs who (Ends answer) old new end → ReportsAs P new end
says_ended who P answer old new (Gives (Reports report)) never run = absurd (never report run.1)
says_ended who P answer old new (Gives other) never run = tt
says_ended who P answer old new MeetsFault never run = tt
says_ended who P answer old new LacksMemory never run = tt

pub left_ended : {A : Type 0} (who : Caller) (w : LiveWorker) (attempts : A → List Attempt) (P : World → A → Type 0) (answer : StepEnd A) (old new : World) (end : End (StepEnd A)) → ((report : A) → answer ≡ Reports report → ⊥) → WorkerHolds who.merge old w
    → Runs who (Ends answer) old new end → Left who w attempts P new end
left_ended who w attempts P answer old new end never h run = (ended who w attempts answer old new end never h run, says_ended who P answer old new end never run)
