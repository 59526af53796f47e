-- Two courses, one after the other: their runs, and when both are lawful.
use Rattle.std.proofs.Common.{◌≡◌, refl, sym, ◌∙◌, subst, true, Option, None, inl, inr}
use Rattle.fleet_model.specs.Exchanges.{Fault, event_of}
use Rattle.fleet_model.specs.Store.{Store}
use Rattle.step_model.specs.Past.{World}
use Rattle.step_model.specs.Rivals.{Caller, after_call}
use Rattle.step_model.specs.Courses.Course.{Course, Ends, Calls, then_course}
use Rattle.step_model.specs.Courses.CourseRuns.{End, Gives, MeetsFault, LacksMemory, Runs, IsLawfulCourse}
use Rattle.step_model.specs.Courses.Ran.{Ran, Spares, Strikes}
use Rattle.course_laws.specs.Composed.{RanOn, RanThen, GoesOn, IsStruck, Lacks, Composes, LoopsCompose}
use Rattle.rival_laws.proofs.Runs.{rivals_none}

-- ---- runs of both

pub then_runs : {A B : Type 0} (who : Caller) (first : Course A) (second : A → Course B) (old new : World) (end : End B) → RanOn who first second old new end → Runs who (then_course first second) old new end
then_runs {A} {B} who (Ends answer) second old new end r = at r.answer r.mid r.begins r.goes
  where
    at : (given : A) (mid : World) → Runs who (Ends answer) old mid (Gives given) → Runs who (second given) mid new end → Runs who (second answer) old new end
    at given mid run goes = subst (λ (a : A). Runs who (second a) old new end) (sym run.1) (subst (λ (t : World). Runs who (second given) t new end) (sym run.0) goes)
then_runs {A} {B} who (Calls x next) second old new end r = by r.begins (λ store start run. then_runs {A = A} {B = B} who (next store) second start new end (record { answer = r.answer; mid = r.mid; begins = run; goes = r.goes }))
  where
    by : Runs who (Calls x next) old r.mid (Gives r.answer) → ((store : Store) (start : World) → Runs who (next store) start r.mid (Gives r.answer) → Runs who (then_course (next store) second) start new end) → Runs who (then_course (Calls x next) second) old new end
    by (met, (rivals, inl stops)) on = absurd stops
    by (met, (rivals, inr (room, run))) on = (met, (rivals, inr (room, on met.store (after_call who.line who.party x None met) run)))

pub then_struck : {A B : Type 0} (who : Caller) (first : Course A) (second : A → Course B) (old new : World) → Runs who first old new MeetsFault → Runs who (then_course first second) old new MeetsFault
then_struck who (Ends answer) second old new run = absurd run.1
then_struck who (Calls x next) second old new (met, (rivals, inl stops)) = (met, (rivals, inl stops))
then_struck {A} {B} who (Calls x next) second old new (met, (rivals, inr (room, run))) = (met, (rivals, inr (room, then_struck {A = A} {B = B} who (next met.store) second _ new run)))

-- Memory may run out as a course begins.
lacks_now : {A : Type 0} (who : Caller) (course : Course A) (old new : World) → old ≡ new → Runs who course old new LacksMemory
lacks_now who (Ends answer) old new same = (same, tt)
lacks_now who (Calls x next) old new same = (old, (rivals_none who old, inl same))

pub then_lacks : {A B : Type 0} (who : Caller) (first : Course A) (second : A → Course B) (old new : World) → Runs who first old new LacksMemory → Runs who (then_course first second) old new LacksMemory
then_lacks {A} {B} who (Ends answer) second old new run = lacks_now {A = B} who (second answer) old new run.0
then_lacks who (Calls x next) second old new (met, (rivals, inl stops)) = (met, (rivals, inl stops))
then_lacks {A} {B} who (Calls x next) second old new (met, (rivals, inr (room, run))) = (met, (rivals, inr (room, then_lacks {A = A} {B = B} who (next met.store) second _ new run)))

-- ---- runs are made so

-- A run of two courses, one after the other, is a run of each, or it ends in the first one by a fault or out of memory.
pub then_splits : {A B : Type 0} (who : Caller) (first : Course A) (second : A → Course B) (old new : World) (end : End B) → Runs who (then_course first second) old new end → RanThen who first second old new end
then_splits who (Ends answer) second old new end run = GoesOn (record { answer = answer; mid = old; begins = (refl, refl); goes = run })
then_splits who (Calls x next) second old new (Gives answer) (met, (rivals, inl stops)) = absurd stops
then_splits who (Calls x next) second old new MeetsFault (met, (rivals, inl stops)) = IsStruck refl (met, (rivals, inl stops))
then_splits who (Calls x next) second old new LacksMemory (met, (rivals, inl stops)) = Lacks refl (met, (rivals, inl stops))
then_splits {A} {B} who (Calls x next) second old new end (met, (rivals, inr (room, run))) = on (then_splits {A = A} {B = B} who (next met.store) second (after_call who.line who.party x None met) new end run)
  where
    on : RanThen who (next met.store) second (after_call who.line who.party x None met) new end → RanThen who (Calls x next) second old new end
    on (GoesOn r) = GoesOn (record { answer = r.answer; mid = r.mid; begins = (met, (rivals, inr (room, r.begins))); goes = r.goes })
    on (IsStruck is run) = IsStruck is (met, (rivals, inr (room, run)))
    on (Lacks is run) = Lacks is (met, (rivals, inr (room, run)))

-- ---- lawful courses

pub then_lawful : {A B : Type 0} (who : Caller) (first : Course A) (second : A → Course B) (old : World) → IsLawfulCourse who old first → ((mid : World) (answer : A) → Runs who first old mid (Gives answer) → IsLawfulCourse who mid (second answer))
    → IsLawfulCourse who old (then_course first second)
then_lawful who (Ends answer) second old lawful rest = rest old answer (refl, refl)
then_lawful {A} {B} who (Calls x next) second old lawful rest = λ met rivals room.
    let here = lawful met rivals room in
    (here.0, then_lawful {A = A} {B = B} who (next met.store) second (after_call who.line who.party x None met) here.1 (λ mid answer run. rest mid answer (met, (rivals, inr (room, run)))))

-- ---- runs with the fault that waits

same_waits : {A : Type 0} (who : Caller) (course : Course A) (old new : World) (waits between left : Option Fault) (end : End A) → (who.alone ≡ true → between ≡ waits) → Ran who course old new between left end → Ran who course old new waits left end
same_waits who (Ends answer) old new waits between left end same (is, (same_left, ends)) = (is, (λ alone. same_left alone ∙ same alone, ends))
same_waits who (Calls x next) old new waits between left (Gives answer) same (met, (rivals, inl stops)) = absurd stops
same_waits who (Calls x next) old new waits between left MeetsFault same (met, (rivals, inl stops)) =
    (met, (rivals, inl (stops.0, (stops.1.0, (stops.1.1.0, λ alone. subst (λ (w : Option Fault). Strikes (event_of x met.store) w left stops.1.0) (same alone) (stops.1.1.1 alone))))))
same_waits who (Calls x next) old new waits between left LacksMemory same (met, (rivals, inl stops)) = (met, (rivals, inl (stops.0, λ alone. stops.1 alone ∙ same alone)))
same_waits who (Calls x next) old new waits between left end same (met, (rivals, inr (room, (mid, (spares, run))))) =
    (met, (rivals, inr (room, (mid, (λ alone. subst (λ (w : Option Fault). Spares (event_of x met.store) w mid) (same alone) (spares alone), run)))))

pub then_ran : {A B : Type 0} (who : Caller) (first : Course A) (second : A → Course B) (old mid new : World) (answer : A) (waits between left : Option Fault) (end : End B) → Ran who first old mid waits between (Gives answer) → Ran who (second answer) mid new between left end
    → Ran who (then_course first second) old new waits left end
then_ran {A} {B} who (Ends given) second old mid new answer waits between left end (is, (same, ends)) goes =
    same_waits {A = B} who (second given) old new waits between left end same (subst (λ (a : A). Ran who (second a) old new between left end) (sym ends) (subst (λ (t : World). Ran who (second answer) t new between left end) (sym is) goes))
then_ran who (Calls x next) second old mid new answer waits between left end (met, (rivals, inl stops)) goes = absurd stops
then_ran {A} {B} who (Calls x next) second old mid new answer waits between left end (met, (rivals, inr (room, (later, (spares, run))))) goes =
    (met, (rivals, inr (room, (later, (spares, then_ran {A = A} {B = B} who (next met.store) second _ mid new answer later between left end run goes)))))

pub then_ran_struck : {A B : Type 0} (who : Caller) (first : Course A) (second : A → Course B) (old new : World) (waits left : Option Fault) → Ran who first old new waits left MeetsFault → Ran who (then_course first second) old new waits left MeetsFault
then_ran_struck who (Ends answer) second old new waits left (is, (same, ends)) = absurd ends
then_ran_struck who (Calls x next) second old new waits left (met, (rivals, inl stops)) = (met, (rivals, inl stops))
then_ran_struck {A} {B} who (Calls x next) second old new waits left (met, (rivals, inr (room, (later, (spares, run))))) =
    (met, (rivals, inr (room, (later, (spares, then_ran_struck {A = A} {B = B} who (next met.store) second _ new later left run)))))

ran_lacks_now : {A : Type 0} (who : Caller) (course : Course A) (old new : World) (waits left : Option Fault) → old ≡ new → (who.alone ≡ true → left ≡ waits) → Ran who course old new waits left LacksMemory
ran_lacks_now who (Ends answer) old new waits left same left_same = (same, (left_same, tt))
ran_lacks_now who (Calls x next) old new waits left same left_same = (old, (rivals_none who old, inl (same, left_same)))

pub then_ran_lacks : {A B : Type 0} (who : Caller) (first : Course A) (second : A → Course B) (old new : World) (waits left : Option Fault) → Ran who first old new waits left LacksMemory → Ran who (then_course first second) old new waits left LacksMemory
then_ran_lacks {A} {B} who (Ends answer) second old new waits left (is, (same, ends)) = ran_lacks_now {A = B} who (second answer) old new waits left is same
then_ran_lacks who (Calls x next) second old new waits left (met, (rivals, inl stops)) = (met, (rivals, inl stops))
then_ran_lacks {A} {B} who (Calls x next) second old new waits left (met, (rivals, inr (room, (later, (spares, run))))) =
    (met, (rivals, inr (room, (later, (spares, then_ran_lacks {A = A} {B = B} who (next met.store) second _ new later left run)))))

-- Two courses, one after the other, have the runs that the two have, and are lawful if both are.
composes : (A B : Type 0) → Composes A B
composes A B = record {
  runs = λ who first second old new end r. then_runs {A = A} {B = B} who first second old new end r;
  splits = λ who first second old new end run. then_splits {A = A} {B = B} who first second old new end run;
  struck = λ who first second old new run. then_struck {A = A} {B = B} who first second old new run;
  lacks = λ who first second old new run. then_lacks {A = A} {B = B} who first second old new run;
  lawful = λ who first second old lawful rest. then_lawful {A = A} {B = B} who first second old lawful rest;
  ran = λ who first second old mid new answer waits between left end begins goes. then_ran {A = A} {B = B} who first second old mid new answer waits between left end begins goes;
  ran_struck = λ who first second old new waits left run. then_ran_struck {A = A} {B = B} who first second old new waits left run;
  ran_lacks = λ who first second old new waits left run. then_ran_lacks {A = A} {B = B} who first second old new waits left run;
}

pub loops_compose : LoopsCompose
loops_compose = composes _ _
