-- A run with the fault that waits is a run, and is what a caller that is alone makes.
use Rattle.std.proofs.Common.{◌≡◌, refl, sym, subst, cond, Bool, true, Option, Some, None, inl, inr}
use Rattle.fleet_model.specs.Exchanges.{Exchange, Fault, event_of, after_answered, strikes, waiting_after, struck_by, does_stand}
use Rattle.step_model.specs.Past.{World}
use Rattle.step_model.specs.Rivals.{Caller, Rivals, RivalsFrom}
use Rattle.step_model.specs.Courses.Course.{Course, Ends, Calls}
use Rattle.step_model.specs.Courses.CourseRuns.{End, Gives, MeetsFault, LacksMemory, EndsAs, Runs, StopsAt}
use Rattle.step_model.specs.Courses.Alone.{AloneEnd, run_alone}
use Rattle.step_model.specs.Courses.Ran.{Ran, StopsHere}
use Rattle.step_laws.specs.RanLaws.{IsAloneEnd, RanLaws, StepsRan}

stops_at : {A : Type 0} (who : Caller) (x : Exchange) (met new : World) (waits left : Option Fault) (end : End A) → StopsHere who x met new waits left end → StopsAt who x met new end
stops_at who x met new waits left (Gives answer) stops = absurd stops
stops_at who x met new waits left MeetsFault (counts, (stands, (is, alone))) = (counts, (stands, is))
stops_at who x met new waits left LacksMemory (is, alone) = is

pub ran_runs : {A : Type 0} (who : Caller) (course : Course A) (old new : World) (waits left : Option Fault) (end : End A) → Ran who course old new waits left end → Runs who course old new end
ran_runs who (Ends answer) old new waits left end (same, (alone, ends)) = (same, ends)
ran_runs who (Calls x next) old new waits left end (met, (rivals, inl stops)) = (met, (rivals, inl (stops_at who x met new waits left end stops)))
ran_runs who (Calls x next) old new waits left end (met, (rivals, inr (room, (mid, (spares, rest))))) = (met, (rivals, inr (room, ran_runs who (next met.store) _ new mid left end rest)))

-- ---- a caller that is alone

-- Only the world before can be met, if nobody else calls.
pub only_met : (who : Caller) (old met : World) → who.alone ≡ true → Rivals who old met → old ≡ met
only_met who old met alone r = subst (λ calls. RivalsFrom who calls old met) (r.none alone) r.lead

-- A course that ended.
alone_end : {A : Type 0} (answer : A) (world : World) (fault : Option Fault) (end : End A) → EndsAs answer end → IsAloneEnd end world fault (record { answer = Some answer; store = world.store; fault = fault })
alone_end answer world fault (Gives given) is = rw is refl
alone_end answer world fault MeetsFault is = absurd is
alone_end answer world fault LacksMemory is = tt

-- What a course that runs alone ends with, once it is known whether the fault strikes its next call.
abbrev then_alone : {A : Type 0} → Caller → Exchange → (World → Course A) → Option Fault → World → Bool → AloneEnd A
then_alone who x next waits world struck =
    cond struck (record { answer = None; store = struck_by (does_stand waits) who.line who.party x world.store; fault = None })
    (run_alone who.line who.party (next world) (waiting_after (event_of x world.store) waits) (after_answered who.line who.party x world.store))

alone_stop : {A : Type 0} (who : Caller) (x : Exchange) (next : World → Course A) (met new : World) (waits left : Option Fault) (end : End A) → who.alone ≡ true → StopsHere who x met new waits left end
    → IsAloneEnd end new left (then_alone who x next waits met (strikes (event_of x met.store) waits))
alone_stop who x next met new waits left (Gives answer) alone stops = absurd stops
alone_stop who x next met new waits left MeetsFault alone (counts, (stands, (is, by))) =
    let s = by alone in
    rw s.struck (rw is (rw s.used (rw s.as_said refl)))
alone_stop who x next met new waits left LacksMemory alone stops = tt

pub ran_alone : {A : Type 0} (who : Caller) (course : Course A) (old new : World) (waits left : Option Fault) (end : End A) → who.alone ≡ true
    → Ran who course old new waits left end → IsAloneEnd end new left (run_alone who.line who.party course waits old.store)
ran_alone who (Ends answer) old new waits left end alone (same, (by, ends)) = rw (by alone) (rw (sym same) (alone_end answer old waits end ends))
ran_alone who (Calls x next) old new waits left end alone (met, (rivals, inl stops)) = rw (only_met who old met alone rivals) (alone_stop who x (λ (t : World). next t.store) met new waits left end alone stops)
ran_alone who (Calls x next) old new waits left end alone (met, (rivals, inr (room, (mid, (spares, rest))))) =
    rw (only_met who old met alone rivals)
    (rw (spares alone).spared (subst (λ w. IsAloneEnd end new left (run_alone who.line who.party (next met.store) w (after_answered who.line who.party x met.store))) (spares alone).nearer
    (ran_alone who (next met.store) _ new mid left end alone rest)))

pub ran_laws : {A : Type 0} → RanLaws A
ran_laws = record { are_runs = ran_runs; alone = ran_alone }

-- For each kind of step, a run with the fault that waits is a run, and gives a lone caller what the course gives alone.
pub steps_ran : StepsRan
steps_ran = record {
  starts = ran_laws;
  polls = ran_laws;
  submits = ran_laws;
  claims = ran_laws;
  beats = ran_laws;
  outputs = ran_laws;
  finishes = ran_laws;
  flushes = ran_laws;
  sweeps = ran_laws;
}
