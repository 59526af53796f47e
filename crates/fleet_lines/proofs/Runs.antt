-- The run of a line's course, and the reply and the state with which the line ends.
use Rattle.std.proofs.Common.{◌≡◌, refl, ap, subst, ℕ, [], ◌∷◌, true, inr, Option, None}
use Rattle.std.specs.Prelude.{codes}
use Rattle.row_model.specs.Fold.{Operator}
use Rattle.fleet_model.specs.History.{Event}
use Rattle.fleet_model.specs.Exchanges.{Fault, Plain}
use Rattle.fleet_model.specs.Work.Parties.{Parties}
use Rattle.step_model.specs.Past.{World}
use Rattle.step_model.specs.Rivals.{Caller, after_call}
use Rattle.step_model.specs.Courses.Course.{Course, Ends, Calls, then_course, calls_each}
use Rattle.step_model.specs.Courses.CourseRuns.{End, Gives, MeetsFault}
use Rattle.step_model.specs.Courses.Ran.{Ran, Spares}
use Rattle.step_model.specs.Courses.Alone.{AloneEnd}
use Rattle.step_laws.proofs.RanLaws.{ran_alone}
use Rattle.rival_laws.proofs.Runs.{rivals_none}
use Rattle.course_laws.proofs.Composed.{then_ran}
use Rattle.script_model.specs.Replies.{reply}
use Rattle.script_model.specs.States.{State, FleetOptions}
use Rattle.script_model.specs.LineRuns.{LineEnd, LineCourse, run_line, end_or_fault, after_line}
use Rattle.line_laws.proofs.Lines.{caller_of}

-- The state of a fleet with this store, these parties and this fault that waits.
abbrev pub state_at : FleetOptions → ℕ → World → Option Fault → Parties → State
state_at options moment world waits parties = record { options = options; moment = moment; store = world.store; parties = parties; fault = waits }

module _ (merge : Operator) (number : ℕ) (options : FleetOptions) (moment : ℕ) (parties : Parties) (c : LineCourse) (old new : World) (waits left : Option Fault) where
  -- A line whose course gives this end.
  pub line_gives : (end : LineEnd) → Ran (caller_of merge number c.party) c.course old new waits left (Gives end) → run_line number (state_at options moment old waits parties) c ≡ (end.reply, state_at options moment new left end.parties)
  line_gives end ran =
      ap (λ (run : AloneEnd LineEnd). after_line (state_at options moment old waits parties) (end_or_fault c.struck run.answer) run)
      (ran_alone (caller_of merge number c.party) c.course old new waits left (Gives end) refl ran)

  -- A line whose course a fault strikes.
  pub line_struck : Ran (caller_of merge number c.party) c.course old new waits left MeetsFault → run_line number (state_at options moment old waits parties) c ≡ (reply (codes "storefault" ∷ []), state_at options moment new left c.struck)
  line_struck ran =
      ap (λ (run : AloneEnd LineEnd). after_line (state_at options moment old waits parties) (end_or_fault c.struck run.answer) run)
      (ran_alone (caller_of merge number c.party) c.course old new waits left MeetsFault refl ran)

-- ---- steps, and then notes

-- A step that gives this answer, and then the end that the line makes of it.
pub then_ends : {A B : Type 0} (who : Caller) (step : Course A) (ends : A → B) (old new : World) (waits left : Option Fault) (answer : A) → Ran who step old new waits left (Gives answer) → Ran who (then_course step (λ end. Ends (ends end))) old new waits left (Gives (ends answer))
then_ends who step ends old new waits left answer ran = then_ran who step (λ end. Ends (ends end)) old new new answer waits left left (Gives (ends answer)) ran (refl, (λ alone. refl, refl))

-- A note, and then what comes after it.
pub note_first : {A : Type 0} (who : Caller) (event : Event) (next : Course A) (old mid new : World) (waits between left : Option Fault) (end : End A) → mid ≡ after_call who.line who.party (Plain event) None old → (who.alone ≡ true → Spares event waits between)
    → Ran who next mid new between left end → Ran who (Calls (Plain event) (λ met. next)) old new waits left end
note_first who event next old mid new waits between left end leaves spares ran =
    (old, (rivals_none who old, inr (tt, (between, (spares, subst (λ (t : World). Ran who next t new between left end) leaves ran)))))

-- A note alone.
pub note_ran : {A : Type 0} (who : Caller) (event : Event) (answer : A) (old new : World) (waits left : Option Fault) → new ≡ after_call who.line who.party (Plain event) None old → (who.alone ≡ true → Spares event waits left)
    → Ran who (calls_each (event ∷ []) (Ends answer)) old new waits left (Gives answer)
note_ran who event answer old new waits left leaves spares = note_first who event (Ends answer) old new new waits left left (Gives answer) leaves spares (refl, (λ alone. refl, refl))
