-- How a line runs. One party makes the calls of the line's course, and no other party calls the
-- store in between.
use Rattle.std.specs.Prelude.{ℕ, List, [], ◌∷◌, Option, Some, None, codes, decimal}
use Rattle.fleet_model.specs.History.{Party, Writer, Event}
use Rattle.fleet_model.specs.Work.Parties.{Parties}
use Rattle.step_model.specs.Courses.Course.{Course, Ends, calls_each, then_course}
use Rattle.step_model.specs.Courses.StepEnds.{StepEnd, Reports, GivesUp, Fenced, NotOwner, NoRecords, Invalid, Declined, OperatorRefuses, BadFlush, FlushFault, BadName, BadSegment, BadOrder, BadSequence, BadFloor, BadTick}
use Rattle.step_model.specs.Courses.Alone.{AloneEnd, run_alone}
use Rattle.script_model.specs.Words.{bytes_text}
use Rattle.script_model.specs.Replies.{reply}
use Rattle.script_model.specs.States.{State}

-- The end of a line: its reply, and the parties that are live after it.
pub record LineEnd : Type 0 where
  pub reply : List ℕ
  pub parties : Parties

-- The course of a line: the party that calls, its calls, and the parties that are live if a fault
-- strikes a call.
pub record LineCourse : Type 0 where
  pub party : Party
  pub course : Course LineEnd
  pub struck : Parties

-- ---- runs

-- The end of a line. If a fault struck a call, the reply is storefault and the parties are
-- `struck`.
abbrev pub end_or_fault : Parties → Option LineEnd → LineEnd
end_or_fault struck None = record { reply = reply (codes "storefault" ∷ []); parties = struck }
end_or_fault struck (Some end) = end

-- The reply of the line, and the state after it.
abbrev pub after_line : State → LineEnd → AloneEnd LineEnd → List ℕ × State
after_line s end run = (end.reply, record s { store = run.store; fault = run.fault; parties = end.parties })

-- The run of a line with this number, counted from 1: its reply, and the state after it.
abbrev pub run_line : ℕ → State → LineCourse → List ℕ × State
run_line number s c =
    let run = run_alone number c.party c.course s.fault s.store in after_line s (end_or_fault c.struck run.answer) run

-- ---- lines that call nothing

-- A line that only replies. It calls nothing and leaves the parties as they are, so the party that
-- it names does not matter.
abbrev pub only_replies : State → List ℕ → LineCourse
only_replies s answer = record {
  party = Writer;
  course = Ends (record { reply = answer; parties = s.parties });
  struck = s.parties;
}

-- The reply to a line whose party is not live, or whose worker does not run the job.
abbrev pub no_such_party : State → LineCourse
no_such_party s = only_replies s (reply (codes "nosuchparty" ∷ []))

-- The function at the value, or the other result if there is no value.
abbrev pub if_some : {A B : Type 0} → Option A → B → (A → B) → B
if_some None none some_of = none
if_some (Some x) none some_of = some_of x

-- ---- lines that do a step

-- The word of a flush's fault, as the reply to a refused flush prints it.
abbrev pub flush_fault_text : FlushFault → List ℕ
flush_fault_text BadName = codes "name"
flush_fault_text BadSegment = codes "segment"
flush_fault_text BadOrder = codes "order"
flush_fault_text BadSequence = codes "sequence"
flush_fault_text BadFloor = codes "floor"
flush_fault_text BadTick = codes "tick"

-- The reply to a line whose step ends so. `spell` prints a report. No put is refused while no other
-- party calls the store, so no step gives up, and the reply of GivesUp is never printed.
abbrev pub step_reply : {A : Type 0} → (A → List ℕ) → StepEnd A → List ℕ
step_reply spell (Reports report) = spell report
step_reply spell (GivesUp seen) = reply (codes "conflict" ∷ decimal seen ∷ [])
step_reply spell (Fenced stored) = reply (codes "fenced" ∷ decimal stored ∷ [])
step_reply spell NotOwner = reply (codes "notowner" ∷ [])
step_reply spell NoRecords = reply (codes "invaliddbstate" ∷ [])
step_reply spell Invalid = reply (codes "invalidcompaction" ∷ [])
step_reply spell (Declined message) = reply (codes "generate" ∷ bytes_text message ∷ [])
step_reply spell (OperatorRefuses message) = reply (codes "callback" ∷ bytes_text message ∷ [])
step_reply spell (BadFlush fault) = reply (codes "badflush" ∷ flush_fault_text fault ∷ [])

-- The parties that are live after a step: those that a report gives, or the other ones after a
-- refusal.
abbrev pub step_parties : {A : Type 0} → (A → Parties) → Parties → StepEnd A → Parties
step_parties reported refused (Reports report) = reported report
step_parties reported refused _ = refused

-- The end of a line whose step ends so: its reply, and the parties that are live.
abbrev pub line_end : {A : Type 0} → (spell : A → List ℕ) (reported : A → Parties) (refused : Parties) (end : StepEnd A)
    → LineEnd
line_end spell reported refused end = record {
  reply = step_reply spell end;
  parties = step_parties reported refused end;
}

-- A line that does one step of its party and then makes these notes.
abbrev pub noted_line : {A : Type 0} → (party : Party) (step : Course (StepEnd A)) (notes : StepEnd A → List Event)
    (ends : StepEnd A → LineEnd) (struck : Parties) → LineCourse
noted_line party step notes ends struck = record {
  party = party;
  course = then_course step (λ end. calls_each (notes end) (Ends (ends end)));
  struck = struck;
}

-- A line that does one step of its party and makes no notes.
abbrev pub step_line : {A : Type 0} → (party : Party) (step : Course (StepEnd A)) (ends : StepEnd A → LineEnd)
    (struck : Parties) → LineCourse
step_line party step ends struck = noted_line party step (λ end. []) ends struck
