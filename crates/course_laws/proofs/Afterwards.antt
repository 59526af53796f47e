-- Calls and runs lead to worlds that come after.
use Rattle.std.proofs.Common.{sym, ◌∙◌, ap, subst, ℕ, List, [], ◌∷◌, ◌++◌, inl, inr, Some, None}
use Rattle.std.proofs.lemmas.List.{append-nil, append_assoc}
use Rattle.fleet_model.specs.History.{Party, Entry}
use Rattle.fleet_model.specs.Exchanges.{Exchange}
use Rattle.step_model.specs.Past.{World}
use Rattle.step_model.specs.Rivals.{Caller, RivalCall, RivalsFrom, Rivals, Strike, after_call, after_rival}
use Rattle.step_model.specs.Courses.Course.{Course, Ends, Calls}
use Rattle.step_model.specs.Courses.CourseRuns.{End, Gives, MeetsFault, LacksMemory, StopsAt, Runs}
use Rattle.step_laws.proofs.Later as store
use Rattle.course_laws.specs.Afterwards.{ComesAfter, RunsComeAfter, WorldsComeAfter}
use Rattle.course_laws.proofs.Later.{entry_by, call_history}

pub comes_itself : (world : World) → ComesAfter world world
comes_itself world = record { later = store.later_itself world.store; entries = []; history = sym (append-nil world.store.history) }

pub comes_then : (a b c : World) → ComesAfter a b → ComesAfter b c → ComesAfter a c
comes_then a b c first second = record {
  later = store.later_then a.store b.store c.store first.later second.later;
  entries = first.entries ++ second.entries;
  history = second.history ∙ ap (λ (h : List Entry). h ++ second.entries) first.history ∙ append_assoc a.store.history first.entries second.entries;
}

pub comes_by : (line : ℕ) (party : Party) (x : Exchange) (strike : Strike) (world : World) → ComesAfter world (after_call line party x strike world)
comes_by line party x strike world = record {
  later = store.call_later line party x strike world.store;
  entries = entry_by line party x strike world.store ∷ [];
  history = call_history line party x strike world.store;
}

comes_from : (who : Caller) (calls : List RivalCall) (old new : World) → RivalsFrom who calls old new → ComesAfter old new
comes_from who [] old new same = subst (ComesAfter old) same (comes_itself old)
comes_from who (call ∷ calls) old new lead = comes_then old (after_rival call old) new (comes_by call.line call.party call.exchange call.strike old) (comes_from who calls (after_rival call old) new lead.1)

pub comes_rivals : (who : Caller) (old new : World) → Rivals who old new → ComesAfter old new
comes_rivals who old new rivals = comes_from who rivals.calls old new rivals.lead

-- Calls of others, and then a call of one's own.
pub comes_met : (who : Caller) (start old met : World) → ComesAfter start old → Rivals who old met → ComesAfter start met
comes_met who start old met before rivals = comes_then start old met before (comes_rivals who old met rivals)

pub comes_called : (who : Caller) (x : Exchange) (start met : World) → ComesAfter start met → ComesAfter start (after_call who.line who.party x None met)
comes_called who x start met before = comes_then start met (after_call who.line who.party x None met) before (comes_by who.line who.party x None met)

comes_stopped : {A : Type 0} (who : Caller) (x : Exchange) (met new : World) (end : End A) → StopsAt who x met new end → ComesAfter met new
comes_stopped who x met new (Gives answer) stops = absurd stops
comes_stopped who x met new MeetsFault stops = subst (ComesAfter met) (sym stops.1.1) (comes_by who.line who.party x (Some stops.1.0) met)
comes_stopped who x met new LacksMemory stops = subst (ComesAfter met) stops (comes_itself met)

pub runs_come : {A : Type 0} (who : Caller) (course : Course A) (old new : World) (end : End A) → Runs who course old new end → ComesAfter old new
runs_come who (Ends answer) old new end run = subst (ComesAfter old) run.0 (comes_itself old)
runs_come who (Calls x next) old new end (met, (rivals, inl stops)) = comes_then old met new (comes_rivals who old met rivals) (comes_stopped who x met new end stops)
runs_come {A} who (Calls x next) old new end (met, (rivals, inr (room, run))) =
    comes_then old (after_call who.line who.party x None met) new (comes_called who x old met (comes_rivals who old met rivals)) (runs_come {A = A} who (next met.store) (after_call who.line who.party x None met) new end run)

each : (A : Type 0) → RunsComeAfter A
each A who course old new end run = runs_come {A = A} who course old new end run

-- Single calls, calls of others and runs of each kind of step lead to worlds that come after.
pub worlds_come_after : WorldsComeAfter
worlds_come_after = record {
  itself = comes_itself;
  on = comes_then;
  call = comes_by;
  rivals = comes_rivals;
  numbers = each _;
  lists = each _;
  polls = each _;
  claims = each _;
  beats = each _;
  outputs = each _;
  finishes = each _;
  sweeps = each _;
}
