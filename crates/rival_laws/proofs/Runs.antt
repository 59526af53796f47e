-- To a party that does not disturb it, a run of another party is calls of others.
use Rattle.std.proofs.Common.{◌≡◌, ◌≢◌, refl, sym, subst, List, [], ◌∷◌, ◌++◌, true, false, inl, inr, Some, None}
use Rattle.std.specs.List.{AllByRecursion}
use Rattle.row_model.specs.Fold.{Operator}
use Rattle.fleet_model.specs.History.{Party, Coordinator, Worker, Sweeper}
use Rattle.fleet_model.specs.Exchanges.{Exchange, Plain, DrawsJob, DrawsTable, PutsTable, PutsManifest, PutsRecords, ListsTables, DeletesTable}
use Rattle.step_model.specs.Past.{World}
use Rattle.step_model.specs.Lawful.{Lawful}
use Rattle.step_model.specs.Rivals.{Caller, RivalCall, RivalsFrom, Rivals, Strike, MayStrike, after_call, after_rival, is_deletion}
use Rattle.step_model.specs.Courses.Course.{Course, Ends, Calls}
use Rattle.step_model.specs.Courses.CourseRuns.{End, Gives, MeetsFault, LacksMemory, HasRoom, StopsAt, Runs, IsLawfulCourse}
use Rattle.step_laws.proofs.Runs.{struck_has_room}
use Rattle.rival_laws.specs.Runs.{NoneOf, RunsBeside, OthersRun, OthersRunSteps}
use Rattle.rival_laws.proofs.Workers as workers
use Rattle.rival_laws.proofs.Coordinators as coordinators
use Rattle.rival_laws.proofs.FreeTables as tables

-- ---- calls, one after the other

from_then : (other : Caller) (first second : List RivalCall) (a b c : World) → RivalsFrom other first a b → RivalsFrom other second b c → RivalsFrom other (first ++ second) a c
from_then other [] second a b c same lead = subst (λ (t : World). RivalsFrom other second t c) (sym same) lead
from_then other (call ∷ first) second a b c lead rest = (lead.0, from_then other first second (after_rival call a) b c lead.1 rest)

-- Calls of others lead on.
rivals_then : (other : Caller) (a b c : World) → other.alone ≡ false → Rivals other a b → Rivals other b c → Rivals other a c
rivals_then other a b c shared one two = record {
  calls = one.calls ++ two.calls;
  lead = from_then other one.calls two.calls a b c one.lead two.lead;
  none = λ alone. absurd (cc (alone, shared));
}

pub rivals_none : (other : Caller) (world : World) → Rivals other world world
rivals_none other world = record { calls = []; lead = refl; none = λ alone. refl }

-- Only a sweeper deletes tables.
deletes_none : (merge : Operator) (party : Party) (world : World) (x : Exchange) → party ≢ Sweeper → Lawful merge party world x → is_deletion x ≡ false
deletes_none merge party world (DeletesTable table) other lawful = absurd (other lawful.by)
deletes_none merge party world (Plain event) other lawful = refl
deletes_none merge party world (DrawsJob moment) other lawful = refl
deletes_none merge party world (DrawsTable moment) other lawful = refl
deletes_none merge party world (PutsTable table rows) other lawful = refl
deletes_none merge party world (PutsManifest version change value) other lawful = refl
deletes_none merge party world (PutsRecords version change epoch jobs) other lawful = refl
deletes_none merge party world ListsTables other lawful = refl

-- A lawful call of one party is a call of others to another party.
one_rival : (other who : Caller) (x : Exchange) (strike : Strike) (met : World) → other.alone ≡ false → other.merge ≡ who.merge → who.party ≢ other.party → who.party ≢ Sweeper → Lawful who.merge who.party met x → MayStrike x met strike
    → Rivals other met (after_call who.line who.party x strike met)
one_rival other who x strike met shared same differs no_sweeper lawful may = record {
  calls = record { line = who.line; party = who.party; exchange = x; strike = strike } ∷ [];
  lead = (record { other = differs; lawful = subst (λ merge. Lawful merge who.party met x) (sym same) lawful; strike = may; deletes_none = deletes_none who.merge who.party met x no_sweeper lawful }, refl);
  none = λ alone. absurd (cc (alone, shared));
}

-- Calls of others to one caller are so to another caller under the same operator whose party makes none of them.
same_from : (other who : Caller) (calls : List RivalCall) (old new : World) → other.merge ≡ who.merge → AllByRecursion (λ call. call.party ≢ other.party) calls → RivalsFrom who calls old new → RivalsFrom other calls old new
same_from other who [] old new same none lead = lead
same_from other who (call ∷ calls) old new same none lead = (
  record {
    other = none.0;
    lawful = subst (λ merge. Lawful merge call.party old call.exchange) (sym same) lead.0.lawful;
    strike = lead.0.strike;
    deletes_none = lead.0.deletes_none;
  },
  same_from other who calls (after_rival call old) new same none.1 lead.1,
)

-- Calls that come between two calls of one party are calls of others to another one that makes none of them.
same_rivals : (other who : Caller) (old new : World) → other.alone ≡ false → other.merge ≡ who.merge → (rivals : Rivals who old new) → NoneOf other.party rivals → Rivals other old new
same_rivals other who old new shared same rivals none = record { calls = rivals.calls; lead = same_from other who rivals.calls old new same none rivals.lead; none = λ alone. absurd (cc (alone, shared)) }

-- ---- runs

stopped : {A : Type 0} (other who : Caller) (x : Exchange) (met new : World) (end : End A) → other.alone ≡ false → other.merge ≡ who.merge → who.party ≢ other.party → who.party ≢ Sweeper → (HasRoom met x → Lawful who.merge who.party met x)
    → StopsAt who x met new end → Rivals other met new
stopped other who x met new (Gives answer) shared same differs no_sweeper lawful stops = absurd stops
stopped other who x met new MeetsFault shared same differs no_sweeper lawful stops =
    subst (Rivals other met) (sym stops.1.1) (one_rival other who x (Some stops.1.0) met shared same differs no_sweeper (lawful (struck_has_room x met stops.0)) stops.0)
stopped other who x met new LacksMemory shared same differs no_sweeper lawful stops = subst (Rivals other met) stops (rivals_none other met)

-- A run of a lawful course by a party that is no sweeper is calls of others to a party that does not disturb it.
are_rivals : {A : Type 0} (other who : Caller) (course : Course A) (old new : World) (end : End A) → other.alone ≡ false → other.merge ≡ who.merge → who.party ≢ other.party → who.party ≢ Sweeper → IsLawfulCourse who old course
    → RunsBeside other.party who course old new end → Rivals other old new
are_rivals other who (Ends answer) old new end shared same differs no_sweeper lawful run = subst (Rivals other old) run.0 (rivals_none other old)
are_rivals {A} other who (Calls x next) old new end shared same differs no_sweeper lawful (met, (rivals, (none, inl stops))) =
    rivals_then other old met new shared (same_rivals other who old met shared same rivals none)
    (stopped {A = A} other who x met new end shared same differs no_sweeper (λ room. (lawful met rivals room).0) stops)
are_rivals {A} other who (Calls x next) old new end shared same differs no_sweeper lawful (met, (rivals, (none, inr (room, run)))) =
    let here = lawful met rivals room in
    let after = after_call who.line who.party x None met in
    rivals_then other old met new shared (same_rivals other who old met shared same rivals none)
    (rivals_then other met after new shared (one_rival other who x None met shared same differs no_sweeper here.0 tt)
    (are_rivals {A = A} other who (next met.store) after new end shared same differs no_sweeper here.1 run))

are_runs : {A : Type 0} (party : Party) (who : Caller) (course : Course A) (old new : World) (end : End A) → RunsBeside party who course old new end → Runs who course old new end
are_runs party who (Ends answer) old new end run = run
are_runs party who (Calls x next) old new end (met, (rivals, (none, inl stops))) = (met, (rivals, inl stops))
are_runs {A} party who (Calls x next) old new end (met, (rivals, (none, inr (room, run)))) = (met, (rivals, inr (room, are_runs {A = A} party who (next met.store) _ new end run)))

none_of : (party : Party) (who : Caller) (old met : World) (rivals : Rivals who old met) → who.alone ≡ true → NoneOf party rivals
none_of party who old met rivals alone = subst (AllByRecursion (λ (call : RivalCall). call.party ≢ party)) (sym (rivals.none alone)) tt

runs_alone : {A : Type 0} (party : Party) (who : Caller) (course : Course A) (old new : World) (end : End A) → who.alone ≡ true → Runs who course old new end → RunsBeside party who course old new end
runs_alone party who (Ends answer) old new end alone run = run
runs_alone party who (Calls x next) old new end alone (met, (rivals, inl stops)) = (met, (rivals, (none_of party who old met rivals alone, inl stops)))
runs_alone {A} party who (Calls x next) old new end alone (met, (rivals, inr (room, run))) =
    (met, (rivals, (none_of party who old met rivals alone, inr (room, runs_alone {A = A} party who (next met.store) _ new end alone run))))

-- A party that shares the store.
abbrev shares : Caller → Party → Caller
shares who party = record { merge = who.merge; line = who.line; party = party; alone = false }

-- The run of another party is calls of others to a party that does not disturb it, and keeps what that party holds.
others_run : (A : Type 0) → OthersRun A
others_run A = record {
  rivals = λ other who course old new end shared same b. are_rivals {A = A} other who course old new end shared same b.other b.no_sweeper b.lawful b.run;
  workers = λ who course old new end w keep kept b holds. workers.rivals_keep (shares who (Worker w.number)) old new w keep refl kept
      (are_rivals {A = A} (shares who (Worker w.number)) who course old new end refl refl b.other b.no_sweeper b.lawful b.run) holds;
  coordinators = λ who course old new end c local keep kept b holds. coordinators.rivals_keep (shares who (Coordinator c.number)) old new c local keep refl kept
      (are_rivals {A = A} (shares who (Coordinator c.number)) who course old new end refl refl b.other b.no_sweeper b.lawful b.run) holds;
  free_tables = λ who course old new end worker table keep kept b free. tables.rivals_keep_free (shares who (Worker worker)) old new worker table keep refl kept
      (are_rivals {A = A} (shares who (Worker worker)) who course old new end refl refl b.other b.no_sweeper b.lawful b.run) free;
  are_runs = λ party who course old new end run. are_runs {A = A} party who course old new end run;
  alone = λ party who course old new end alone run. runs_alone {A = A} party who course old new end alone run;
}

-- For each kind of step, the run of another party is calls of others to a party that does not disturb it.
pub others_run_steps : OthersRunSteps
others_run_steps = record {
  numbers = others_run _;
  lists = others_run _;
  polls = others_run _;
  claims = others_run _;
  beats = others_run _;
  outputs = others_run _;
  finishes = others_run _;
  flushes = others_run _;
}
