-- A flush that is alone leaves no table that is still to come to a tree.
use Rattle.std.proofs.Common.{◌≡◌, refl, sym, ◌∙◌, ap, subst, ℕ, zero, suc, List, cond, Bool, true, false, Option, Some, None, inl, inr}
use Rattle.std.specs.Prelude.{◌==◌, ◌&&◌, ⊤}
use Rattle.fleet_model.specs.History.{Party, Writer, Event, PutTable, Flush, Entry, Answer, Lost, Stands, Conflict}
use Rattle.fleet_model.specs.Store.{Manifest, Store}
use Rattle.fleet_model.specs.Exchanges.{Exchange, Plain, PutsTable, event_of, answer_of, stands_or_lost}
use Rattle.step_model.specs.Past.{World}
use Rattle.step_model.specs.Entries.{party_eq, last_from, is_pending_in, is_put_of}
use Rattle.step_model.specs.Rivals.{Caller, Strike, after_call}
use Rattle.step_model.specs.Courses.Course.{Course, Ends, Calls, then_course, puts_manifest}
use Rattle.step_model.specs.Courses.CourseRuns.{End, Gives, MeetsFault, LacksMemory, Runs}
use Rattle.step_model.specs.Courses.StepEnds.{StepEnd, Reports, FlushFault, most_refused}
use Rattle.step_model.specs.Steps.FlushSteps.{FlushAsk, flush, flushes_from, unless_bad, puts_unless_put, fault_before_get, fault_after_get, with_flush}
use Rattle.course_laws.proofs.Later.{entry_by, call_history}
use Rattle.course_laws.proofs.Sweeps.{NonePending}
use Rattle.line_laws.proofs.Steps.{HasEnded}
use Rattle.course_laws.proofs.NewTables.{last_own}

-- ---- the writer's last entry

-- ---- entries that are not pending

other_event : (line : ℕ) (party : Party) (event : Event) (answer : Answer) (table : ℕ) → is_put_of table event ≡ false → is_pending_in table (Some (record { line = line; party = party; event = event; answer = answer })) ≡ false
other_event line party event answer table e = rw e refl

lost_event : (line : ℕ) (party : Party) (event : Event) (table : ℕ) → is_pending_in table (Some (record { line = line; party = party; event = event; answer = Lost })) ≡ false
lost_event line party event table = by (is_put_of table event)
  where
    by : (b : Bool) → (b && false) ≡ false
    by true = refl
    by false = refl

stood_event : (line : ℕ) (party : Party) (event : Event) (table : ℕ) → is_pending_in table (Some (record { line = line; party = party; event = event; answer = Stands })) ≡ false
stood_event line party event table = by (is_put_of table event)
  where
    by : (b : Bool) → (b && false) ≡ false
    by true = refl
    by false = refl

struck_event : (line : ℕ) (party : Party) (event : Event) (answer : Answer) (table : ℕ) → is_pending_in table (Some (record { line = line; party = party; event = event; answer = stands_or_lost answer })) ≡ false
struck_event line party event (Conflict version) table = lost_event line party event table
struck_event line party event answer table = stood_event line party event table

-- The call puts a table.
abbrev is_table_put : Exchange → Bool
is_table_put (Plain (PutTable table rows)) = true
is_table_put (PutsTable table rows) = true
is_table_put x = false

puts_none : (x : Exchange) (store : Store) (table : ℕ) → is_table_put x ≡ false → is_put_of table (event_of x store) ≡ false
puts_none (Plain (PutTable other rows)) store table e = absurd (cc e)
puts_none (PutsTable other rows) store table e = absurd (cc e)
puts_none x store table e = refl

not_pending : (x : Exchange) (line : ℕ) (party : Party) (strike : Strike) (store : Store) (table : ℕ) → (strike ≡ None → is_table_put x ≡ false) → is_pending_in table (Some (entry_by line party x strike store)) ≡ false
not_pending x line party None store table none = other_event line party (event_of x store) (answer_of x store) table (puts_none x store table (none refl))
not_pending x line party (Some true) store table none = struck_event line party (event_of x store) (answer_of x store) table
not_pending x line party (Some false) store table none = lost_event line party (event_of x store) table

-- The writer's own call leaves no flush pending, if it puts no table or is struck.
own_call : (who : Caller) (x : Exchange) (strike : Strike) (world : World) → party_eq Writer who.party ≡ true → (strike ≡ None → is_table_put x ≡ false) → NonePending (after_call who.line who.party x strike world).store
own_call who x strike world own none = λ table.
    ap (is_pending_in table) (ap (λ (history : List Entry). last_from None Writer history) (call_history who.line who.party x strike world.store) ∙ last_own Writer world.store.history (entry_by who.line who.party x strike world.store) None own)
    ∙ not_pending x who.line who.party strike world.store table none

-- ---- courses of the writer

-- After each put of a table the course makes another call. The flag says that the last call put one.
abbrev Rests : {A : Type 0} → Bool → Course A → Type 0
Rests put (Ends answer) = put ≡ false
Rests put (Calls x next) = (met : Store) → Rests (is_table_put x) (next met)

rests : {A : Type 0} (who : Caller) (put : Bool) (course : Course A) → who.alone ≡ true → party_eq Writer who.party ≡ true → Rests put course → (old new : World) (end : End A) → HasEnded end → (put ≡ false → NonePending old.store) → Runs who course old new end
    → NonePending new.store
rests who put (Ends answer) alone own rest old new end whole none run = subst (λ (world : World). NonePending world.store) run.0 (none rest)
rests who put (Calls x next) alone own rest old new (Gives answer) whole none (met, (rivals, inl stops)) = absurd stops
rests who put (Calls x next) alone own rest old new MeetsFault whole none (met, (rivals, inl stops)) =
    subst (λ (world : World). NonePending world.store) (sym stops.1.1) (own_call who x (Some stops.1.0) met own (λ never. absurd (cc never)))
rests who put (Calls x next) alone own rest old new LacksMemory whole none (met, (rivals, inl stops)) = absurd whole
rests who put (Calls x next) alone own rest old new end whole none (met, (rivals, inr (room, run))) =
    rests who (is_table_put x) (next met.store) alone own (rest met.store) _ new end whole (λ no_put. own_call who x None met own (λ same. no_put)) run

-- ---- a flush

bad_rests : (fault : Option FlushFault) (next : Course (StepEnd ⊤)) → Rests false next → Rests false (unless_bad fault next)
bad_rests None next rest = rest
bad_rests (Some fault) next rest = refl

-- A flush makes another call after each put of a table.
flush_rests : (moment retention : ℕ) (ask : FlushAsk) (left : ℕ) (is_put : Bool) (seen : ℕ) → Rests false (flushes_from moment retention ask left is_put seen)
flush_rests moment retention ask zero is_put seen = refl
flush_rests moment retention ask (suc left) is_put seen = λ met. bad_rests (fault_after_get met.manifest ask) _ (puts is_put met.manifest (flush_rests moment retention ask left true))
  where
    put : (manifest : Manifest) → ((seen : ℕ) → Rests false (flushes_from moment retention ask left true seen)) → (b : Bool)
        → Rests b (puts_manifest manifest.version (Flush ask.name ask.segment ask.floor ask.tick) (with_flush moment retention ask manifest) (Ends (Reports tt)) (flushes_from moment retention ask left true))
    put manifest again b = λ met. by (manifest.version == met.manifest.version) met.manifest.version
      where
        by : (b : Bool) (seen : ℕ) → Rests false (cond b (Ends (Reports tt)) (flushes_from moment retention ask left true seen))
        by true seen = refl
        by false seen = again seen

    puts : (is_put : Bool) (manifest : Manifest) → ((seen : ℕ) → Rests false (flushes_from moment retention ask left true seen))
        → Rests false (puts_unless_put is_put ask (puts_manifest manifest.version (Flush ask.name ask.segment ask.floor ask.tick) (with_flush moment retention ask manifest) (Ends (Reports tt)) (flushes_from moment retention ask left true)))
    puts true manifest again = put manifest again false
    puts false manifest again = λ met. put manifest again true

rests_then : {A B : Type 0} (put : Bool) (step : Course A) (ends : A → B) → Rests put step → Rests put (then_course step (λ answer. Ends (ends answer)))
rests_then put (Ends answer) ends rest = rest
rests_then put (Calls x next) ends rest = λ met. rests_then (is_table_put x) (next met) ends (rest met)

pub flush_none : {B : Type 0} (who : Caller) (moment retention last : ℕ) (ask : FlushAsk) (ends : StepEnd ⊤ → B) (old new : World) (end : End B) → who.alone ≡ true → party_eq Writer who.party ≡ true → HasEnded end → NonePending old.store
    → Runs who (then_course (flush moment retention last ask) (λ answer. Ends (ends answer))) old new end → NonePending new.store
unfolding flush
flush_none who moment retention last ask ends old new end alone own whole none run =
    rests who false (then_course (flush moment retention last ask) (λ answer. Ends (ends answer))) alone own
    (rests_then false (flush moment retention last ask) ends (bad_rests (fault_before_get last ask) (flushes_from moment retention ask most_refused false 0) (flush_rests moment retention ask most_refused false 0))) old new end whole (λ same. none) run
