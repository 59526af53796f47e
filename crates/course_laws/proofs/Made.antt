-- The tables that a finish puts: they are held with their rows, and free to be named.
use Rattle.std.proofs.Common.{◌≡◌, refl, sym, ap, subst, ℕ, ◌+◌, List, [], ◌∷◌, ◌++◌, cond, Bool, true, false, inl, Some, None}
use Rattle.std.specs.Prelude.{◌==◌, map, flat_map}
use Rattle.std.specs.List.{AllByRecursion}
use Rattle.std.proofs.lemmas.List.{append-nil, append_assoc}
use Rattle.row_model.specs.Rows.{Row}
use Rattle.fleet_model.specs.Nodes.{table_rows}
use Rattle.fleet_model.specs.Jobs.{Jobs}
use Rattle.fleet_model.specs.Invariants.TreesFit.{IsTable}
use Rattle.fleet_model.specs.History.{Worker, GetRecords, GetTable, PutRecords, RecordChange, Done, Conflict, Entry, stood}
use Rattle.fleet_model.specs.Sweeps.{attempt_tables}
use Rattle.fleet_model.specs.Work.Parties.{Attempt, LiveWorker}
use Rattle.fleet_model.specs.Exchanges.{Plain, DrawsTable, PutsTable, PutsRecords, records_version, with_entry, answer_of, next_table_id}
use Rattle.step_model.specs.Past.{World, world_after}
use Rattle.step_model.specs.LawfulTables.{DrawFits, TableFits}
use Rattle.step_model.specs.Fits.{WorkerHolds}
use Rattle.step_model.specs.Rivals.{Caller, Rivals, after_call}
use Rattle.step_model.specs.Kept.Keeps.{Keeps}
use Rattle.step_model.specs.Courses.Course.{Course, puts_table, puts_tables, puts_ranges}
use Rattle.step_model.specs.Courses.CourseRuns.{IsLawfulCourse}
use Rattle.step_laws.specs.Runs.{CallsKeep}
use Rattle.step_laws.proofs.Runs.{rivals_keep}
use Rattle.step_laws.proofs.Elements.{all_to, all_push}
use Rattle.step_laws.proofs.Mute.{IsQuiet, mute_event, mute_refused}
use Rattle.step_laws.proofs.MuteBodies.{entered}
use Rattle.step_laws.proofs.Quiet.{world_entered}
use Rattle.rival_laws.specs.Free.{IsFree}
use Rattle.rival_laws.proofs.FreeTables.{rivals_keep_free}
use Rattle.course_laws.proofs.Calls.{keeps_after, rivals_hold}
use Rattle.course_laws.proofs.Held.{HasRows, call_rows, put_has_rows}
use Rattle.course_laws.proofs.OwnCalls.{rivals_keep_worker, holds_entered}
use Rattle.course_laws.proofs.Written.{holds_put, holds_drawn}
use Rattle.course_laws.proofs.Free.{IsUnput, rivals_unput, drawn_unput, free_entered, free_put, free_after_draw, free_after_put}

-- What a finish may rely on besides the store: the worker makes it, and lawful calls keep the
-- invariant.
pub record Relies (who : Caller) (w : LiveWorker) : Type 0 where
  pub keep : CallsKeep who.merge
  pub own : who.party ≡ Worker w.number

-- The store meets the invariant, the worker fits it, the attempt's tables have the rows that they had
-- at the start, and the tables that were made since are free and have their rows.
pub record State (who : Caller) (w : LiveWorker) (start : World) (a : Attempt) (pairs : List (ℕ × List Row)) (world : World) : Type 0 where
  pub kept : Keeps who.merge world
  pub holds : WorkerHolds who.merge world w
  pub old : AllByRecursion (λ id. HasRows id (table_rows start.store.tables id) world.store) (attempt_tables a)
  pub made : AllByRecursion (λ p. IsFree who.party world p.0 × HasRows p.0 p.1 world.store) pairs

rows_met : (who : Caller) (w : LiveWorker) (id : ℕ) (rows : List Row) (old new : World) → Relies who w → Keeps who.merge old → Rivals who old new → HasRows id rows old.store → HasRows id rows new.store
rows_met who w id rows old new r kept rivals h =
    rivals_hold who (λ world. HasRows id rows world.store) r.keep (λ world call there rival one. call_rows call.line call.party call.exchange call.strike world.store id rows rival.deletes_none one) old new kept rivals h

pub state_met : (who : Caller) (w : LiveWorker) (start : World) (a : Attempt) (pairs : List (ℕ × List Row)) (old new : World) → Relies who w → State who w start a pairs old → Rivals who old new → State who w start a pairs new
state_met who w start a pairs old new r s rivals = record {
  kept = rivals_keep who old new r.keep s.kept rivals;
  holds = rivals_keep_worker who w r.keep r.own old new s.kept rivals s.holds;
  old = all_to _ _ (attempt_tables a) (λ id there h. rows_met who w id (table_rows start.store.tables id) old new r s.kept rivals h) s.old;
  made = all_to _ _ pairs (λ p there h. (rivals_keep_free who old new w.number p.0 r.keep r.own s.kept rivals h.0, rows_met who w p.0 p.1 old new r s.kept rivals h.1)) s.made;
}

pub state_drawn : (who : Caller) (w : LiveWorker) (start : World) (a : Attempt) (pairs : List (ℕ × List Row)) (moment : ℕ) (world : World) → Relies who w → DrawFits world.store → State who w start a pairs world
    → State who w start a pairs (after_call who.line who.party (DrawsTable moment) None world)
state_drawn who w start a pairs moment world r room s = record {
  kept = keeps_after who (DrawsTable moment) world r.keep s.kept room;
  holds = holds_drawn who.merge who.line who.party moment world w s.holds;
  old = all_to _ _ (attempt_tables a) (λ id there h. call_rows who.line who.party (DrawsTable moment) None world.store id (table_rows start.store.tables id) refl h) s.old;
  made = all_to _ _ pairs (λ p there h. (free_after_draw who.line who.party moment world p.0 h.0, call_rows who.line who.party (DrawsTable moment) None world.store p.0 p.1 refl h.1)) s.made;
}

pub state_put : (who : Caller) (w : LiveWorker) (start : World) (a : Attempt) (pairs : List (ℕ × List Row)) (table : ℕ) (rows : List Row) (world : World) → Relies who w → IsUnput who.party world table → TableFits who.party world.store table rows
    → State who w start a pairs world → State who w start a (pairs ++ (table, rows) ∷ []) (after_call who.line who.party (PutsTable table rows) None world)
state_put who w start a pairs table rows world r unput fits s = record {
  kept = keeps_after who (PutsTable table rows) world r.keep s.kept fits;
  holds = holds_put who.merge who.line who.party table rows world w s.kept s.holds;
  old = all_to _ _ (attempt_tables a) (λ id there h. call_rows who.line who.party (PutsTable table rows) None world.store id (table_rows start.store.tables id) refl h) s.old;
  made = all_push _ pairs (table, rows)
      (all_to _ _ pairs (λ p there h. (free_after_put who.line who.party table rows world p.0 h.0, call_rows who.line who.party (PutsTable table rows) None world.store p.0 p.1 refl h.1)) s.made)
      (free_put who.merge who.line who.party table rows world s.kept unput, put_has_rows who.line who.party world.store table rows s.kept.stored.sound.deleted unput.last.new);
}

state_entered : (who : Caller) (w : LiveWorker) (start : World) (a : Attempt) (pairs : List (ℕ × List Row)) (world : World) (entry : Entry) → IsQuiet (stood entry.answer) entry.event
    → Keeps who.merge (entered world world.store.deleted world.store.jobs_drawn world.store.tables_drawn entry) → State who w start a pairs world
    → State who w start a pairs (entered world world.store.deleted world.store.jobs_drawn world.store.tables_drawn entry)
state_entered who w start a pairs world entry quiet kept s = record {
  kept = kept;
  holds = holds_entered who.merge world w world.store.jobs_drawn world.store.tables_drawn entry quiet s.holds;
  old = all_to _ _ (attempt_tables a) (λ id there h. record { held = h.held; same = h.same }) s.old;
  made = all_to _ _ pairs (λ p there h. (free_entered who.party world world.store.jobs_drawn world.store.tables_drawn entry p.0 h.0, record { held = h.1.held; same = h.1.same })) s.made;
}

pub state_got : (who : Caller) (w : LiveWorker) (start : World) (a : Attempt) (pairs : List (ℕ × List Row)) (world : World) → Relies who w → State who w start a pairs world → State who w start a pairs (after_call who.line who.party (Plain GetRecords) None world)
state_got who w start a pairs world r s =
    let entry : Entry = record { line = who.line; party = who.party; event = GetRecords; answer = answer_of (Plain GetRecords) world.store } in
    let same = world_entered world world.store.deleted world.store.jobs_drawn world.store.tables_drawn entry in
    subst (State who w start a pairs) (sym same)
    (state_entered who w start a pairs world entry (mute_event (stood entry.answer) GetRecords refl).quiet (subst (Keeps who.merge) same (keeps_after who (Plain GetRecords) world r.keep s.kept tt)) s)

pub state_table : (who : Caller) (w : LiveWorker) (start : World) (a : Attempt) (pairs : List (ℕ × List Row)) (table : ℕ) (world : World) → Relies who w → State who w start a pairs world
    → State who w start a pairs (after_call who.line who.party (Plain (GetTable table)) None world)
state_table who w start a pairs table world r s =
    let entry : Entry = record { line = who.line; party = who.party; event = GetTable table; answer = answer_of (Plain (GetTable table)) world.store } in
    let same = world_entered world world.store.deleted world.store.jobs_drawn world.store.tables_drawn entry in
    subst (State who w start a pairs) (sym same)
    (state_entered who w start a pairs world entry (mute_event (stood entry.answer) (GetTable table) refl).quiet (subst (Keeps who.merge) same (keeps_after who (Plain (GetTable table)) world r.keep s.kept tt)) s)

-- After a finish's put of the records is refused, what the finish has made still stands.
pub state_refused : (who : Caller) (w : LiveWorker) (start : World) (a : Attempt) (pairs : List (ℕ × List Row)) (world : World) (version : ℕ) (change : RecordChange) (epoch : ℕ) (jobs : Jobs) → (version == records_version world.store.records) ≡ false
    → Keeps who.merge (after_call who.line who.party (PutsRecords version change epoch jobs) None world) → State who w start a pairs world → State who w start a pairs (after_call who.line who.party (PutsRecords version change epoch jobs) None world)
state_refused who w start a pairs world version change epoch jobs other kept s = by (version == records_version world.store.records) other kept
  where
    After : Bool → World
    After b = world_after world (with_entry who.line who.party (PutRecords change) (cond b (Done (records_version world.store.records + 1)) (Conflict (records_version world.store.records))) (cond b (record world.store { records = Some (record { version = version + 1; epoch = epoch; jobs = jobs }) }) world.store))

    by : (b : Bool) → b ≡ false → Keeps who.merge (After b) → State who w start a pairs (After b)
    by true e kept = absurd (cc e)
    by false e kept =
        let entry : Entry = record { line = who.line; party = who.party; event = PutRecords change; answer = Conflict (records_version world.store.records) } in
        let same = world_entered world world.store.deleted world.store.jobs_drawn world.store.tables_drawn entry in
        subst (State who w start a pairs) (sym same) (state_entered who w start a pairs world entry (mute_refused (PutRecords change)).quiet (subst (Keeps who.merge) same kept) s)

-- ---- the puts

-- The ids and the rows of tables that were made.
abbrev pub ids_of : List (ℕ × List Row) → List ℕ
ids_of made = map (λ p. p.0) made

abbrev pub tables_of : List (ℕ × List Row) → List (List Row)
tables_of made = map (λ p. p.1) made

-- A course that draws an id and puts a table is lawful, if what comes next is so where the table is held and free.
one_made : {A : Type 0} (who : Caller) (w : LiveWorker) (start : World) (a : Attempt) (moment : ℕ) (rows : List Row) (pairs : List (ℕ × List Row)) (next : ℕ → Course A) (world : World) → Relies who w → IsTable rows → State who w start a pairs world
    → ((new : World) (table : ℕ) → State who w start a (pairs ++ (table, rows) ∷ []) new → IsLawfulCourse who new (next table)) → IsLawfulCourse who world (puts_table moment rows next)
one_made who w start a moment rows pairs next world r sound s goes = λ d before room.
    let table = next_table_id moment d.store in
    let there = state_met who w start a pairs world d r s before in
    let drawn = after_call who.line who.party (DrawsTable moment) None d in
    let after_draw = state_drawn who w start a pairs moment d r room there in (
      room,
      λ t between room_there.
          let unput = rivals_unput who table drawn t r.keep after_draw.kept between (drawn_unput who d moment r.keep there.kept room) in
          let fits : TableFits who.party t.store table rows = record { sound = sound; new = unput.last.new; named = inl unput.last.last } in
          (fits, goes (after_call who.line who.party (PutsTable table rows) None t) table (state_put who w start a pairs table rows t r unput fits (state_met who w start a pairs drawn t r after_draw between))),
    )

tables_made : {A : Type 0} (who : Caller) (w : LiveWorker) (start : World) (a : Attempt) (moment : ℕ) (tables : List (List Row)) (pairs : List (ℕ × List Row)) (next : List ℕ → Course A) (world : World) → Relies who w
    → AllByRecursion IsTable tables → State who w start a pairs world
    → ((new : World) (made : List (ℕ × List Row)) → tables_of made ≡ tables → State who w start a (pairs ++ made) new → IsLawfulCourse who new (next (ids_of made))) → IsLawfulCourse who world (puts_tables moment tables next)
tables_made who w start a moment [] pairs next world r sound s goes = goes world [] refl (subst (λ ps. State who w start a ps world) (sym (append-nil pairs)) s)
tables_made {A} who w start a moment (rows ∷ tables) pairs next world r sound s goes =
    one_made {A = A} who w start a moment rows pairs (λ table. puts_tables moment tables (λ ids. next (table ∷ ids))) world r sound.0 s (λ new table there.
    tables_made {A = A} who w start a moment tables (pairs ++ (table, rows) ∷ []) (λ ids. next (table ∷ ids)) new r sound.1 there (λ later made e all.
    goes later ((table, rows) ∷ made) (ap (λ xs. rows ∷ xs) e) (subst (λ ps. State who w start a ps later) (append_assoc pairs ((table, rows) ∷ []) made) all)))

-- The tables that were made for all ranges.
abbrev pub all_of : List (List (ℕ × List Row)) → List (ℕ × List Row)
all_of made = flat_map (λ tables. tables) made

-- The puts of the tables of each range are lawful, and what they make is held and free.
pub ranges_made : {A : Type 0} (who : Caller) (w : LiveWorker) (start : World) (a : Attempt) (moment : ℕ) (ranges : List (List (List Row))) (pairs : List (ℕ × List Row)) (next : List (List ℕ) → Course A) (world : World) → Relies who w
    → AllByRecursion (AllByRecursion IsTable) ranges → State who w start a pairs world
    → ((new : World) (made : List (List (ℕ × List Row))) → map tables_of made ≡ ranges → State who w start a (pairs ++ all_of made) new → IsLawfulCourse who new (next (map ids_of made)))
    → IsLawfulCourse who world (puts_ranges moment ranges next)
ranges_made who w start a moment [] pairs next world r sound s goes = goes world [] refl (subst (λ ps. State who w start a ps world) (sym (append-nil pairs)) s)
ranges_made {A} who w start a moment (tables ∷ ranges) pairs next world r sound s goes =
    tables_made {A = A} who w start a moment tables pairs (λ ids. puts_ranges moment ranges (λ others. next (ids ∷ others))) world r sound.0 s (λ new made e there.
    ranges_made {A = A} who w start a moment ranges (pairs ++ made) (λ others. next (ids_of made ∷ others)) new r sound.1 there (λ later others f all.
    goes later (made ∷ others) (λ i. e i ∷ f i) (subst (λ ps. State who w start a ps later) (append_assoc pairs made (all_of others)) all)))
