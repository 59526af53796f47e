-- Runs that get tables and put tables.
use Rattle.std.proofs.Common.{◌≡◌, sym, subst, ℕ, List, [], ◌∷◌, ◌++◌, false, Some, None, map}
use Rattle.std.specs.List.{AllByRecursion}
use Rattle.std.proofs.lemmas.List.{append-nil, append_assoc}
use Rattle.row_model.specs.Rows.{Row}
use Rattle.fleet_model.specs.Nodes.{is_among}
use Rattle.fleet_model.specs.Handles.{context_tables}
use Rattle.fleet_model.specs.History.{GetTable}
use Rattle.fleet_model.specs.Store.{Store, is_held}
use Rattle.fleet_model.specs.Work.Parties.{Attempt, LiveWorker}
use Rattle.fleet_model.specs.Sweeps.{attempt_tables}
use Rattle.fleet_model.specs.Exchanges.{Exchange, Plain, DrawsTable, PutsTable, next_table_id}
use Rattle.step_model.specs.Past.{World}
use Rattle.step_model.specs.Rivals.{Caller, after_call}
use Rattle.step_model.specs.Kept.Keeps.{Keeps}
use Rattle.step_model.specs.Fits.{WorkerHolds, noted_tables}
use Rattle.step_model.specs.Courses.Course.{Course, Calls, calls_each, puts_table, puts_tables, puts_ranges}
use Rattle.step_model.specs.Courses.CourseRuns.{End, StopsAt, Runs, IsLawfulCourse}
use Rattle.step_model.specs.Courses.StepEnds.{StepEnd}
use Rattle.step_model.specs.Steps.OutputSteps.{gets_tables}
use Rattle.step_laws.proofs.Elements.{IsIn, all_at, all_append, all_back, all_true_front}
use Rattle.step_laws.proofs.Held.{held_put}
use Rattle.course_laws.proofs.Beats.{Fit}
use Rattle.course_laws.proofs.Free.{rivals_unput, drawn_unput}
use Rattle.course_laws.proofs.Made.{Relies, State, state_met, state_drawn, state_put, state_table, ids_of, all_of}
use Rattle.worker_laws.proofs.Runs.{Made, call_by}
use Rattle.rival_laws.proofs.FreeTables.{refused}

-- Where a run of the worker stops at a call, this follows.
abbrev pub Stops : {A : Type 0} → Type 0 → Caller → LiveWorker → World → End (StepEnd A) → Type 0
Stops R who w new end = (x : Exchange) (met : World) → Fit who w met → StopsAt who x met new end → R

fit_of : (who : Caller) (w : LiveWorker) (start : World) (a : Attempt) (pairs : List (ℕ × List Row)) (world : World) → State who w start a pairs world → Fit who w world
fit_of who w start a pairs world s = record { kept = s.kept; holds = s.holds }

-- ---- gets

-- Gets of tables leave what was made.
pub gets : {A : Type 0} (R : Type 0) (who : Caller) (w : LiveWorker) (start : World) (a : Attempt) (next : Course (StepEnd A)) (new : World) (end : End (StepEnd A)) → Relies who w → Stops R who w new end
    → ((world : World) → State who w start a [] world → IsLawfulCourse who world next → Runs who next world new end → R)
    → (tables : List ℕ) (old : World) → State who w start a [] old → IsLawfulCourse who old (calls_each (gets_tables tables) next) → Runs who (calls_each (gets_tables tables) next) old new end → R
gets R who w start a next new end r stops goes [] old s lawful run = goes old s lawful run
gets {A} R who w start a next new end r stops goes (table ∷ tables) old s lawful run =
    call_by R who w (Plain (GetTable table)) (λ (met : Store). calls_each (gets_tables tables) next) old new end r (fit_of who w start a [] old s) lawful run (λ met fit stop. stops (Plain (GetTable table)) met fit stop)
    (λ m. gets {A = A} R who w start a next new end r stops goes tables (after_call who.line who.party (Plain (GetTable table)) None m.met) (state_table who w start a [] table m.met r (state_met who w start a [] old m.met r s m.rivals)) m.further m.run)

-- ---- one table

-- No attempt of the worker has noted the table.
abbrev pub IsUnnoted : LiveWorker → ℕ → Type 0
IsUnnoted w table = (b : Attempt) → IsIn b w.attempts → IsIn table (noted_tables b) → ⊥

-- A table that was not put is noted nowhere.
unnoted : (who : Caller) (w : LiveWorker) (world : World) (table : ℕ) → Keeps who.merge world → WorkerHolds who.merge world w → is_among world.store.tables table ≡ false → IsUnnoted w table
unnoted who w world table kept holds new b there noted =
    refused (is_among world.store.tables table) new
    (held_put world.store table (all_at _ (noted_tables b) table (all_back _ b.sources (context_tables (Some b.context)) (all_true_front (is_held world.store) (attempt_tables b) (all_at _ w.attempts b (holds.fits kept.stored.replay.specs kept.faithful).each there).held)) noted))

-- A run that puts a table stops, or goes on with the table among those that it made, while no attempt has noted it.
pub puts_one : {A : Type 0} (R : Type 0) (who : Caller) (w : LiveWorker) (start : World) (a : Attempt) (moment : ℕ) (rows : List Row) (pairs : List (ℕ × List Row)) (next : ℕ → Course (StepEnd A)) (new : World) (end : End (StepEnd A)) → Relies who w → Stops R who w new end
    → ((world : World) (table : ℕ) → State who w start a (pairs ++ (table, rows) ∷ []) world → IsUnnoted w table → IsLawfulCourse who world (next table) → Runs who (next table) world new end → R)
    → (old : World) → State who w start a pairs old → IsLawfulCourse who old (puts_table moment rows next) → Runs who (puts_table moment rows next) old new end → R
puts_one {A} R who w start a moment rows pairs next new end r stops goes old s lawful run =
    call_by R who w (DrawsTable moment) then old new end r (fit_of who w start a pairs old s) lawful run (λ met fit stop. stops (DrawsTable moment) met fit stop) drawn
  where
    then : Store → Course (StepEnd A)
    then met = Calls (PutsTable (next_table_id moment met) rows) (λ after. next (next_table_id moment met))

    drawn : Made who w (DrawsTable moment) then old new end → R
    drawn d = call_by R who w (PutsTable table rows) (λ (after : Store). next table) afterwards new end r (fit_of who w start a pairs afterwards state) d.further d.run (λ met fit stop. stops (PutsTable table rows) met fit stop) put
      where
        table : ℕ
        table = next_table_id moment d.met.store

        afterwards : World
        afterwards = after_call who.line who.party (DrawsTable moment) None d.met

        state : State who w start a pairs afterwards
        state = state_drawn who w start a pairs moment d.met r d.room (state_met who w start a pairs old d.met r s d.rivals)

        put : Made who w (PutsTable table rows) (λ (after : Store). next table) afterwards new end → R
        put m =
            let unput = rivals_unput who table afterwards m.met r.keep d.kept m.rivals (drawn_unput who d.met moment r.keep d.fit.kept d.room) in
            goes (after_call who.line who.party (PutsTable table rows) None m.met) table (state_put who w start a pairs table rows m.met r unput m.lawful (state_met who w start a pairs afterwards m.met r state m.rivals))
            (unnoted who w m.met table m.fit.kept m.fit.holds unput.last.new) m.further m.run

-- ---- many tables

-- No attempt of the worker has noted one of these tables.
abbrev pub AreUnnoted : LiveWorker → List (ℕ × List Row) → Type 0
AreUnnoted w made = AllByRecursion (λ p. IsUnnoted w p.0) made

puts_list : {A : Type 0} (R : Type 0) (who : Caller) (w : LiveWorker) (start : World) (a : Attempt) (moment : ℕ) (new : World) (end : End (StepEnd A)) → Relies who w → Stops R who w new end → (tables : List (List Row)) (pairs : List (ℕ × List Row)) (next : List ℕ → Course (StepEnd A))
    → ((world : World) (made : List (ℕ × List Row)) → State who w start a (pairs ++ made) world → AreUnnoted w made → IsLawfulCourse who world (next (ids_of made)) → Runs who (next (ids_of made)) world new end → R)
    → (old : World) → State who w start a pairs old → IsLawfulCourse who old (puts_tables moment tables next) → Runs who (puts_tables moment tables next) old new end → R
puts_list R who w start a moment new end r stops [] pairs next goes old s lawful run = goes old [] (subst (λ ps. State who w start a ps old) (sym (append-nil pairs)) s) tt lawful run
puts_list {A} R who w start a moment new end r stops (rows ∷ tables) pairs next goes old s lawful run =
    puts_one {A = A} R who w start a moment rows pairs (λ table. puts_tables moment tables (λ ids. next (table ∷ ids))) new end r stops
    (λ world table state lacks further on. puts_list {A = A} R who w start a moment new end r stops tables (pairs ++ (table, rows) ∷ []) (λ ids. next (table ∷ ids))
    (λ later made all none last rest. goes later ((table, rows) ∷ made) (subst (λ ps. State who w start a ps later) (append_assoc pairs ((table, rows) ∷ []) made) all) (lacks, none) last rest) world state further on) old s lawful run

-- The puts of the tables of all ranges.
pub puts_all : {A : Type 0} (R : Type 0) (who : Caller) (w : LiveWorker) (start : World) (a : Attempt) (moment : ℕ) (new : World) (end : End (StepEnd A)) → Relies who w → Stops R who w new end → (ranges : List (List (List Row))) (pairs : List (ℕ × List Row)) (next : List (List ℕ) → Course (StepEnd A))
    → ((world : World) (made : List (List (ℕ × List Row))) → State who w start a (pairs ++ all_of made) world → AreUnnoted w (all_of made) → IsLawfulCourse who world (next (map ids_of made)) → Runs who (next (map ids_of made)) world new end → R)
    → (old : World) → State who w start a pairs old → IsLawfulCourse who old (puts_ranges moment ranges next) → Runs who (puts_ranges moment ranges next) old new end → R
puts_all R who w start a moment new end r stops [] pairs next goes old s lawful run = goes old [] (subst (λ ps. State who w start a ps old) (sym (append-nil pairs)) s) tt lawful run
puts_all {A} R who w start a moment new end r stops (tables ∷ ranges) pairs next goes old s lawful run =
    puts_list {A = A} R who w start a moment new end r stops tables pairs (λ ids. puts_ranges moment ranges (λ others. next (ids ∷ others)))
    (λ world made state lacks further on. puts_all {A = A} R who w start a moment new end r stops ranges (pairs ++ made) (λ others. next (ids_of made ∷ others))
    (λ later others all none last rest. goes later (made ∷ others) (subst (λ ps. State who w start a ps later) (append_assoc pairs made (all_of others)) all) (all_append _ made (all_of others) lacks none) last rest) world state further on) old s lawful run
