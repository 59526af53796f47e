-- Gets of source tables as turns of a step.
use Rattle.std.proofs.Common.{◌≡◌, refl, sym, ◌∙◌, ap, subst, ℕ, zero, suc, ◌+◌, ◌<◌, ◌≤◌, length, take, drop, get_or, arith, append_assoc, cond, Bool, true, false, inl, inr, List, [], ◌∷◌, ◌++◌, ◌&&◌, Option, Some, None, option_map, Ok, Err, eq-eqb}
use Rattle.std.specs.Prelude.{◌==◌, ◌||◌, ◌⊎◌, IsTrue, filter, find, not}
use Rattle.std.specs.List.{AllByRecursion}
use Rattle.std.proofs.lemmas.Bool.{eqb-true, ne_eqb}
use Rattle.std.proofs.lemmas.List.{map-append, take-append-drop, take_more}
use Rattle.row_model.specs.Ranges.{Range, is_after_start, is_before_end}
use Rattle.row_model.specs.Rows.{Row}
use Rattle.fleet_model.specs.Exchanges.{Plain}
use Rattle.fleet_model.specs.Handles.{Handle}
use Rattle.fleet_model.specs.History.{GetTable}
use Rattle.fleet_model.specs.Jobs.{contains}
use Rattle.fleet_model.specs.Nodes.{Tables, is_among, rows_or_none, table_rows}
use Rattle.fleet_model.specs.Store.{AreHeld, Store, is_held}
use Rattle.step_model.specs.Past.{World}
use Rattle.step_model.specs.Rivals.{Caller, RivalCall, Rivals, RivalsFrom, after_rival}
use Rattle.step_model.specs.Courses.Course.{Course, Ends, calls_each}
use Rattle.step_model.specs.Courses.StepEnds.{StepEnd}
use Rattle.step_model.specs.Steps.OutputSteps.{gets_tables, meets}
use Rattle.step_model.specs.Views.{StoreView}
use Rattle.step_laws.proofs.Elements.{all_true_front}
use Rattle.step_laws.proofs.Held.{is_held_so}
use Rattle.step_laws.proofs.Later.{rivals_later, table_stays}
use Rattle.course_laws.proofs.Held.{call_rows}
use Rattle.fleet_rows.specs.declared.errors.SlateDBError.{SlateDBError}
use Rattle.fleet_rows.specs.declared.errors.SlateDBError.TheVariants.{Memory}
use Rattle.fleet_tree.specs.declared.handle.SsTableHandle.{SsTableHandle}
use Rattle.fleet_jobs.specs.Contexts.{table_ids}
use Rattle.fleet_store.specs.Asks.{GetsTable}
use Rattle.fleet_store.specs.Handles.{IsDescribed}
use Rattle.fleet_store.specs.Tables.{held_rows}
use Rattle.fleet_step.specs.Steps.{Leads, TryRan}
use Rattle.fleet_step.proofs.Steps.{begins, call_leads, then_leads, then_tried, tried, wants}
use Rattle.fleet_step.proofs.Turns.{get_fails}
use Rattle.fleet_exec.specs.Ranges.{Sources}
use Rattle.fleet_output.specs.Gets.{FailsNext, GotEach, GotSource, GotTable, GotUntil, ids_in, meets_range, sources_at}

-- ---- which tables are got

-- A description meets a range exactly if its table does.
meets_so : (tables : Tables) (range : Range) (table : SsTableHandle) → IsDescribed tables table → meets_range range table ≡ meets tables range table.id
meets_so tables range table is =
    ap (λ (h : Handle). is_before_end range.to h.first_key && is_after_start range.from h.last_key) is.describes

-- The tables that are got are those of the model.
pub ids_are : (stored : Tables) (range : Range) (tables : List SsTableHandle) → AllByRecursion (IsDescribed stored) tables → ids_in range tables ≡ filter (meets stored range) (table_ids tables)
ids_are stored range [] all = refl
ids_are stored range (table ∷ tables) all = ap (λ b. table_ids (cond b (table ∷ filter (meets_range range) tables) (filter (meets_range range) tables))) (meets_so stored range table all.0) ∙ by (meets stored range table.id) (ids_are stored range tables all.1)
  where
    by : (b : Bool) → table_ids (filter (meets_range range) tables) ≡ filter (meets stored range) (table_ids tables)
        → table_ids (cond b (table ∷ filter (meets_range range) tables) (filter (meets_range range) tables)) ≡ cond b (table.id ∷ filter (meets stored range) (table_ids tables)) (filter (meets stored range) (table_ids tables))
    by true rest = ap (λ ids. table.id ∷ ids) rest
    by false rest = rest

-- ---- tables that are held

-- Calls of others leave a table held.
rivals_held : (who : Caller) (old met : World) (id : ℕ) → Rivals who old met → IsTrue (is_held old.store id) → IsTrue (is_held met.store id)
rivals_held who old met id rivals held = by rivals.calls old rivals.lead held
  where
    by : (calls : List RivalCall) (from : World) → RivalsFrom who calls from met → IsTrue (is_held from.store id) → IsTrue (is_held met.store id)
    by [] from lead held = subst (λ (t : World). IsTrue (is_held t.store id)) lead held
    by (c ∷ calls) from lead held =
        by calls (after_rival c from) lead.1 (call_rows c.line c.party c.exchange c.strike from.store id (table_rows from.store.tables id) lead.0.deletes_none (record { held = held; same = refl })).held

-- So does the get of a table.
got_held : (old new : StoreView) (got id : ℕ) → GotTable got old new → IsTrue (is_held old.world.store id) → IsTrue (is_held new.world.store id)
got_held old new got id (rows, called) held =
    let met = called.met in
    let there = rivals_held old.who old.world met id called.rivals held in
    subst (λ (t : World). IsTrue (is_held t.store id)) (sym called.ended.1.leaves)
    (call_rows old.who.line old.who.party (Plain (GetTable got)) None met.store id (table_rows met.store.tables id) refl (record { held = there; same = refl })).held

-- A table that was held is held after these gets.
pub each_held : (ids : List ℕ) (old new : StoreView) (id : ℕ) → GotEach ids old new → IsTrue (is_held old.world.store id) → IsTrue (is_held new.world.store id)
each_held [] old new id same held = subst (λ (v : StoreView). IsTrue (is_held v.world.store id)) (sym same) held
each_held (first ∷ ids) old new id (mid, (got, rest)) held = each_held ids mid new id rest (got_held old mid first id got held)

-- ---- the rows of a table that is held

-- Among tables without the deleted ones the same table is found, if it is not deleted itself.
find_held : (deleted : List ℕ) (id : ℕ) → contains deleted id ≡ false → (tables : Tables)
    → find (λ (t : ℕ × List Row). id == t.0) (filter (λ t. not (contains deleted t.0)) tables) ≡ find (λ (t : ℕ × List Row). t.0 == id) tables
find_held deleted id live [] = refl
find_held deleted id live (t ∷ tables) = by (t.0 == id) refl (find_held deleted id live tables)
  where
    kept : Tables
    kept = filter (λ t. not (contains deleted t.0)) tables

    sought : Tables → Option (ℕ × List Row)
    sought tables = find (λ (t : ℕ × List Row). id == t.0) tables

    other : (t.0 == id) ≡ false → (id == t.0) ≡ false
    other e = ne_eqb id t.0 (λ same. differ (sym (eq-eqb t.0 id (sym same)) ∙ e))
      where
        differ : true ≡ false → ⊥
        differ e = cc e

    by : (b : Bool) → (t.0 == id) ≡ b → sought kept ≡ find (λ (t : ℕ × List Row). t.0 == id) tables
        → sought (cond (not (contains deleted t.0)) (t ∷ kept) kept) ≡ cond b (Some t) (find (λ (t : ℕ × List Row). t.0 == id) tables)
    by true e rest =
        let same : t.0 ≡ id = eqb-true t.0 id e in
        ap (λ b. sought (cond (not b) (t ∷ kept) kept)) (ap (contains deleted) same ∙ live) ∙ ap (λ b. cond b (Some t) (sought kept)) (eq-eqb id t.0 (sym same))
    by false e rest = skips (contains deleted t.0)
      where
        skips : (b : Bool) → sought (cond (not b) (t ∷ kept) kept) ≡ find (λ (t : ℕ × List Row). t.0 == id) tables
        skips true = rest
        skips false = ap (λ b. cond b (Some t) (sought kept)) (other e) ∙ rest

both : (a b : Bool) → (a && b) ≡ true → (a ≡ true) × (b ≡ true)
both true b e = (refl, e)
both false b e = absurd (cc e)

unless : (b : Bool) → not b ≡ true → b ≡ false
unless true e = absurd (cc e)
unless false e = refl

among_found : (tables : Tables) (id : ℕ) → is_among tables id ≡ true → find (λ (t : ℕ × List Row). t.0 == id) tables ≡ None → ⊥
among_found [] id there none = cc there
among_found (t ∷ tables) id there none = by (t.0 == id) (among_found tables id) there none
  where
    by : (b : Bool) → (is_among tables id ≡ true → find (λ (t : ℕ × List Row). t.0 == id) tables ≡ None → ⊥) → (b || is_among tables id) ≡ true → cond b (Some t) (find (λ (t : ℕ × List Row). t.0 == id) tables) ≡ None → ⊥
    by true rest there none = cc none
    by false rest there none = rest there none

-- What is answered for a table that is held.
module _ (store : Store) (id : ℕ) (held : IsTrue (is_held store id)) where
  parts : (is_among store.tables id ≡ true) × (not (contains store.deleted id) ≡ true)
  parts = both (is_among store.tables id) (not (contains store.deleted id)) (sym (is_held_so store id) ∙ held)

  answered : held_rows id store ≡ option_map (λ (t : ℕ × List Row). t.1) (find (λ (t : ℕ × List Row). t.0 == id) store.tables)
  answered = ap (option_map (λ (t : ℕ × List Row). t.1)) (find_held store.deleted id (unless (contains store.deleted id) parts.1) store.tables)

  -- It is not None.
  pub some_rows : None ≡ held_rows id store → ⊥
  some_rows none = by (find (λ (t : ℕ × List Row). t.0 == id) store.tables) refl (none ∙ answered)
    where
      by : (o : Option (ℕ × List Row)) → find (λ (t : ℕ × List Row). t.0 == id) store.tables ≡ o → None ≡ option_map (λ (t : ℕ × List Row). t.1) o → ⊥
      by None is e = among_found store.tables id parts.0 is
      by (Some t) is e = cc e

  -- They are the table's rows.
  pub its_rows : (rows : List Row) → Some rows ≡ held_rows id store → rows ≡ table_rows store.tables id
  its_rows rows some = by (find (λ (t : ℕ × List Row). t.0 == id) store.tables) (some ∙ answered)
    where
      by : (o : Option (ℕ × List Row)) → Some rows ≡ option_map (λ (t : ℕ × List Row). t.1) o → rows ≡ rows_or_none o
      by None e = absurd (cc e)
      by (Some t) e = cc e

-- ---- one get

module _ (old new : StoreView) (id : ℕ) (held : IsTrue (is_held old.world.store id)) where
  -- A table that is held is answered.
  pub is_answered : GetsTable old new id (Ok None) → ⊥
  is_answered called = some_rows called.met.store id (rivals_held old.who old.world called.met id called.rivals held) called.ended.0

  -- It has its rows.
  pub answers_rows : (rows : List Row) → GetsTable old new id (Ok (Some rows)) → rows ≡ table_rows old.world.store.tables id
  answers_rows rows called =
      let met = called.met in
      its_rows met.store id (rivals_held old.who old.world met id called.rivals held) rows called.ended.0
      ∙ (table_stays id old.world.store met.store (rivals_later old.who old.world met called.rivals) ((parts old.world.store id held).0)).rows

-- ---- all gets

-- One more table was got.
pub each_more : (ids : List ℕ) (id : ℕ) (old mid new : StoreView) → GotEach ids old mid → GotTable id mid new → GotEach (ids ++ id ∷ []) old new
each_more [] id old mid new same got = (new, (subst (λ v. GotTable id v new) same got, refl))
each_more (first ∷ ids) id old mid new (one, (got, rest)) more = (one, (got, each_more ids id one mid new rest more))

-- All tables were got.
pub got_leads : {A : Type 0} (ids : List ℕ) (old new : StoreView) → GotEach ids old new → (next : Course A) → Leads (calls_each (gets_tables ids) next) old next new
got_leads [] old new same next = subst (λ v. Leads next old next v) (sym same) (begins next old)
got_leads (id ∷ ids) old new (mid, ((rows, called), rest)) next =
    then_leads (call_leads called (λ met. calls_each (gets_tables ids) next)) (got_leads ids mid new rest next)

-- Fewer tables were got, and the step ends with the error.
module _ {A B : Type 0} (ends : A → StepEnd B) (again : ℕ → Course (StepEnd B)) (next : Course (StepEnd B)) (e : SlateDBError) (new : StoreView) where
  stops : (ids : List ℕ) (old : StoreView) → FailsNext ids old new e ⊎ ((e ≡ Memory) × (new ≡ old)) → TryRan ends (calls_each (gets_tables ids) next) again old new (Err e)
  stops [] old (inl none) = absurd none
  stops (id ∷ ids) old (inl called) = get_fails called
  stops ids old (inr (memory, same)) = rw (memory, same) (tried ends refl (wants ends (calls_each (gets_tables ids) next) old))

  stops_after : (first later : List ℕ) (old mid : StoreView) → GotEach first old mid → FailsNext later mid new e ⊎ ((e ≡ Memory) × (new ≡ mid)) → TryRan ends (calls_each (gets_tables (first ++ later)) next) again old new (Err e)
  stops_after [] later old mid same stopped = stops later old (subst (λ v. FailsNext later v new e ⊎ ((e ≡ Memory) × (new ≡ v))) same stopped)
  stops_after (id ∷ first) later old mid (one, ((rows, called), rest)) stopped =
      then_tried ends (call_leads called (λ met. calls_each (gets_tables (first ++ later)) next)) (stops_after first later one mid rest stopped)

  pub gets_fail : (ids : List ℕ) (old : StoreView) → GotUntil ids old new e → TryRan ends (calls_each (gets_tables ids) next) again old new (Err e)
  gets_fail ids old until =
      subst (λ ids. TryRan ends (calls_each (gets_tables ids) next) again old new (Err e)) (sym until.parts) (stops_after until.first until.later old until.mid until.got until.stopped)

-- Tables that are held are held one by one.
pub held_each : (store : Store) (ids : List ℕ) → AreHeld store ids → AllByRecursion (λ id. IsTrue (is_held store id)) ids
held_each store ids held = all_true_front (is_held store) ids held

-- ---- the tables of a list, one by one

-- A table of the list is held.
pub held_at : (store : Store) (ids : List ℕ) (i d : ℕ) → i < length ids → AllByRecursion (λ id. IsTrue (is_held store id)) ids → IsTrue (is_held store (get_or ids i d))
held_at store [] i d less all = absurd (omega (arith, less))
held_at store (id ∷ ids) zero d less all = all.0
held_at store (id ∷ ids) (suc i) d less all = held_at store ids i d (omega (arith, less)) all.1

pub take_whole : (ids : List ℕ) (i : ℕ) → length ids ≤ i → take i ids ≡ ids
take_whole [] zero less = refl
take_whole [] (suc i) less = refl
take_whole (id ∷ ids) zero less = absurd (omega (arith, less))
take_whole (id ∷ ids) (suc i) less = ap (λ rest. id ∷ rest) (take_whole ids i (omega (arith, less)))

module _ (ids : List ℕ) (i id : ℕ) (less : i < length ids) (is : id ≡ get_or ids i id) where
  pub one_more : take (i + 1) ids ≡ take i ids ++ id ∷ []
  one_more = take_more ids i id less ∙ ap (λ y. take i ids ++ y ∷ []) (sym is)

  whole : ids ≡ (take i ids ++ id ∷ []) ++ drop (i + 1) ids
  whole = sym (take-append-drop (i + 1) ids) ∙ ap (λ xs. xs ++ drop (i + 1) ids) one_more

  module _ (old now new : StoreView) (got : GotEach (take i ids) old now) where
    -- The next table was not got, or memory ran out after it.
    pub fails_at : (e : SlateDBError) → GetsTable now new id (Err e) ⊎ ((e ≡ Memory) × GotTable id now new) → GotUntil ids old new e
    fails_at e (inl called) = record {
      first = take i ids;
      later = id ∷ drop (i + 1) ids;
      parts = whole ∙ append_assoc (take i ids) (id ∷ []) (drop (i + 1) ids);
      mid = now;
      got = got;
      stopped = inl called;
    }
    fails_at e (inr (memory, one)) = record {
      first = take i ids ++ id ∷ [];
      later = drop (i + 1) ids;
      parts = whole;
      mid = new;
      got = each_more (take i ids) id old now new got one;
      stopped = inr (memory, refl);
    }

    -- The next table was got too, and is one more source.
    pub got_more : AreHeld old.world.store ids → (sources : Sources) (source : List (List Row)) → sources ≡ sources_at old.world.store.tables (take i ids) → GotSource id now new source
        → GotEach (take (i + 1) ids) old new × (sources ++ source ∷ [] ≡ sources_at old.world.store.tables (take (i + 1) ids))
    got_more held sources source are one =
        let here : IsTrue (is_held old.world.store id) = subst (λ n. IsTrue (is_held old.world.store n)) (sym is) (held_at old.world.store ids i id less (held_each old.world.store ids held)) in
        let later = (got_leads {A = ℕ} (take i ids) old now got (Ends zero)).later in
        let rows = (table_stays id old.world.store now.world.store later (parts old.world.store id here).0).rows in (
          subst (λ l. GotEach l old new) (sym one_more) (each_more (take i ids) id old now new got one.got),
          ap (λ xs. xs ++ source ∷ []) are
              ∙ ap (λ (x : List (List Row)). sources_at old.world.store.tables (take i ids) ++ x ∷ []) (one.is ∙ ap (λ (r : List Row). r ∷ []) rows)
              ∙ sym (map-append (λ n. table_rows old.world.store.tables n ∷ []) (take i ids) (id ∷ []))
              ∙ ap (sources_at old.world.store.tables) (sym one_more),
        )
