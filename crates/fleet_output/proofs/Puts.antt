-- The put of a table under a new id as turns of a step.
use Rattle.std.proofs.Common.{◌≡◌, refl, sym, ◌∙◌, ap, subst, ℕ, cond, Bool, true, false, inl, inr, List, [], ◌∷◌, ◌++◌, Some, Ok, Err, eq-eqb}
use Rattle.std.specs.Prelude.{◌==◌, ◌||◌, ◌⊎◌, IsTrue, find, ⊤}
use Rattle.row_model.specs.Rows.{Row}
use Rattle.fleet_model.specs.Exchanges.{PutsTable, next_table_id}
use Rattle.fleet_model.specs.Handles.{Handle, describe}
use Rattle.fleet_model.specs.Nodes.{Tables, is_among, rows_or_none, table_rows}
use Rattle.step_model.specs.Past.{World}
use Rattle.step_model.specs.LawfulTables.{TableFits}
use Rattle.step_model.specs.Rivals.{Caller, Rivals}
use Rattle.step_model.specs.Lawful.{Lawful}
use Rattle.step_model.specs.Courses.Course.{Course, Calls, Ends, puts_table}
use Rattle.step_model.specs.Courses.StepEnds.{StepEnd}
use Rattle.step_model.specs.Views.{StoreView}
use Rattle.fleet_rows.specs.declared.errors.SlateDBError.{SlateDBError}
use Rattle.fleet_rows.specs.declared.errors.SlateDBError.TheVariants.{Memory}
use Rattle.fleet_tree.specs.Handles.{handle_of}
use Rattle.fleet_tree.specs.declared.handle.SsTableHandle.{SsTableHandle}
use Rattle.fleet_store.specs.Asks.{DrawsTableId, MayCall, PutsTableRows}
use Rattle.fleet_store.specs.Handles.{IsDescribed}
use Rattle.fleet_step.specs.Steps.{Leads, TryRan}
use Rattle.fleet_step.proofs.Steps.{call_leads, then_leads, then_tried, tried, wants}
use Rattle.fleet_step.proofs.Turns.{get_fails}
use Rattle.fleet_output.specs.Puts.{MayPutNew, PutNew, PutsNew, puts_only}

-- An id was drawn, and the put follows.
pub drew : {A : Type 0} (moment id : ℕ) (rows : List Row) (old new : StoreView) → DrawsTableId old new moment (Ok id) → (next : ℕ → Course A)
    → Leads (puts_table moment rows next) old (Calls (PutsTable id rows) (λ after. next id)) new
drew moment id rows old new called next =
    subst (λ n. Leads (puts_table moment rows next) old (Calls (PutsTable n rows) (λ after. next n)) new) (sym called.ended.0)
    (call_leads called (λ met. let table = next_table_id moment met in Calls (PutsTable table rows) (λ after. next table)))

-- The table was put.
pub put_leads : {A : Type 0} (moment : ℕ) (rows : List Row) (old new : StoreView) (handle : SsTableHandle) → PutNew moment rows old new handle → (next : ℕ → Course A) → Leads (puts_table moment rows next) old (next handle.id) new
put_leads moment rows old new handle put next = then_leads (drew moment handle.id rows old put.mid put.drawn next) (call_leads put.put (λ after. next handle.id))

-- The put failed, or the draw did, or memory ran out.
pub puts_fail : {A B : Type 0} {ends : A → StepEnd B} {again : ℕ → Course (StepEnd B)} (moment : ℕ) (rows : List Row) (old new : StoreView) (e : SlateDBError) → PutsNew moment rows old new (Err e) → (next : ℕ → Course (StepEnd B))
    → TryRan ends (puts_table moment rows next) again old new (Err e)
puts_fail {ends = ends} moment rows old new e (inl (memory, same)) next = rw (memory, same) (tried ends refl (wants ends (puts_table moment rows next) old))
puts_fail moment rows old new e (inr (inl called)) next = get_fails called
puts_fail {A} {B} {ends = ends} {again = again} moment rows old new e (inr (inr failed)) next =
    then_tried ends (drew moment failed.id rows old failed.mid failed.drawn next) (by failed.stopped)
  where
    rest : Course (StepEnd B)
    rest = Calls (PutsTable failed.id rows) (λ after. next failed.id)

    by : PutsTableRows failed.mid new failed.id rows (Err e) ⊎ ((e ≡ Memory) × (new ≡ failed.mid)) → TryRan ends rest again failed.mid new (Err e)
    by (inl called) = get_fails called
    by (inr (memory, same)) = rw (memory, same) (tried ends refl (wants ends rest failed.mid))

-- ---- the put is lawful

module _ (moment id : ℕ) (rows : List Row) (old mid : StoreView) (may : MayPutNew old moment rows) (drawn : DrawsTableId old mid moment (Ok id)) where
  abbrev done : ℕ → Course ⊤
  done table = Ends tt

  at_put : Leads (puts_only moment rows) old (Calls (PutsTable id rows) (λ after. done id)) mid
  at_put = drew moment id rows old mid drawn done

  pub may_put : MayCall mid (λ met. PutsTable id rows)
  may_put =
      let lawful = at_put.lawful may in
      subst (λ (who : Caller). (met : World) → Rivals who mid.world met → Lawful who.merge who.party met (PutsTable id rows)) (sym at_put.same.who)
      (λ met rivals. (lawful met rivals tt).0)

-- ---- the table is there

table_there : (tables : Tables) (id : ℕ) (rows : List Row) → is_among tables id ≡ false → (is_among (tables ++ (id, rows) ∷ []) id ≡ true) × (table_rows (tables ++ (id, rows) ∷ []) id ≡ rows)
table_there [] id rows new = rw (eq-eqb id id refl) (refl, refl)
table_there (table ∷ tables) id rows new = by (table.0 == id) (table_there tables id rows) new
  where
    by : (b : Bool) → (is_among tables id ≡ false → (is_among (tables ++ (id, rows) ∷ []) id ≡ true) × (table_rows (tables ++ (id, rows) ∷ []) id ≡ rows)) → (b || is_among tables id) ≡ false
        → ((b || is_among (tables ++ (id, rows) ∷ []) id) ≡ true) × (rows_or_none (cond b (Some table) (find (λ held. held.0 == id) (tables ++ (id, rows) ∷ []))) ≡ rows)
    by true rest none = absurd (cc none)
    by false rest none = rest none

-- The description is that of the table that was put.
described_new : (mid new : StoreView) (rows : List Row) (handle : SsTableHandle) → MayCall mid (λ met. PutsTable handle.id rows) → PutsTableRows mid new handle.id rows (Ok tt) → handle_of handle ≡ describe handle.id rows
    → IsDescribed new.world.store.tables handle
described_new mid new rows handle may put is =
    let fits : TableFits mid.who.party put.met.store handle.id rows = may put.met put.rivals in
    let there = table_there put.met.store.tables handle.id rows fits.new in
    record {
      put = subst (λ (t : World). IsTrue (is_among t.store.tables handle.id)) (sym put.ended.1.leaves) there.0;
      describes = is ∙ ap (describe handle.id) (sym (subst (λ (t : World). table_rows t.store.tables handle.id ≡ rows) (sym put.ended.1.leaves) there.1));
    }

-- The same, where the description has the id from its table.
pub described_as : (mid new : StoreView) (id : ℕ) (rows : List Row) (handle : SsTableHandle) → MayCall mid (λ met. PutsTable id rows) → PutsTableRows mid new id rows (Ok tt) → handle_of handle ≡ describe id rows → IsDescribed new.world.store.tables handle
described_as mid new id rows handle may put is =
    let same : id ≡ handle.id = sym (ap (λ (h : Handle). h.id) is) in
    described_new mid new rows handle (subst (λ n. MayCall mid (λ met. PutsTable n rows)) same may) (subst (λ n. PutsTableRows mid new n rows (Ok tt)) same put) (is ∙ ap (λ n. describe n rows) same)
