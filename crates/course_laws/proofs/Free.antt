-- The table that a party puts under the id that it drew last is free to be named, and stays so after its own calls.
use Rattle.std.proofs.Common.{◌≡◌, refl, sym, ◌∙◌, subst, ℕ, ◌+◌, List, [], ◌∷◌, ◌++◌, cond, Bool, true, false, None, length}
use Rattle.std.specs.Prelude.{IsTrue, ◌==◌, ◌&&◌, filter, flat_map}
use Rattle.std.specs.List.{AllByRecursion}
use Rattle.row_model.specs.Rows.{Row}
use Rattle.row_model.specs.Fold.{Operator}
use Rattle.fleet_model.specs.Nodes.{is_among, Node}
use Rattle.fleet_model.specs.Jobs.{contains, is_active}
use Rattle.fleet_model.specs.History.{Party, PutTable, Done, Entry, stood}
use Rattle.fleet_model.specs.Store.{Manifest, stored_jobs, is_held, AreHeld}
use Rattle.fleet_model.specs.Handles.{tree_tables, job_tables}
use Rattle.fleet_model.specs.Exchanges.{Exchange, DrawsTable, PutsTable, next_table_id}
use Rattle.step_model.specs.Past.{World}
use Rattle.step_model.specs.Entries.{party_eq, is_put_of}
use Rattle.step_model.specs.LawfulTables.{DrawFits, was_piece}
use Rattle.step_model.specs.Kept.TablesKept.{IsKnownPiece}
use Rattle.step_model.specs.Rivals.{Caller, Strike, Rivals, store_after_call, after_call}
use Rattle.step_model.specs.Kept.Keeps.{Keeps}
use Rattle.step_laws.specs.Runs.{CallsKeep}
use Rattle.step_laws.proofs.Elements.{all_at, all_from, all_flat, all_true_front, any_element, any_front, any_push_no, any_push_yes, Passes, is_itself, contains_in, contains_no}
use Rattle.step_laws.proofs.Grown.{drawn_table_grows}
use Rattle.step_laws.proofs.Held.{held_put}
use Rattle.step_laws.proofs.MuteBodies.{entered}
use Rattle.step_laws.proofs.TableBodies.{with_table}
use Rattle.step_laws.proofs.Quiet.{world_entered}
use Rattle.rival_laws.specs.Free.{IsFree}
use Rattle.course_laws.proofs.Later.{entry_by}
use Rattle.course_laws.proofs.Calls.{rivals_hold, filtered}
use Rattle.course_laws.proofs.Puts.{party_itself}
use Rattle.course_laws.proofs.NewTables.{IsLastDrawn, last_drawn_on, drawn_last, next_is_new}
use Rattle.step_laws.proofs.TablePuts.{last_drawn}
use Rattle.rival_laws.proofs.FreeTables.{refused}

-- ---- a table that is not put yet is named by nothing

-- No stored node holds a table that was not put.
not_in_trees : (merge : Operator) (world : World) (id : ℕ) → Keeps merge world → is_among world.store.tables id ≡ false → contains (flat_map tree_tables world.store.manifest.trees) id ≡ false
not_in_trees merge world id kept new = contains_no (flat_map tree_tables world.store.manifest.trees) id (λ there. refused (is_among world.store.tables id) new
    (all_at (λ n. IsTrue (is_among world.store.tables n)) (flat_map tree_tables world.store.manifest.trees) id
    (all_flat _ tree_tables world.store.manifest.trees (all_from _ world.store.manifest.trees (λ s one. all_flat _ (λ (node : Node). node.pieces) s.tree (all_from _ s.tree (λ node other.
    pieces_put node.pieces (all_at _ s.tree node (all_at _ world.store.manifest.trees s kept.stored.tables.pieces one) other)))))) there))
  where
    pieces_put : (ids : List ℕ) → AreHeld world.store ids → AllByRecursion (λ n. IsTrue (is_among world.store.tables n)) ids
    pieces_put ids held = all_from _ ids (λ n there. held_put world.store n (all_at _ ids n (all_true_front (is_held world.store) ids held) there))

-- No active job names a table that was not put.
not_in_jobs : (merge : Operator) (world : World) (id : ℕ) → Keeps merge world → is_among world.store.tables id ≡ false → contains (flat_map job_tables (filter is_active (stored_jobs world.store))) id ≡ false
not_in_jobs merge world id kept new = contains_no (flat_map job_tables (filter is_active (stored_jobs world.store))) id (λ there. refused (is_among world.store.tables id) new
    (all_at (λ n. IsTrue (is_among world.store.tables n)) (flat_map job_tables (filter is_active (stored_jobs world.store))) id
    (all_flat _ job_tables (filter is_active (stored_jobs world.store)) (all_from _ (filter is_active (stored_jobs world.store)) (λ job one.
    let both = all_at _ (filter is_active (stored_jobs world.store)) job (filtered is_active (stored_jobs world.store)) one in
    all_from _ (job_tables job) (λ n other. held_put world.store n (all_at _ (job_tables job) n (all_true_front (is_held world.store) (job_tables job) (all_at _ (stored_jobs world.store) job kept.stored.tables.jobs both.0 both.1).named) other))))) there))

-- ---- between the draw and the put

-- The party drew the id last, no table has it, and no node ever held it.
pub record IsUnput (party : Party) (world : World) (id : ℕ) : Type 0 where
  pub last : IsLastDrawn party world id
  pub unused : was_piece world.past id ≡ false

unused_on : (merge : Operator) (line : ℕ) (party : Party) (x : Exchange) (strike : Strike) (world : World) (id : ℕ) → Keeps merge (after_call line party x strike world) → is_among (after_call line party x strike world).store.tables id ≡ false
    → was_piece world.past id ≡ false → was_piece (after_call line party x strike world).past id ≡ false
unused_on merge line party x strike world id kept new unused = by (world.store.manifest.version == (store_after_call line party x strike world.store).manifest.version)
  where
    by : (b : Bool) → was_piece (cond b world.past (world.past ++ (store_after_call line party x strike world.store).manifest ∷ [])) id ≡ false
    by true = unused
    by false = any_push_no (λ (m : Manifest). contains (flat_map tree_tables m.trees) id) world.past (store_after_call line party x strike world.store).manifest (not_in_trees merge (after_call line party x strike world) id kept new) ∙ unused

pub rivals_unput : (who : Caller) (id : ℕ) (old new : World) → CallsKeep who.merge → Keeps who.merge old → Rivals who old new → IsUnput who.party old id → IsUnput who.party new id
rivals_unput who id old new keep kept rivals h =
    rivals_hold who (λ world. IsUnput who.party world id) keep (λ world call there rival one.
    let last = last_drawn_on who id world call there rival one.last in
    record {
      last = last;
      unused = unused_on who.merge call.line call.party call.exchange call.strike world id (keep call.exchange call.line call.party call.strike world there rival.lawful rival.strike) last.new one.unused;
    }) old new kept rivals h

-- Once a party has drawn an id for a table, that is its last call, no table has the id, and no node ever held it.
pub drawn_unput : (who : Caller) (world : World) (moment : ℕ) → CallsKeep who.merge → Keeps who.merge world → DrawFits world.store → IsUnput who.party (after_call who.line who.party (DrawsTable moment) None world) (next_table_id moment world.store)
drawn_unput who world moment keep kept short =
    let last = drawn_last who world moment kept short in
    record {
      last = last;
      unused = unused_on who.merge who.line who.party (DrawsTable moment) None world (next_table_id moment world.store) (keep (DrawsTable moment) who.line who.party None world kept short tt) last.new
          (before (was_piece world.past (next_table_id moment world.store)) refl);
    }
  where
    at : Passes (λ (m : Manifest). contains (flat_map tree_tables m.trees) (next_table_id moment world.store)) world.past → ⊥
    at found = next_is_new who.merge world moment kept short
        (all_at (IsKnownPiece world.store.history) (flat_map tree_tables found.element.trees) (next_table_id moment world.store)
        (all_at (λ (m : Manifest). AllByRecursion (IsKnownPiece world.store.history) (flat_map tree_tables m.trees)) world.past found.element kept.facts.pieces.pieces found.there)
        (contains_in (flat_map tree_tables found.element.trees) (next_table_id moment world.store) found.passes))

    before : (b : Bool) → was_piece world.past (next_table_id moment world.store) ≡ b → was_piece world.past (next_table_id moment world.store) ≡ false
    before true e = absurd (at (any_element (λ (m : Manifest). contains (flat_map tree_tables m.trees) (next_table_id moment world.store)) world.past e))
    before false e = e

-- ---- after the put

pub free_entered : (party : Party) (world : World) (jobs_drawn tables_drawn : ℕ) (entry : Entry) (table : ℕ) → IsFree party world table → IsFree party (entered world world.store.deleted jobs_drawn tables_drawn entry) table
free_entered party world jobs_drawn tables_drawn entry table h = record {
  drawn = drawn_table_grows world.store.history entry table h.drawn;
  put = any_front (λ (e : Entry). party_eq party e.party && is_put_of table e.event && stood e.answer) world.store.history (entry ∷ []) h.put;
  unused = h.unused;
  unnamed = h.unnamed;
}

-- The table is free after its put.
pub free_put : (merge : Operator) (line : ℕ) (party : Party) (table : ℕ) (rows : List Row) (world : World) → Keeps merge world → IsUnput party world table → IsFree party (after_call line party (PutsTable table rows) None world) table
free_put merge line party table rows world kept h =
    let entry : Entry = record { line = line; party = party; event = PutTable table (length rows); answer = Done 0 } in
    subst (λ (t : World). IsFree party t table) (sym (world_entered (with_table world (table, rows)) world.store.deleted world.store.jobs_drawn world.store.tables_drawn entry)) (record {
      drawn = drawn_table_grows world.store.history entry table (last_drawn party table world.store.history h.last.last);
      put = any_push_yes (λ (e : Entry). party_eq party e.party && is_put_of table e.event && stood e.answer) world.store.history entry (rw (party_itself party, is_itself table) refl);
      unused = h.unused;
      unnamed = not_in_jobs merge world table kept h.last.new;
    })

pub free_after_draw : (line : ℕ) (party : Party) (moment : ℕ) (world : World) (table : ℕ) → IsFree party world table → IsFree party (after_call line party (DrawsTable moment) None world) table
free_after_draw line party moment world table h =
    let entry = entry_by line party (DrawsTable moment) None world.store in
    subst (λ (t : World). IsFree party t table) (sym (world_entered world world.store.deleted world.store.jobs_drawn (world.store.tables_drawn + 1) entry)) (free_entered party world world.store.jobs_drawn (world.store.tables_drawn + 1) entry table h)

pub free_after_put : (line : ℕ) (party : Party) (other : ℕ) (rows : List Row) (world : World) (table : ℕ) → IsFree party world table → IsFree party (after_call line party (PutsTable other rows) None world) table
free_after_put line party other rows world table h =
    let entry : Entry = record { line = line; party = party; event = PutTable other (length rows); answer = Done 0 } in
    let grown = with_table world (other, rows) in
    subst (λ (t : World). IsFree party t table) (sym (world_entered grown world.store.deleted world.store.jobs_drawn world.store.tables_drawn entry))
    (free_entered party grown world.store.jobs_drawn world.store.tables_drawn entry table (record { drawn = h.drawn; put = h.put; unused = h.unused; unnamed = h.unnamed }))
