-- The put of a table keeps the invariant: its id is drawn, or is a name above all that flushes used, and no table has it.
use Rattle.std.proofs.Common.{◌≡◌, ◌≢◌, refl, sym, ◌∙◌, ap, subst, ℕ, ◌≤◌, List, [], ◌∷◌, ◌++◌, cond, Bool, true, false, inl, inr, ◌⊎◌, Option, Some, None, length, arith}
use Rattle.std.specs.Prelude.{IsTrue, ◌==◌, option_map}
use Rattle.std.proofs.lemmas.Bool.{lt-ltb}
use Rattle.row_model.specs.Rows.{Row}
use Rattle.row_model.specs.Fold.{Operator}
use Rattle.fleet_model.specs.Nodes.{Tables, is_among}
use Rattle.fleet_model.specs.Jobs.{contains, drawn_base}
use Rattle.fleet_model.specs.History.{Party, Event, PutTable, DrawTable, Done, Stands, Answer, Entry, stood}
use Rattle.fleet_model.specs.Exchanges.{PutsTable}
use Rattle.step_model.specs.Past.{World}
use Rattle.step_model.specs.Entries.{party_eq, last_from, last_event, last_name, name_in, drawn_tables, table_drawn_in, put_tables, table_put_in}
use Rattle.step_model.specs.LawfulTables.{TableFits, MayName}
use Rattle.step_model.specs.Kept.TablesKept.{PutsKept, IsKnownTable}
use Rattle.step_model.specs.Kept.Keeps.{Keeps}
use Rattle.step_laws.specs.CallLaws.{CallKeeps, TableCallsKeep}
use Rattle.step_laws.proofs.Elements.{IsIn, all_to, all_push, pairs_push, flat_push, any_push_yes, is_itself, in_contains, in_front, in_back}
use Rattle.step_laws.proofs.Mute.{IsMute, mute_event}
use Rattle.step_laws.proofs.Grown.{table_grows}
use Rattle.step_laws.proofs.Bodies.{whole_of, keeps_of}
use Rattle.step_laws.proofs.Held.{among_grows}
use Rattle.step_laws.proofs.MuteBodies.{entered, spares_all, body_mute}
use Rattle.step_laws.proofs.TableBodies.{with_table, body_with_table}
use Rattle.step_laws.proofs.Quiet.{world_entered, draws_mute}
use Rattle.step_laws.proofs.Deletions.{deletions_keep}
use Rattle.step_laws.proofs.Vain.{vain_puts_keep}

-- ---- the id is known

-- The last event of a party is one of the history.
pub last_in : (party : Party) (id : ℕ) (history : List Entry) (last : Option Entry) → option_map (λ (e : Entry). e.event) (last_from last party history) ≡ Some (DrawTable id)
    → (option_map (λ (e : Entry). e.event) last ≡ Some (DrawTable id)) ⊎ IsIn id (drawn_tables history)
last_in party id [] last e = inl e
last_in party id (entry ∷ history) last e = by (party_eq party entry.party) (last_in party id history (Some entry)) (last_in party id history last) e
  where
    drawn : (event : Event) → Some event ≡ Some (DrawTable id) → IsIn id (table_drawn_in event)
    drawn (DrawTable other) same = inl (number same)
      where
        number : Some (DrawTable other) ≡ Some (DrawTable id) → other ≡ id
        number same = cc same
    drawn event same = absurd (cc same)

    here : (Some entry.event ≡ Some (DrawTable id)) ⊎ IsIn id (drawn_tables history) → (option_map (λ (e : Entry). e.event) last ≡ Some (DrawTable id)) ⊎ IsIn id (drawn_tables (entry ∷ history))
    here (inl same) = inr (in_front id (table_drawn_in entry.event) (drawn_tables history) (drawn entry.event same))
    here (inr there) = inr (in_back id (table_drawn_in entry.event) (drawn_tables history) there)

    further : (option_map (λ (e : Entry). e.event) last ≡ Some (DrawTable id)) ⊎ IsIn id (drawn_tables history) → (option_map (λ (e : Entry). e.event) last ≡ Some (DrawTable id)) ⊎ IsIn id (drawn_tables (entry ∷ history))
    further (inl same) = inl same
    further (inr there) = inr (in_back id (table_drawn_in entry.event) (drawn_tables history) there)

    by : (own : Bool)
        → (option_map (λ (e : Entry). e.event) (last_from (Some entry) party history) ≡ Some (DrawTable id) → (Some entry.event ≡ Some (DrawTable id)) ⊎ IsIn id (drawn_tables history))
        → (option_map (λ (e : Entry). e.event) (last_from last party history) ≡ Some (DrawTable id) → (option_map (λ (e : Entry). e.event) last ≡ Some (DrawTable id)) ⊎ IsIn id (drawn_tables history))
        → option_map (λ (e : Entry). e.event) (last_from (cond own (Some entry) last) party history) ≡ Some (DrawTable id)
        → (option_map (λ (e : Entry). e.event) last ≡ Some (DrawTable id)) ⊎ IsIn id (drawn_tables (entry ∷ history))
    by true own other e = here (own e)
    by false own other e = further (other e)

pub last_drawn : (party : Party) (id : ℕ) (history : List Entry) → last_event party history ≡ Some (DrawTable id) → IsTrue (contains (drawn_tables history) id)
last_drawn party id history e = by (last_in party id history None e)
  where
    by : (None ≡ Some (DrawTable id)) ⊎ IsIn id (drawn_tables history) → IsTrue (contains (drawn_tables history) id)
    by (inl never) = absurd (cc never)
    by (inr there) = in_contains (drawn_tables history) id there

last_name_push : (history : List Entry) (entry : Entry) → name_in entry.event ≤ last_name (history ++ entry ∷ [])
last_name_push [] entry = omega arith
last_name_push (first ∷ history) entry = let further = last_name_push history entry in omega (arith, further)

known_id : (party : Party) (history : List Entry) (entry : Entry) (id rows : ℕ) → entry.event ≡ PutTable id rows → MayName party history id → IsKnownTable (history ++ entry ∷ []) id
known_id party history entry id rows is (inl drew) = table_grows history entry id (inl (last_drawn party id history drew))
known_id party history entry id rows is (inr flush) =
    let name : name_in entry.event ≡ id = ap name_in is ∙ ap (λ b. cond b id 0) (lt-ltb id drawn_base flush.2) in
    let low = last_name_push history entry in
    inr (omega (arith, name, low))

-- ---- facts on puts

-- The facts on puts hold after the put of a table under an id that the party may name and that no table has.
puts_with : (party : Party) (history : List Entry) (tables : Tables) (entry : Entry) (table : ℕ) (rows : List Row) → entry.event ≡ PutTable table (length rows) → stood entry.answer ≡ true → IsMute (stood entry.answer) entry.event
    → MayName party history table → is_among tables table ≡ false → PutsKept history tables → PutsKept (history ++ entry ∷ []) (tables ++ (table, rows) ∷ [])
puts_with party history tables entry table rows is took mute named unused h =
    let puts : put_tables (history ++ entry ∷ []) ≡ put_tables history ++ table ∷ [] =
    flat_push (λ (e : Entry). table_put_in (stood e.answer) e.event) history entry ∙ ap (λ ids. put_tables history ++ ids) (rw (took, is) refl) in
    record {
      known = all_push _ tables (table, rows) (all_to _ _ tables (λ other there known. table_grows history entry other.0 known) h.known) (known_id party history entry table (length rows) is named);
      put = rw puts (all_push _ (put_tables history) table (all_to _ _ (put_tables history) (λ id there put. among_grows tables (table, rows) id put) h.put) (any_push_yes (λ (other : ℕ × List Row). other.0 == table) tables (table, rows) (is_itself table)));
      once = rw puts (pairs_push _ (put_tables history) table h.once (all_to _ _ (put_tables history) (λ id there put. different id put) h.put));
      brought = all_push _ history entry
          (all_to _ _ history (λ e there old. all_to _ _ _ (λ id one put. among_grows tables (table, rows) id put) old) h.brought) (rw mute.brought tt);
    }
  where
    different : (id : ℕ) → IsTrue (is_among tables id) → id ≢ table
    different id put same = refused (is_among tables table) unused (rw same at put)
      where
        refused : (b : Bool) → b ≡ false → b ≡ true → ⊥
        refused true e f = absurd (cc e)
        refused false e f = absurd (cc f)

-- ---- the law

-- A lawful put of a table that takes effect keeps the invariant.
put_by : (merge : Operator) (table : ℕ) (rows : List Row) (line : ℕ) (party : Party) (answer : Answer) (world : World) → stood answer ≡ true → Keeps merge world → TableFits party world.store table rows
    → Keeps merge (entered (with_table world (table, rows)) world.store.deleted world.store.jobs_drawn world.store.tables_drawn (record { line = line; party = party; event = PutTable table (length rows); answer = answer }))
put_by merge table rows line party answer world took k fits =
    let entry : Entry = record { line = line; party = party; event = PutTable table (length rows); answer = answer } in
    let w = whole_of merge world k in
    let specs = k.stored.replay.specs in
    let mute = mute_event (stood answer) (PutTable table (length rows)) refl in
    let body = body_with_table merge world specs (table, rows) fits.sound fits.new w.puts w.body in
    keeps_of merge (entered (with_table world (table, rows)) world.store.deleted world.store.jobs_drawn world.store.tables_drawn entry) specs (record {
      body = body_mute merge (with_table world (table, rows)) specs world.store.deleted world.store.jobs_drawn world.store.tables_drawn entry mute tt (spares_all merge (with_table world (table, rows)) specs body)
          (record { mentioned = rw mute.quiet.steps tt; planned = tt }) body;
      draws = draws_mute world.store.jobs_drawn world.store.tables_drawn world.store.history entry refl refl w.draws;
      puts = puts_with party world.store.history world.store.tables entry table rows refl took mute fits.named fits.new w.puts;
    })

puts_keep : (merge : Operator) (table : ℕ) (rows : List Row) → CallKeeps merge (PutsTable table rows)
puts_keep merge table rows line party None world k lawful may =
    subst (Keeps merge) (sym (world_entered (with_table world (table, rows)) world.store.deleted world.store.jobs_drawn world.store.tables_drawn (record { line = line; party = party; event = PutTable table (length rows); answer = Done 0 })))
    (put_by merge table rows line party (Done 0) world refl k lawful)
puts_keep merge table rows line party (Some true) world k lawful may =
    subst (Keeps merge) (sym (world_entered (with_table world (table, rows)) world.store.deleted world.store.jobs_drawn world.store.tables_drawn (record { line = line; party = party; event = PutTable table (length rows); answer = Stands })))
    (put_by merge table rows line party Stands world refl k lawful)
puts_keep merge table rows line party (Some false) world k lawful may = (vain_puts_keep merge).lost (PutsTable table rows) line party world k lawful may

pub table_calls_keep : (merge : Operator) → TableCallsKeep merge
table_calls_keep merge = record {
  puts = λ table rows line party strike world k lawful may. puts_keep merge table rows line party strike world k lawful may;
  deletions = λ table line party strike world k lawful may. deletions_keep merge table line party strike world k lawful may;
}
