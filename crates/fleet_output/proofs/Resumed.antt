-- A range that is resumed after its noted tables makes what the model says is left of it.
use Rattle.std.proofs.Common.{◌≡◌, ◌≢◌, refl, sym, ◌∙◌, ap, subst, ℕ, suc, ◌-◌, cond, Bool, true, false, not, ◌&&◌, List, [], ◌∷◌, ◌++◌, map, length, Option, Some, None, option_map, arith}
use Rattle.std.specs.Prelude.{IsTrue, filter, flat_map, slice_get}
use Rattle.std.specs.List.{AllByRecursion}
use Rattle.std.specs.List.Sorted.{IsStrictlySortedBy}
use Rattle.std.specs.declared.cmp.Ordering.TheVariants.{Less}
use Rattle.std.proofs.lemmas.List.{append-nil}
use Rattle.row_model.specs.Fold.{Operator}
use Rattle.row_model.specs.JobRows.{JobRows, job_rows}
use Rattle.row_model.specs.Ranges.{Range, is_after_start, is_before_end, is_in_range, rows_in}
use Rattle.row_model.specs.Rows.{IsStrictlyOrdered, Row, row_cmp, sorted_rows}
use Rattle.row_model.specs.Settings as model
use Rattle.row_laws.specs.Keys.{is_from}
use Rattle.row_laws.specs.Resume.{Cursor, cursor_after, unwritten_rows}
use Rattle.row_laws.specs.Sources.{made_of_sources, merged_rows}
use Rattle.row_laws.proofs.ApartRows.{filter_none}
use Rattle.row_laws.proofs.Sources.{sources_may_be_cut}
use Rattle.fleet_model.specs.Handles.{Handle, seq_of_last}
use Rattle.fleet_model.specs.Invariants.TreesFit.{IsTable}
use Rattle.fleet_model.specs.Nodes.{Tables, table_rows}
use Rattle.fleet_model.specs.Store.{AreHeld, Store, is_held}
use Rattle.fleet_model.specs.Trees.{first_key, last_key}
use Rattle.fleet_model.specs.Work.Attempts as work
use Rattle.fleet_model.specs.Work.Attempts.{noted_rows}
use Rattle.fleet_laws.proofs.Outputs.{outputs_make_what_is_left}
use Rattle.step_model.specs.Steps.OutputSteps.{meets}
use Rattle.step_laws.proofs.Elements.{all_true_from, all_true_front}
use Rattle.step_laws.proofs.Flushes.{table_of}
use Rattle.fleet_rows.specs.Settings.{settings_of}
use Rattle.fleet_rows.specs.declared.errors.SlateDBError.{SlateDBError}
use Rattle.fleet_rows.specs.declared.errors.SlateDBError.TheVariants.{Memory}
use Rattle.fleet_rows.specs.declared.row.RowEntry.{RowEntry}
use Rattle.fleet_rows.specs.declared.settings.Settings.{Settings}
use Rattle.fleet_range.specs.Keys.{range_of}
use Rattle.fleet_tree.specs.declared.handle.SsTableHandle.{SsTableHandle}
use Rattle.fleet_table.proofs.InRange.{before_range_too, not_after_too}
use Rattle.fleet_plan.specs.Parts.{Part}
use Rattle.fleet_jobs.specs.Contexts.{table_ids}
use Rattle.fleet_exec.specs.Ranges.{AreSources, Sources, from_cursor, made_of, ranged_sources, rows_read, source_rows}
use Rattle.fleet_exec.specs.Tables.{GivesTable, RefusesJobTable, RefusesTable}
use Rattle.fleet_store.specs.Handles.{IsDescribed}
use Rattle.fleet_output.specs.Gets.{ids_in, sources_at}
use Rattle.fleet_output.specs.Jobs.{cursor_of, place_of, resumed_range}
use Rattle.fleet_output.specs.Next.{CanResume, RefusesNext, left_for, read_for}
use Rattle.fleet_output.proofs.Apart.{are_sources}
use Rattle.fleet_output.proofs.GotTables.{ids_are}

-- ---- the cursor

after_place : (key : List ℕ) (seq : ℕ) (rows : List Row) → cursor_after (Some (key, seq)) rows ≡ Some (last_key key rows, seq_of_last seq rows)
after_place key seq [] = refl
after_place key seq (r ∷ rows) = after_place r.key r.seq rows

after_rows : (cursor : Option Cursor) (rows : List Row) → rows ≢ [] → cursor_after cursor rows ≡ Some (last_key [] rows, seq_of_last 0 rows)
after_rows cursor [] some = absurd (some refl)
after_rows cursor (r ∷ rows) some = after_place r.key r.seq rows

after_both : (cursor : Option Cursor) (xs ys : List Row) → cursor_after cursor (xs ++ ys) ≡ cursor_after (cursor_after cursor xs) ys
after_both cursor [] ys = refl
after_both cursor (x ∷ xs) ys = after_both (Some (x.key, x.seq)) xs ys

module _ (stored : Tables) (sound : AllByRecursion (λ table. IsTable table.1) stored) where
  -- After the rows of a table the cursor is at the place that its description tells.
  after_table : (cursor : Option Cursor) (table : SsTableHandle) → IsDescribed stored table → cursor_after cursor (table_rows stored table.id) ≡ Some (place_of table)
  after_table cursor table is =
      after_rows cursor (table_rows stored table.id) (table_of stored table.id sound is.put).some ∙ sym (ap (λ (h : Handle). Some (h.last_key, h.last_seq)) is.describes)

  after_tables : (cursor : Option Cursor) (table : SsTableHandle) (tables : List SsTableHandle) → AllByRecursion (IsDescribed stored) (table ∷ tables) → cursor_after cursor (noted_rows stored (table_ids (table ∷ tables))) ≡ cursor_of (table ∷ tables)
  after_tables cursor table [] all = ap (cursor_after cursor) (append-nil (table_rows stored table.id)) ∙ after_table cursor table all.0
  after_tables cursor table (next ∷ tables) all =
      let here : suc (length tables) - 1 ≡ length tables = omega arith in
      let later : suc (suc (length tables)) - 1 ≡ suc (length tables) = omega arith in
      after_both cursor (table_rows stored table.id) (noted_rows stored (table_ids (next ∷ tables))) ∙ after_tables (cursor_after cursor (table_rows stored table.id)) next tables all.1
      ∙ ap (λ n. option_map place_of (slice_get (next ∷ tables) n)) here ∙ sym (ap (λ n. option_map place_of (slice_get (table ∷ next ∷ tables) n)) later)

  -- The cursor is after the noted rows.
  pub cursor_is : (tables : List SsTableHandle) → AllByRecursion (IsDescribed stored) tables → cursor_of tables ≡ cursor_after None (noted_rows stored (table_ids tables))
  cursor_is [] all = refl
  cursor_is (table ∷ tables) all = sym (after_tables None table tables all)

-- ---- a table that does not meet the range has no row in it

module _ (range : Range) where
  fails_from : (b : Bool) → (b ≡ true → ⊥) → b ≡ false
  fails_from true never = absurd (never refl)
  fails_from false never = refl

  outside : (a b : Bool) → a ≡ false → (a && b) ≡ false
  outside true b e = absurd (cc e)
  outside false b e = refl

  outside_end : (a b : Bool) → b ≡ false → (a && b) ≡ false
  outside_end true b e = e
  outside_end false b e = refl

  -- The first row is after the range, so all rows are.
  all_after : (r : Row) (rows : List Row) → is_before_end range.to r.key ≡ false → AllByRecursion (λ q. row_cmp r q ≡ Less) rows → AllByRecursion (λ q. is_in_range range q.key ≡ false) rows
  all_after r [] after less = tt
  all_after r (q ∷ rows) after less = (
    outside_end (is_after_start range.from q.key) (is_before_end range.to q.key) (fails_from (is_before_end range.to q.key) (λ e. clash (sym (not_after_too range r q less.0 e) ∙ after))),
    all_after r rows after less.1,
  )
    where
      clash : true ≡ false → ⊥
      clash e = cc e

  -- The last row is before the range, so all rows are.
  all_before : (r : Row) (rows : List Row) → IsStrictlyOrdered (r ∷ rows) → is_after_start range.from (last_key r.key rows) ≡ false → (is_after_start range.from r.key ≡ false) × AllByRecursion (λ q. is_in_range range q.key ≡ false) (r ∷ rows)
  unfolding IsStrictlySortedBy
  all_before r [] ordered before = (before, (outside (is_after_start range.from r.key) (is_before_end range.to r.key) before, tt))
  all_before r (q ∷ rows) ordered before =
      let rest = all_before q rows ordered.1 before in
      let here : is_after_start range.from r.key ≡ false = flip (is_after_start range.from r.key) (before_range_too range r q ordered.0.0 (ap not rest.0)) in
      (here, (outside (is_after_start range.from r.key) (is_before_end range.to r.key) here, rest.1))
    where
      flip : (b : Bool) → not b ≡ true → b ≡ false
      flip true e = absurd (cc e)
      flip false e = refl

  none_met : (rows : List Row) → IsStrictlyOrdered rows → rows ≢ [] → (is_before_end range.to (first_key rows) && is_after_start range.from (last_key [] rows)) ≡ false → rows_in range rows ≡ []
  unfolding IsStrictlySortedBy
  none_met [] ordered some misses = absurd (some refl)
  none_met (r ∷ rows) ordered some misses = filter_none (λ q. is_in_range range q.key) (r ∷ rows) (by (is_before_end range.to r.key) refl misses)
    where
      by : (b : Bool) → is_before_end range.to r.key ≡ b → (b && is_after_start range.from (last_key r.key rows)) ≡ false → AllByRecursion (λ q. is_in_range range q.key ≡ false) (r ∷ rows)
      by true e misses = (all_before r rows ordered misses).1
      by false e misses = (outside_end (is_after_start range.from r.key) (is_before_end range.to r.key) e, all_after r rows e ordered.0)

-- ---- the tables that do not meet the range may be left out

module _ (stored : Tables) (range : Range) where
  abbrev keep : ℕ → Bool
  keep = meets stored range

  abbrev Misses : ℕ → Type 0
  Misses id = keep id ≡ false → rows_in range (table_rows stored id) ≡ []

  flat_kept : (g : List Row → List Row) → g [] ≡ [] → (ids : List ℕ) → AllByRecursion Misses ids
      → flat_map (λ rows. rows) (map (λ rows. g (rows_in range rows)) (map (table_rows stored) (filter keep ids))) ≡ flat_map (λ rows. rows) (map (λ rows. g (rows_in range rows)) (map (table_rows stored) ids))
  flat_kept g none [] all = refl
  flat_kept g none (id ∷ ids) all = by (keep id) refl (flat_kept g none ids all.1)
    where
      flat : List ℕ → List Row
      flat ids = flat_map (λ rows. rows) (map (λ rows. g (rows_in range rows)) (map (table_rows stored) ids))

      by : (b : Bool) → keep id ≡ b → flat (filter keep ids) ≡ flat ids → flat (cond b (id ∷ filter keep ids) (filter keep ids)) ≡ g (rows_in range (table_rows stored id)) ++ flat ids
      by true e rest = ap (λ rows. g (rows_in range (table_rows stored id)) ++ rows) rest
      by false e rest = rest ∙ sym (ap (λ rows. rows ++ flat ids) (ap g (all.0 e) ∙ none))

  made_kept : (merge : Operator) (settings : model.Settings) (cursor : Option Cursor) (ids : List ℕ) → AllByRecursion Misses ids
      → made_of_sources merge settings range cursor (map (table_rows stored) (filter keep ids)) ≡ made_of_sources merge settings range cursor (map (table_rows stored) ids)
  made_kept merge settings None ids all = ap (λ rows. job_rows merge settings (sorted_rows rows)) (flat_kept (λ rows. rows) refl ids all)
  made_kept merge settings (Some cursor) ids all = ap (λ rows. unwritten_rows cursor (job_rows merge settings (sorted_rows rows))) (flat_kept (filter (is_from cursor.0)) refl ids all)

  pub ranged : (ids : List ℕ) → ranged_sources range (sources_at stored ids) ≡ map (rows_in range) (map (table_rows stored) ids)
  ranged [] = refl
  ranged (id ∷ ids) = ap (λ rows. rows_in range rows ∷ ranged_sources range (sources_at stored ids)) (append-nil (table_rows stored id)) ∙ ap (λ rest. rows_in range (table_rows stored id) ∷ rest) (ranged ids)

  pub flat_map_is : (ids : List ℕ) → flat_map (λ rows. rows) (map (table_rows stored) ids) ≡ flat_map (table_rows stored) ids
  flat_map_is [] = refl
  flat_map_is (id ∷ ids) = ap (λ rows. table_rows stored id ++ rows) (flat_map_is ids)

  read_kept : (ids : List ℕ) → AllByRecursion Misses ids → merged_rows (ranged_sources range (sources_at stored (filter keep ids))) ≡ rows_in range (work.source_rows stored ids)
  read_kept ids all =
      ap merged_rows (ranged (filter keep ids)) ∙ ap sorted_rows (flat_kept (λ rows. rows) refl ids all)
      ∙ sources_may_be_cut (λ r. is_in_range range r.key) (map (table_rows stored) ids)
      ∙ ap (λ rows. rows_in range (sorted_rows rows)) (flat_map_is ids)

  pub source_lists : (ids : List ℕ) → map source_rows (sources_at stored ids) ≡ map (table_rows stored) ids
  source_lists [] = refl
  source_lists (id ∷ ids) = ap (λ rows. rows ∷ map source_rows (sources_at stored ids)) (append-nil (table_rows stored id)) ∙ ap (λ rest. table_rows stored id ∷ rest) (source_lists ids)

-- ---- the next rows

module _ (merge : Operator) (store : Store) (settings : Settings) (tables : List SsTableHandle) (part : Part) (can : CanResume merge store settings tables part) where
  abbrev stored : Tables
  stored = store.tables

  abbrev range : Range
  range = range_of part.range

  abbrev sources : Sources
  sources = sources_at stored (ids_in range tables)

  kept_are : ids_in range tables ≡ filter (meets stored range) (table_ids tables)
  kept_are = ids_are stored range tables can.described

  are_tables : (tables : List SsTableHandle) → AllByRecursion (IsDescribed stored) tables → AllByRecursion (λ id. IsTable (table_rows stored id)) (table_ids tables)
  are_tables [] all = tt
  are_tables (table ∷ tables) all = (table_of stored table.id can.sound all.0.put, are_tables tables all.1)

  some_of : (P : ℕ → Type 0) (keep : ℕ → Bool) (ids : List ℕ) → AllByRecursion P ids → AllByRecursion P (filter keep ids)
  some_of P keep [] all = tt
  some_of P keep (id ∷ ids) all = by (keep id) (some_of P keep ids all.1)
    where
      by : (b : Bool) → AllByRecursion P (filter keep ids) → AllByRecursion P (cond b (id ∷ filter keep ids) (filter keep ids))
      by true rest = (all.0, rest)
      by false rest = rest

  all_miss : (ids : List ℕ) → AllByRecursion (λ id. IsTable (table_rows stored id)) ids → AllByRecursion (Misses stored range) ids
  all_miss [] all = tt
  all_miss (id ∷ ids) all = ((λ misses. none_met range (table_rows stored id) all.0.ordered all.0.some misses), all_miss ids all.1)

  -- The tables that are got are sources.
  pub sources_are : AreSources sources
  sources_are =
      subst (λ ids. AreSources (sources_at stored ids)) (sym kept_are)
      (are_sources stored (meets stored range) (table_ids tables) (some_of (λ id. IsTable (table_rows stored id)) (meets stored range) (table_ids tables) (are_tables tables can.described)) can.ordered)

  -- They are held.
  pub ids_held : AreHeld store (ids_in range tables)
  ids_held =
      subst (AreHeld store) (sym kept_are)
      (all_true_from (is_held store) (filter (meets stored range) (table_ids tables))
      (some_of (λ id. IsTrue (is_held store id)) (meets stored range) (table_ids tables) (all_true_front (is_held store) (table_ids tables) can.held)))

  -- They make what is left.
  made_is : made_of merge sources (resumed_range settings part) ≡ left_for merge stored settings tables part
  made_is =
      ap (made_of_sources merge (settings_of settings) range (cursor_of part.output_ssts)) (source_lists stored range (ids_in range tables) ∙ ap (map (table_rows stored)) kept_are)
      ∙ made_kept stored range merge (settings_of settings) (cursor_of part.output_ssts) (table_ids tables) (all_miss (table_ids tables) (are_tables tables can.described))
      ∙ ap (λ cursor. made_of_sources merge (settings_of settings) range cursor (map (table_rows stored) (table_ids tables))) (cursor_is stored can.sound part.output_ssts can.noted)
      ∙ outputs_make_what_is_left merge stored (settings_of settings) (table_ids tables) range (table_ids part.output_ssts) can.ordered can.first

  read_is : rows_read sources (resumed_range settings part) ≡ read_for stored tables part
  read_is =
      ap (from_cursor (cursor_of part.output_ssts))
      (ap (λ ids. merged_rows (ranged_sources range (sources_at stored ids))) kept_are ∙ read_kept stored range (table_ids tables) (all_miss (table_ids tables) (are_tables tables can.described)))

  -- What is made of them is what is left of the range.
  pub gives_left : (most : ℕ) (rows : Option (List RowEntry)) → GivesTable (made_of merge sources (resumed_range settings part)) most rows → GivesTable (left_for merge stored settings tables part) most rows
  gives_left most rows gives = subst (λ (made : JobRows). GivesTable made most rows) made_is gives

  -- A refusal is one of what is left.
  pub refuses_left : (most : ℕ) (e : SlateDBError) → RefusesJobTable merge sources (resumed_range settings part) most e → e ≢ Memory → RefusesNext merge stored settings tables part most e
  refuses_left most e refuses other =
      subst (λ (made : JobRows). RefusesTable merge (settings_of settings) (cursor_of part.output_ssts) (read_for stored tables part) made most e) made_is
      (subst (λ rows. RefusesTable merge (settings_of settings) (cursor_of part.output_ssts) rows (made_of merge sources (resumed_range settings part)) most e) read_is (refuses other))
