-- What is made of all source tables is what is left of each range.
use Rattle.std.proofs.Common.{◌≡◌, refl, sym, ◌∙◌, ap, subst, ℕ, true, inl, inr, List, [], ◌∷◌, ◌++◌, map, Err}
use Rattle.std.specs.List.{AllByRecursion}
use Rattle.row_model.specs.Fold.{Operator}
use Rattle.row_model.specs.JobRows.{JobRows}
use Rattle.row_model.specs.Ranges.{is_in_range, rows_in}
use Rattle.row_model.specs.Rows.{sorted_rows}
use Rattle.row_model.specs.Written.Tables.{cut_tables}
use Rattle.row_laws.specs.Sources.{made_of_sources, merged_rows}
use Rattle.row_laws.proofs.Sources.{sources_may_be_cut}
use Rattle.fleet_model.specs.Invariants.TreesFit.{IsTable}
use Rattle.fleet_model.specs.Nodes.{Tables, table_rows}
use Rattle.fleet_model.specs.Store.{AreHeld, Store}
use Rattle.fleet_laws.proofs.Outputs.{outputs_make_what_is_left}
use Rattle.step_model.specs.Views.{StoreView}
use Rattle.step_laws.proofs.Flushes.{table_of}
use Rattle.fleet_rows.specs.Row.{rows_of}
use Rattle.fleet_rows.specs.Settings.{settings_of}
use Rattle.fleet_rows.specs.declared.errors.SlateDBError.{SlateDBError}
use Rattle.fleet_rows.specs.declared.errors.SlateDBError.TheVariants.{Memory}
use Rattle.fleet_rows.specs.declared.row.RowEntry.{RowEntry}
use Rattle.fleet_rows.specs.declared.settings.Settings.{Settings}
use Rattle.fleet_range.specs.Keys.{range_of}
use Rattle.fleet_tree.specs.declared.handle.SsTableHandle.{SsTableHandle}
use Rattle.fleet_plan.specs.Parts.{Part}
use Rattle.fleet_jobs.specs.Contexts.{table_ids}
use Rattle.fleet_exec.specs.Cut.{AreFinished, RefusesFirst, RefusesFirstUnless, RefusesRange}
use Rattle.fleet_exec.specs.Ranges.{AreSources, Sources, from_cursor, made_of, rows_read}
use Rattle.fleet_exec.specs.declared.range_job.RangeJob.{RangeJob}
use Rattle.fleet_store.specs.Handles.{IsDescribed}
use Rattle.fleet_output.specs.Gets.{GotAll, GotEach, GotUntil, sources_at}
use Rattle.fleet_output.specs.Jobs.{cursor_of, resumed_range}
use Rattle.fleet_output.specs.Left.{AreWhole, CanFinish, GivesLeft, ReadsLeft, RefusesLeft, tables_for}
use Rattle.fleet_output.specs.Next.{CanResume, left_for, read_for}
use Rattle.fleet_output.proofs.Apart.{all_sources}
use Rattle.fleet_output.proofs.Resumed.{cursor_is, flat_map_is, ranged, source_lists}

module _ (merge : Operator) (store : Store) (settings : Settings) (tables : List SsTableHandle) where
  abbrev stored : Tables
  stored = store.tables

  abbrev sources : Sources
  sources = sources_at stored (table_ids tables)

  abbrev Can : List Part → Type 0
  Can parts = AllByRecursion (CanResume merge store settings tables) parts

  abbrev job_of : Part → RangeJob
  job_of part = resumed_range settings part

  -- What is made of all sources is what is left of a range.
  made_left : (part : Part) → CanResume merge store settings tables part → made_of merge sources (job_of part) ≡ left_for merge stored settings tables part
  made_left part can =
      ap (made_of_sources merge (settings_of settings) (range_of part.range) (cursor_of part.output_ssts)) (source_lists stored (range_of part.range) (table_ids tables))
      ∙ ap (λ cursor. made_of_sources merge (settings_of settings) (range_of part.range) cursor (map (table_rows stored) (table_ids tables))) (cursor_is stored can.sound part.output_ssts can.noted)
      ∙ outputs_make_what_is_left merge stored (settings_of settings) (table_ids tables) (range_of part.range) (table_ids part.output_ssts) can.ordered can.first

  -- The rows that are read for it are those of all sources.
  read_left : (part : Part) → rows_read sources (job_of part) ≡ read_for stored tables part
  read_left part =
      let range = range_of part.range in
      ap (from_cursor (cursor_of part.output_ssts))
      (ap merged_rows (ranged stored range (table_ids tables))
      ∙ sources_may_be_cut (λ r. is_in_range range r.key) (map (table_rows stored) (table_ids tables))
      ∙ ap (λ rows. rows_in range (sorted_rows rows)) (flat_map_is stored range (table_ids tables)))

  -- All ranges are cut into the tables of what is left of them.
  pub cut_left : (size : ℕ) (parts : List Part) → Can parts → map (λ job. cut_tables size (made_of merge sources job).rows) (map job_of parts) ≡ tables_for merge stored settings tables size parts
  cut_left size [] can = refl
  cut_left size (part ∷ parts) can =
      let first = made_left part can.0 in
      let rest = cut_left size parts can.1 in
      λ i. cut_tables size (first i).rows ∷ rest i

  pub whole_left : (parts : List Part) → Can parts → AllByRecursion (λ job. (made_of merge sources job).whole ≡ true) (map job_of parts) → AreWhole merge stored settings tables parts
  whole_left [] can all = tt
  whole_left (part ∷ parts) can all = (sym (ap (λ (made : JobRows). made.whole) (made_left part can.0)) ∙ all.0, whole_left parts can.1 all.1)

  -- The first refusal among the ranges is one in what is left.
  first_left : (e : SlateDBError) (parts : List Part) (before : List RangeJob) (job : RangeJob) (later : List RangeJob) → Can parts → map job_of parts ≡ before ++ job ∷ later → AllByRecursion (λ job. (made_of merge sources job).whole ≡ true) before
      → RefusesRange merge (rows_read sources job) (made_of merge sources job) e → RefusesLeft merge stored settings tables parts e
  first_left e [] [] job later can is whole refuses = absurd (cc is)
  first_left e [] (b ∷ before) job later can is whole refuses = absurd (cc is)
  first_left e (part ∷ parts) [] job later can is whole refuses =
      let same : job ≡ job_of part = sym (cc is) in
      record {
        before = [];
        part = part;
        later = parts;
        are = refl;
        whole = tt;
        refuses =
            subst (λ rows. RefusesRange merge rows (left_for merge stored settings tables part) e) (read_left part)
            (subst (λ (made : JobRows). RefusesRange merge (rows_read sources (job_of part)) made e) (made_left part can.0)
            (subst (λ (j : RangeJob). RefusesRange merge (rows_read sources j) (made_of merge sources j) e) same refuses));
      }
  first_left e (part ∷ parts) (b ∷ before) job later can is whole refuses =
      let same : b ≡ job_of part = sym (cc is) in
      let next : map job_of parts ≡ before ++ job ∷ later = cc is in
      let rest = first_left e parts before job later can.1 next whole.1 refuses in
      let here = subst (λ (j : RangeJob). (made_of merge sources j).whole ≡ true) same whole.0 in
      record {
        before = part ∷ rest.before;
        part = rest.part;
        later = rest.later;
        are = ap (λ (xs : List Part). part ∷ xs) rest.are;
        whole = (sym (ap (λ (made : JobRows). made.whole) (made_left part can.0)) ∙ here, rest.whole);
        refuses = rest.refuses;
      }

  pub refuses_left : (e : SlateDBError) (parts : List Part) → Can parts → RefusesFirst merge sources (map job_of parts) e → RefusesLeft merge stored settings tables parts e
  refuses_left e parts can first = first_left e parts first.before first.job first.later can first.parts first.whole first.refuses

  are_tables : (tables : List SsTableHandle) → AllByRecursion (λ table. IsTable table.1) stored → AllByRecursion (IsDescribed stored) tables → AllByRecursion (λ id. IsTable (table_rows stored id)) (table_ids tables)
  are_tables [] sound all = tt
  are_tables (table ∷ tables) sound all = (table_of stored table.id sound all.0.put, are_tables tables sound all.1)

  -- All source tables are sources.
  pub sources_left : (parts : List Part) → CanFinish merge store settings tables parts → AreSources sources
  sources_left parts can = all_sources stored (table_ids tables) (are_tables tables can.sound can.described) can.ordered

-- ---- how all that is left is read

module _ (merge : Operator) (settings : Settings) (tables : List SsTableHandle) (parts : List Part) (size : ℕ) (old new : StoreView) where
  abbrev Reads : StoreView → SlateDBError → Type 0
  Reads last e = ReadsLeft merge settings tables parts size old last (Err e)

  -- Memory ran out before the gets.
  pub none_read : ReadsLeft merge settings tables parts size old old (Err Memory)
  none_read = inl (record {
    first = [];
    later = table_ids tables;
    parts = refl;
    mid = old;
    got = refl;
    stopped = inr (refl, refl);
  })

  module _ (ids : List ℕ) (is : ids ≡ table_ids tables) where
    -- The tables that are got are held.
    pub held_left : CanFinish merge old.world.store settings tables parts → AreHeld old.world.store ids
    held_left can = subst (AreHeld old.world.store) (sym is) can.held

    -- A get failed.
    pub fewer_read : (e : SlateDBError) → GotUntil ids old new e → Reads new e
    fewer_read e until = inl (subst (λ ids. GotUntil ids old new e) is until)

    module _ (got_sources : Sources) (got : GotAll ids old new got_sources) where
      each_got : GotEach (table_ids tables) old new
      each_got = subst (λ ids. GotEach ids old new) is got.got

      sources_so : got_sources ≡ sources_at old.world.store.tables (table_ids tables)
      sources_so = got.are ∙ ap (sources_at old.world.store.tables) is

      -- Memory ran out after the gets.
      pub lacks_read : Reads new Memory
      lacks_read = inr (record { got = each_got; refused = λ other. absurd (other refl) })

      module _ (can : CanFinish merge old.world.store settings tables parts) where
        -- What was got are sources.
        pub are_sources : AreSources got_sources
        are_sources = subst AreSources (sym sources_so) (sources_left merge old.world.store settings tables parts can)

        module _ (jobs : List RangeJob) (resume : jobs ≡ map (resumed_range settings) parts) where
          -- The tables that are made of them are those of what is left.
          pub given_left : (ranges : List (List (List RowEntry))) → AreFinished merge got_sources size jobs (map (map rows_of) ranges) → GivesLeft merge settings tables parts size old new ranges
          given_left ranges finished =
              let made = subst (λ s. AreFinished merge s size (map (resumed_range settings) parts) (map (map rows_of) ranges)) sources_so (subst (λ js. AreFinished merge got_sources size js (map (map rows_of) ranges)) resume finished) in
              record {
                got = each_got;
                cut = made.cut ∙ cut_left merge old.world.store settings tables size parts can.each;
                whole = whole_left merge old.world.store settings tables parts can.each made.whole;
              }

          -- A fold refuses in what is left.
          pub stopped_left : (e : SlateDBError) → RefusesFirstUnless merge got_sources jobs e → Reads new e
          stopped_left e refuses = inr (record {
            got = each_got;
            refused = λ other.
                refuses_left merge old.world.store settings tables e parts can.each
                (subst (λ s. RefusesFirst merge s (map (resumed_range settings) parts) e) sources_so (subst (λ js. RefusesFirst merge got_sources js e) resume (refuses other)));
          })
