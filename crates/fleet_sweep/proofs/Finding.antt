-- How a sweep finds the tables that it is to delete.
use Rattle.std.proofs.Common.{◌≡◌, sym, ◌∙◌, ap, subst, ℕ, List, map, Option, Ok, Err}
use Rattle.std.specs.Prelude.{filter, option_map}
use Rattle.fleet_model.specs.Exchanges.{ListsTables}
use Rattle.fleet_model.specs.Handles.{named_tables}
use Rattle.fleet_model.specs.Jobs.{is_active}
use Rattle.fleet_model.specs.Store.{Manifest, Records, Store, held_tables, jobs_in}
use Rattle.fleet_model.specs.Sweeps.{swept_tables}
use Rattle.step_model.specs.Courses.Course.{Course, Ends, Calls, gets_records}
use Rattle.step_model.specs.Steps.SweepSteps.{deletes_each, sweep}
use Rattle.step_model.specs.Views.{StoreView}
use Rattle.fleet_rows.specs.declared.errors.SlateDBError.{SlateDBError}
use Rattle.fleet_rows.specs.declared.errors.SlateDBError.TheVariants.{Memory}
use Rattle.fleet_tree.specs.Trees.{trees_with_prefix}
use Rattle.fleet_tree.specs.declared.manifest.VersionedManifest.{VersionedManifest}
use Rattle.fleet_book.specs.VersionedRecords.{VersionedRecords}
use Rattle.fleet_book.specs.Versions.{records_of}
use Rattle.fleet_store.specs.Asks.{GetsManifest, GetsRecords, ListsHeld}
use Rattle.fleet_store.specs.Records.{jobs_or_none}
use Rattle.fleet_step.specs.Steps.{Leads}
use Rattle.fleet_step.proofs.Puts.{got_records}
use Rattle.fleet_step.proofs.Steps.{call_leads, then_leads}
use Rattle.fleet_sweep.specs.Named.{is_in_neither, named_ids}
use Rattle.fleet_sweep.specs.Sweeps.{SweepRan}
use Rattle.fleet_sweep.proofs.NamedIds.{names_are}
use Rattle.fleet_sweep.proofs.Order.{order_left}
use Rattle.fleet_sweep.proofs.Turns.{fails, then_rest, wants}

-- The sweep after its list, after its second get and after its first get.
abbrev pub after_list : List ℕ → Manifest → Option Records → Store → Course (List ℕ)
after_list pins manifest records met = let tables = swept_tables pins (record met { manifest = manifest; records = records }) in deletes_each tables (Ends tables)

abbrev pub after_records : List ℕ → Manifest → Option Records → Course (List ℕ)
after_records pins manifest records = Calls ListsTables (after_list pins manifest records)

abbrev pub after_manifest : List ℕ → Manifest → Course (List ℕ)
after_manifest pins manifest = gets_records (after_records pins manifest)

-- ---- the gets and the list, one after the other

pub manifest_fails : (pins : List ℕ) (old new : StoreView) (e : SlateDBError) → GetsManifest old new (Err e) → SweepRan pins old new (Err e)
unfolding sweep
manifest_fails pins old new e called = fails e called (λ met. after_manifest pins met.manifest)

pub manifest_leads : (pins : List ℕ) (old new : StoreView) (got : VersionedManifest) (called : GetsManifest old new (Ok got)) → Leads (sweep pins) old (after_manifest pins called.met.store.manifest) new
unfolding sweep
manifest_leads pins old new got called = call_leads called (λ met. after_manifest pins met.manifest)

module _ (pins : List ℕ) (old one two : StoreView) (manifest : VersionedManifest) (first : GetsManifest old one (Ok manifest)) where
  abbrev stored : Manifest
  stored = first.met.store.manifest

  pub records_fail : (e : SlateDBError) → GetsRecords one two (Err e) → SweepRan pins old two (Err e)
  records_fail e gets = then_rest (manifest_leads pins old one manifest first) (fails e gets.called (λ met. after_records pins stored met.records))

  module _ (records : Option VersionedRecords) (second : GetsRecords one two (Ok records)) where
    got_both : Leads (sweep pins) old (after_records pins stored (option_map records_of records)) two
    got_both = then_leads (manifest_leads pins old one manifest first) (got_records second (after_records pins stored))

    pub list_fails : (new : StoreView) (e : SlateDBError) → ListsHeld two new (Err e) → SweepRan pins old new (Err e)
    list_fails new e called = then_rest got_both (fails e called (after_list pins stored (option_map records_of records)))

    module _ (new : StoreView) (held : List ℕ) (listed : ListsHeld two new (Ok held)) where
      listed_all : Leads (sweep pins) old (after_list pins stored (option_map records_of records) listed.met.store) new
      listed_all = then_leads got_both (call_leads listed (after_list pins stored (option_map records_of records)))

      pub lacks_memory : SweepRan pins old new (Err Memory)
      lacks_memory = then_rest listed_all (wants _ new)

      -- What is neither named nor pinned is swept.
      pub found : (tables : List ℕ) → tables ≡ filter (is_in_neither (named_ids (trees_with_prefix manifest.manifest.core) (jobs_or_none records)) pins) held
          → Leads (sweep pins) old (deletes_each tables (Ends tables)) new
      found tables are =
          let met = listed.met.store in
          let meant : Store = record met { manifest = stored; records = option_map records_of records } in
          let same : tables ≡ swept_tables pins meant =
          are
          ∙ ap (λ named. filter (is_in_neither named pins) held) (names_are manifest first.met.store records first.ended.0)
          ∙ ap (filter (is_in_neither (named_tables stored.trees (filter is_active (jobs_in (option_map records_of records)))) pins)) listed.ended.0
          ∙ order_left (is_in_neither (named_tables stored.trees (filter is_active (jobs_in (option_map records_of records)))) pins) (map (λ table. table.0) (held_tables met)) in
          subst (λ ids. Leads (sweep pins) old (deletes_each ids (Ends ids)) new) (sym same) listed_all
