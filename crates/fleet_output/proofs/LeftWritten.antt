-- How all that is left is written.
use Rattle.std.proofs.Common.{◌≡◌, sym, ◌∙◌, ap, subst, ℕ, map, length, List, [], ◌∷◌}
use Rattle.std.specs.Prelude.{⊤}
use Rattle.std.specs.List.{AllByRecursion}
use Rattle.std.proofs.lemmas.List.{length-map}
use Rattle.row_model.specs.Fold.{Operator}
use Rattle.row_model.specs.Rows.{Row}
use Rattle.fleet_model.specs.Invariants.TreesFit.{IsTable}
use Rattle.step_model.specs.Courses.Course.{Ends}
use Rattle.step_model.specs.Later.{IsLater}
use Rattle.step_model.specs.Views.{StoreView}
use Rattle.step_laws.proofs.Elements.{all_append}
use Rattle.step_laws.proofs.Later.{later_then}
use Rattle.fleet_rows.specs.Row.{rows_of}
use Rattle.fleet_rows.specs.declared.errors.SlateDBError.{SlateDBError}
use Rattle.fleet_rows.specs.declared.errors.SlateDBError.TheVariants.{Memory}
use Rattle.fleet_rows.specs.declared.row.RowEntry.{RowEntry}
use Rattle.fleet_rows.specs.declared.settings.Settings.{Settings}
use Rattle.fleet_tree.specs.declared.handle.SsTableHandle.{SsTableHandle}
use Rattle.fleet_plan.specs.Parts.{Part}
use Rattle.fleet_jobs.specs.Contexts.{table_ids}
use Rattle.fleet_store.specs.Handles.{IsDescribed}
use Rattle.fleet_store.proofs.Later.{all_described}
use Rattle.fleet_output.specs.Finishes.{MayWriteLeft, WroteLeft, WroteUntil, noted_and, tables_left}
use Rattle.fleet_output.specs.Left.{CanFinish, GivesLeft}
use Rattle.fleet_output.specs.Next.{CanResume}
use Rattle.fleet_output.specs.RangePuts.{AreDescribed, MayPutRanges, PutRanges, PutRangesUntil}
use Rattle.fleet_output.proofs.GotTables.{got_leads}
use Rattle.fleet_output.proofs.PutsInOrder.{as_many, ranges_lead, ranges_then_lack}

module _ (merge : Operator) (settings : Settings) (tables : List SsTableHandle) (parts : List Part) (size moment : ℕ) (old mid : StoreView) (ranges : List (List (List RowEntry))) (given : GivesLeft merge settings tables parts size old mid ranges) where
  abbrev made : List (List (List Row))
  made = map (map rows_of) ranges

  abbrev left : List (List (List Row))
  left = tables_left merge settings tables parts size moment old

  -- What was made may be put.
  pub may_put : MayWriteLeft merge settings tables parts size moment old → AllByRecursion (AllByRecursion IsTable) made × MayPutRanges mid moment made
  may_put may =
      let both = may given.whole mid given.got in
      (subst (AllByRecursion (AllByRecursion IsTable)) (sym given.cut) both.0, subst (MayPutRanges mid moment) (sym given.cut) both.1)

  -- Fewer tables were put.
  pub fewer_written : (new : StoreView) (e : SlateDBError) → PutRangesUntil moment made mid new e → WroteUntil merge settings tables parts size moment old new e
  fewer_written new e put = record {
    mid = mid;
    got = given.got;
    whole = given.whole;
    put = subst (λ rs. PutRangesUntil moment rs mid new e) given.cut put;
  }

  module _ (new : StoreView) (handles : List (List SsTableHandle)) (put : PutRanges moment made mid new handles) where
    -- There are as many lists as ranges.
    pub same_many : length handles ≡ length parts
    same_many = as_many moment made mid new handles put ∙ ap length given.cut ∙ length-map _ _

    -- Memory ran out after the puts.
    pub lacks_written : WroteUntil merge settings tables parts size moment old new Memory
    lacks_written = fewer_written new Memory (ranges_then_lack moment made mid new handles put)

    -- All tables were put.
    pub all_written : (outputs : List (List SsTableHandle)) → outputs ≡ noted_and parts handles → WroteLeft merge settings tables parts size moment old new outputs
    all_written outputs are = record {
      mid = mid;
      got = given.got;
      whole = given.whole;
      handles = handles;
      put = subst (λ rs. PutRanges moment rs mid new handles) given.cut put;
      are = are;
    }

    later : IsLater old.world.store new.world.store
    later =
        later_then old.world.store mid.world.store new.world.store (got_leads {A = ⊤} (table_ids tables) old mid given.got (Ends tt)).later (ranges_lead {A = ⊤} moment made mid new handles put (λ ids. Ends tt)).later

    noted_too : (ps : List Part) (new_ones : List (List SsTableHandle)) → AllByRecursion (CanResume merge old.world.store settings tables) ps → AreDescribed new.world.store.tables new_ones → AreDescribed new.world.store.tables (noted_and ps new_ones)
    noted_too [] new_ones can all = tt
    noted_too (part ∷ ps) [] can all = (all_described old.world.store new.world.store later part.output_ssts can.0.noted, noted_too ps [] can.1 tt)
    noted_too (part ∷ ps) (handles ∷ new_ones) can all = (
      all_append (IsDescribed new.world.store.tables) part.output_ssts handles (all_described old.world.store new.world.store later part.output_ssts can.0.noted) all.0,
      noted_too ps new_ones can.1 all.1,
    )

    -- The tables of all ranges are described, also those that were noted.
    pub outputs_described : CanFinish merge old.world.store settings tables parts → AreDescribed new.world.store.tables handles → (outputs : List (List SsTableHandle)) → outputs ≡ noted_and parts handles → AreDescribed new.world.store.tables outputs
    outputs_described can all outputs are = subst (AreDescribed new.world.store.tables) (sym are) (noted_too parts handles can.each all)
