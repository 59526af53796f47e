-- How the next rows of a range are read.
use Rattle.std.proofs.Common.{◌≡◌, refl, sym, ◌∙◌, ap, subst, ℕ, inl, inr, List, [], Option, Err}
use Rattle.row_model.specs.Fold.{Operator}
use Rattle.fleet_model.specs.Store.{AreHeld}
use Rattle.step_model.specs.Views.{StoreView}
use Rattle.fleet_rows.specs.declared.errors.SlateDBError.{SlateDBError}
use Rattle.fleet_rows.specs.declared.errors.SlateDBError.TheVariants.{Memory}
use Rattle.fleet_rows.specs.declared.row.RowEntry.{RowEntry}
use Rattle.fleet_rows.specs.declared.settings.Settings.{Settings}
use Rattle.fleet_range.specs.Keys.{range_of}
use Rattle.fleet_tree.specs.declared.handle.SsTableHandle.{SsTableHandle}
use Rattle.fleet_plan.specs.Parts.{Part}
use Rattle.fleet_exec.specs.Ranges.{AreSources, Sources, made_of}
use Rattle.fleet_exec.specs.Tables.{GivesTable, RefusesJobTable}
use Rattle.fleet_exec.specs.declared.range_job.RangeJob.{RangeJob}
use Rattle.fleet_output.specs.Gets.{GotAll, GotEach, GotUntil, ids_in, sources_at}
use Rattle.fleet_output.specs.Jobs.{resumed_range}
use Rattle.fleet_output.specs.Next.{CanResume, GivesNext, ReadsNext}
use Rattle.fleet_output.proofs.Resumed.{gives_left, ids_held, refuses_left, sources_are}

module _ (merge : Operator) (settings : Settings) (tables : List SsTableHandle) (part : Part) (most : ℕ) (old new : StoreView) where
  -- Memory ran out before the gets.
  pub none_got : ReadsNext merge settings tables part most old old (Err Memory)
  none_got = inl (record {
    first = [];
    later = ids_in (range_of part.range) tables;
    parts = refl;
    mid = old;
    got = refl;
    stopped = inr (refl, refl);
  })

  module _ (ids : List ℕ) (is : ids ≡ ids_in (range_of part.range) tables) where
    -- The tables that are got are held.
    pub held_here : CanResume merge old.world.store settings tables part → AreHeld old.world.store ids
    held_here can = subst (AreHeld old.world.store) (sym is) (ids_held merge old.world.store settings tables part can)

    -- A get failed.
    pub fewer_got : (e : SlateDBError) → GotUntil ids old new e → ReadsNext merge settings tables part most old new (Err e)
    fewer_got e until = inl (subst (λ ids. GotUntil ids old new e) is until)

    module _ (sources : Sources) (got : GotAll ids old new sources) where
      each_got : GotEach (ids_in (range_of part.range) tables) old new
      each_got = subst (λ ids. GotEach ids old new) is got.got

      sources_so : sources_at old.world.store.tables (ids_in (range_of part.range) tables) ≡ sources
      sources_so = sym (got.are ∙ ap (sources_at old.world.store.tables) is)

      -- Memory ran out after the gets.
      pub lacks_after : ReadsNext merge settings tables part most old new (Err Memory)
      lacks_after = inr (record { got = each_got; refused = λ other. absurd (other refl) })

      module _ (can : CanResume merge old.world.store settings tables part) where
        -- What was got are sources.
        pub got_sources : AreSources sources
        got_sources = subst AreSources sources_so (sources_are merge old.world.store settings tables part can)

        module _ (job : RangeJob) (resumes : job ≡ resumed_range settings part) where
          -- The rows that are made of them are the next ones.
          pub next_given : (rows : Option (List RowEntry)) → GivesTable (made_of merge sources job) most rows → GivesNext merge settings tables part most old new rows
          next_given rows gives = record {
            got = each_got;
            next =
                gives_left merge old.world.store settings tables part can most rows
                (subst (λ sources. GivesTable (made_of merge sources (resumed_range settings part)) most rows) (sym sources_so) (subst (λ job. GivesTable (made_of merge sources job) most rows) resumes gives));
          }

          -- A fold refuses in them.
          pub next_refused : (e : SlateDBError) → RefusesJobTable merge sources job most e → ReadsNext merge settings tables part most old new (Err e)
          next_refused e refuses = inr (record {
            got = each_got;
            refused =
                refuses_left merge old.world.store settings tables part can most e
                (subst (λ sources. RefusesJobTable merge sources (resumed_range settings part) most e) (sym sources_so) (subst (λ job. RefusesJobTable merge sources job most e) resumes refuses));
          })
