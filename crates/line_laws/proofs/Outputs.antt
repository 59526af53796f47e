-- A job that finished has what one merge makes.
use Rattle.std.proofs.Common.{◌≡◌, false}
use Rattle.std.specs.Prelude.{IsTrue, ◌==◌}
use Rattle.row_model.specs.Fold.{Operator}
use Rattle.fleet_model.specs.Jobs.{Job, Compacted, has_status}
use Rattle.fleet_model.specs.Store.{stored_jobs, is_held}
use Rattle.fleet_model.specs.Invariants.JobsFit.{OutputsFit, OpenedStands, was_joined}
use Rattle.step_model.specs.Past.{World}
use Rattle.step_model.specs.Kept.Keeps.{Keeps}
use Rattle.step_laws.proofs.Elements.{IsIn, all_at, all_true_from}
use Rattle.step_laws.proofs.Bodies.{whole_of}
use Rattle.commit_laws.proofs.Joins.{not_was}
use Rattle.worker_laws.proofs.Sources.{sources_held}
use Rattle.worker_laws.specs.FinishReports.{OneMerge}
use Rattle.line_laws.specs.Lines.Outputs.{OutputsAreWhole}
use Rattle.line_laws.proofs.Parties.{found}
use Rattle.line_laws.proofs.Lines.{world_of}

-- The outputs of a Compacted job that was not joined yet have all rows that one merge of its sources makes.
one_merge : (merge : Operator) (world : World) (job : Job) → Keeps merge world → IsIn job (stored_jobs world.store) → IsTrue (has_status Compacted job) → was_joined world.store.history job.id ≡ false → OneMerge merge world.store job
one_merge merge world job k there compacted new =
    let fit = all_at (λ (job : Job). IsTrue (has_status Compacted job) → OutputsFit merge world.store k.stored.replay.specs job) (stored_jobs world.store) job k.stored.outputs there compacted in
    let stands = not_was (was_joined world.store.history job.id) new ((all_at (OpenedStands world.store) (stored_jobs world.store) job k.stored.sources there).1 compacted) in
    record {
      replay = k.stored.replay;
      settings = fit.settings;
      claimed = fit.claimed;
      cut = fit.cut;
      rows = fit.rows (all_true_from (is_held world.store) job.source_tables (sources_held merge world k.stored.replay.specs job (whole_of merge world k).body stands));
    }

pub outputs_are_whole : OutputsAreWhole
outputs_are_whole merge s job k stored compacted new = one_merge merge (world_of merge s k) job k.fleet.store (found (λ (other : Job). job.id == other.id) (stored_jobs s.store) job stored).there compacted new
