-- The greatest id of a run, 4,294,967,295. The scheduler may propose it, and the gate refuses it.
use Rattle.std.specs.Prelude.{◌≡◌, ◌≢◌, ℕ, Bool, List, [], ◌∷◌, Some, None}
use Rattle.fleet_model.specs.Work.Gates.{submit_gate}
use Rattle.fleet_model.specs.Jobs.{Job, Jobs, JobSpec}
use Rattle.fleet_model.specs.Nodes.{L0, Run, Trees}
use Rattle.fleet_model.specs.Work.Scheduler.{View}
use Rattle.fleet_model.specs.Store.{fresh_store}
use Rattle.sched_model.specs.Series.{TieredOptions}
use Rattle.sched_model.specs.SizeTiered.{tiered_proposals}
use Rattle.sched_laws.specs.Views.{ViewStands}

-- The gate refuses each job with this destination, whatever else is so.
abbrev pub GreatestIdIsRefused : Type 0
GreatestIdIsRefused = (trees : Trees) (jobs : Jobs) (lost : List ℕ) (accepts : JobSpec → Bool) (job : Job)
    → job.spec.destination ≡ Some 4294967295 → submit_gate trees jobs lost accepts job ≢ None

-- The root tree with two flushes and the run below the greatest one.
abbrev pub high_trees : Trees
high_trees = record {
  prefix = [];
  tree = record { name = L0 3; flushes = 3 ∷ []; pieces = 3 ∷ [] }
      ∷ record { name = L0 2; flushes = 2 ∷ []; pieces = 2 ∷ [] }
      ∷ record { name = Run 4294967294; flushes = 1 ∷ []; pieces = 1 ∷ [] }
      ∷ [];
  last_seq = Some 3;
  watermark = Some 1;
} ∷ []

-- A view of this tree, without jobs.
abbrev pub high_view : View
high_view = record {
  manifest = record fresh_store.manifest { trees = high_trees };
  records_version = 1;
  records_epoch = 0;
  jobs = [];
  handles = [];
}

-- A job has two to four sources, and a similar run is at most one and a half times as large.
abbrev pub some_options : TieredOptions
some_options = record { least = 2; most = 4; numerator = 3; denominator = 2 }

-- The view stands, and the scheduler proposes the greatest id on it.
pub record GreatestIdIsProposed : Type 0 where
  pub stands : ViewStands high_view
  pub proposed : tiered_proposals some_options 1 high_view
      ≡ record { segment = []; sources = L0 3 ∷ L0 2 ∷ []; destination = Some 4294967295 } ∷ []
