-- What the laws ask of the view that a scheduler is shown.
use Rattle.std.specs.Prelude.{IsTrue, map}
use Rattle.std.specs.List.{AllByRecursion}
use Rattle.std.specs.List.Sorted.{IsStrictlySortedBy}
use Rattle.row_model.specs.Lists.{Pairs}
use Rattle.row_model.specs.Rows.{key_cmp}
use Rattle.fleet_model.specs.Work.Gates.{are_distinct, reserves_nodes}
use Rattle.fleet_model.specs.Invariants.JobsFit.{SourcesStand}
use Rattle.fleet_model.specs.Nodes.{names}
use Rattle.fleet_model.specs.Work.Scheduler.{View}
use Rattle.fleet_model.specs.Invariants.TreesFit.{NoneShared, StandsBefore}

-- The trees are by rising prefix and each is in order. No node is named twice in a tree, and none is in two
-- trees. The sources of each Scheduled, Running or Compacted job are as `SourcesStand` says.
pub record ViewStands (view : View) : Type 0 where
  pub prefixes : IsStrictlySortedBy key_cmp (map (λ s. s.prefix) view.manifest.trees)
  pub in_order : AllByRecursion (λ s. Pairs StandsBefore (names s.tree)) view.manifest.trees
  pub named_once : AllByRecursion (λ s. IsTrue (are_distinct (names s.tree))) view.manifest.trees
  pub apart : Pairs NoneShared view.manifest.trees
  pub jobs : AllByRecursion (λ job. IsTrue (reserves_nodes job) → SourcesStand view.manifest.trees job) view.jobs
