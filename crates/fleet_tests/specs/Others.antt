-- A scheduler for tests, which proposes one job twice.
use Rattle.std.specs.Prelude.{ℕ, Bool, true, false, if◌then◌else◌, List, [], ◌∷◌, codes, Some}
use Rattle.fleet_model.specs.Jobs.{JobSpec}
use Rattle.fleet_model.specs.Nodes.{L0, Tree, is_l0, tree_at}
use Rattle.fleet_model.specs.Work.Scheduler.{Scheduler, Declined}

-- The job that makes run 0 of flush 1 of the root.
abbrev pub first_job : JobSpec
first_job = record { segment = []; sources = L0 1 ∷ []; destination = Some 0 }

-- True if the newest node of the tree is a flush.
abbrev pub begins_with_flush : Tree → Bool
begins_with_flush [] = false
begins_with_flush (node ∷ nodes) = is_l0 node.name

-- It proposes the job twice while the newest node of the root is a flush. It accepts each job, and declines each
-- request with `no`.
abbrev pub twice : Scheduler
twice = record {
  propose = λ view. if begins_with_flush (tree_at [] view.manifest.trees) then first_job ∷ first_job ∷ [] else [];
  validate = λ view spec. true;
  generate = λ view request. Declined (codes "no");
}
