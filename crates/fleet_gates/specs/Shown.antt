-- What a view shows to the gates.
use Rattle.std.specs.Prelude.{Bool}
use Rattle.fleet_model.specs.Jobs.{JobSpec}
use Rattle.fleet_model.specs.Nodes.{Trees}
use Rattle.fleet_model.specs.Work.Scheduler.{Scheduler}
use Rattle.fleet_tree.specs.Trees.{RunFlushes, trees_of}
use Rattle.fleet_book.specs.declared.view.CompactorStateView.{CompactorStateView}
use Rattle.fleet_sched.specs.Views.{view_of}

-- The model's trees of a view. A program does not keep which flushes went into a run, so they are given too.
abbrev pub shown_trees : RunFlushes → CompactorStateView → Trees
shown_trees flushes view = trees_of flushes view.manifest.manifest.core

-- Whether the scheduler accepts a job on the view.
abbrev pub accepted_on : (flushes : RunFlushes) (view : CompactorStateView) (scheduler : Scheduler) (spec : JobSpec)
    → Bool
accepted_on flushes view scheduler spec = scheduler.validate (view_of flushes view) spec
