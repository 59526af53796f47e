-- What a scheduler is shown of a store with a root alone.
use Rattle.std.specs.Prelude.{List, [], None, pos}
use Rattle.fleet_tree.specs.Trees.{empty_tree}
use Rattle.fleet_tree.specs.Views.{View}
use Rattle.fleet_book.specs.declared.view.CompactorStateView.{CompactorStateView}

-- A store whose root has these flushes, before its first job.
abbrev pub state_with : List View → CompactorStateView
state_with flushes = record {
  manifest = record {
    id = 1;
    manifest = record {
      compactor_epoch = 0;
      core = record {
        tree = record empty_tree { l0 = flushes };
        segments = [];
        recent_snapshot_min_seq = 0;
        last_l0_clock_tick = pos 0;
        tracker = [];
        horizon = 0;
      };
    };
  };
  compactions = None;
}
