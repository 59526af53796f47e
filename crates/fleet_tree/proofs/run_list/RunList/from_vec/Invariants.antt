use Rattle.std.proofs.Common.{◌≡◌, ◌++◌}
use Rattle.std.specs.Vec.Iter.{into_iter_items}
use Rattle.fleet_tree.proofs.run_list.RunList.from_vec.Given as goal

-- The runs so far and those left are all runs.
abbrev pub invariant-runs : goal.invariant-runs
invariant-runs l =
    record {
      next : (goal.iterator-runs).can_next l.run-iterator;
      finite : (goal.iterator-runs).is_finite l.run-iterator;
      all : l.list ++ into_iter_items l.run-iterator ≡ l.fn.runs.items;
    }
