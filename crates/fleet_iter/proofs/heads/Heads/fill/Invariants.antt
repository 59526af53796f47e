use Rattle.std.proofs.Common.{◌≡◌, ◌++◌}
use Rattle.std.specs.Vec.Iter.{into_iter_items}
use Rattle.fleet_iter.proofs.heads.Heads.fill.Given as goal

abbrev pub invariant-rows : goal.invariant-rows
invariant-rows l =
    record {
      next : (goal.iterator-rows).can_next l.head-iterator;
      finite : (goal.iterator-rows).is_finite l.head-iterator;
      order : l.self.order ≡ l.fn.self.order;
      all : l.self.rows ++ into_iter_items l.head-iterator ≡ l.fn.rows.items;
    }
