use Rattle.std.proofs.Common.{map}
use Rattle.std.specs.Vec.Iter.{into_iter_items}
use Rattle.fleet_rows.specs.Row.{rows_of}
use Rattle.fleet_output.proofs.PutsInOrder.{PutsOn}
use Rattle.fleet_output.proofs.ranges.put_tables.Given as goal

abbrev pub invariant-tables : goal.invariant-tables
invariant-tables g l =
    record {
      next : (goal.iterator-tables g).can_next l.rows-iterator;
      finite : (goal.iterator-tables g).is_finite l.rows-iterator;
      on : PutsOn l.moment (map rows_of l.fn.tables) (g.S.Store.view l.initial.store) (g.S.Store.view l.store) (map rows_of (into_iter_items l.rows-iterator)) l.handles;
    }
