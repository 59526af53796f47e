use Rattle.std.proofs.Common.{map}
use Rattle.std.specs.Vec.Iter.{into_iter_items}
use Rattle.fleet_rows.specs.Row.{rows_of}
use Rattle.fleet_output.proofs.PutsInOrder.{RangesOn}
use Rattle.fleet_output.proofs.ranges.put_ranges.Given as goal

abbrev pub invariant-each : goal.invariant-each
invariant-each g l =
    record {
      next : (goal.iterator-each g).can_next l.tables-iterator;
      finite : (goal.iterator-each g).is_finite l.tables-iterator;
      on : RangesOn l.moment (map (map rows_of) l.fn.ranges) (g.S.Store.view l.initial.store) (g.S.Store.view l.store) (map (map rows_of) (into_iter_items l.tables-iterator)) l.outputs;
    }
