use Rattle.std.proofs.Common.{◌≡◌, ◌++◌, drop, length}
use Rattle.std.specs.Vec.Iter.{into_iter_items}
use Rattle.fleet_output.specs.Finishes.{noted_and}
use Rattle.fleet_output.proofs.outputs.all_outputs.Given as goal

abbrev pub invariant-each : goal.invariant-each
invariant-each l =
    record {
      left : length (into_iter_items l.lists) ≡ length (drop l.part-index l.parts);
      all : noted_and l.parts l.fn.new ≡ l.outputs.items ++ noted_and (drop l.part-index l.parts) (into_iter_items l.lists);
    }
