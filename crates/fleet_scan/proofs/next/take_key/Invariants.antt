use Rattle.std.proofs.Common.{length}
use Rattle.std.specs.Prelude.{⊤}
use Rattle.fleet_iter.specs.MergeState as merge
use Rattle.fleet_table.specs.Iterator.{state_of}
use Rattle.fleet_scan.specs.Walk.{IsReading, TakesSoFar}
use Rattle.fleet_scan.proofs.next.take_key.Given as goal

-- The rows that were read are taken.
abbrev pub invariant-rows : goal.invariant-rows
invariant-rows l =
    let s = merge.state_of state_of l.source in
    let old = merge.state_of state_of l.fn.source in
    record {
      sound : merge.IsSound (λ _. ⊤) state_of l.source;
      reading : IsReading s;
      so_far : TakesSoFar l.point l.fn.taken old l.taken s;
    }

abbrev pub decreases-rows : goal.decreases-rows
decreases-rows l = length (merge.state_of state_of l.source).rows
