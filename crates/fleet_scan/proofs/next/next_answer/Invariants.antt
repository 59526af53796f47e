use Rattle.std.proofs.Common.{◌≡◌, length}
use Rattle.std.specs.Prelude.{⊤}
use Rattle.row_model.specs.Rows.{IsStrictlyOrdered}
use Rattle.fleet_iter.specs.MergeState as merge
use Rattle.fleet_table.specs.Iterator.{state_of}
use Rattle.fleet_scan.specs.Answers.{answers_of}
use Rattle.fleet_scan.specs.Walk.{IsReading}
use Rattle.fleet_scan.proofs.next.next_answer.Given as goal

-- The keys that were read have no answer.
abbrev pub invariant-keys : goal.invariant-keys
invariant-keys g l =
    let s = merge.state_of state_of l.source in
    let old = merge.state_of state_of l.fn.source in
    let folding = g.B.BatchMerger.fold l.operator in
    record {
      sound : merge.IsSound (λ _. ⊤) state_of l.source;
      reading : IsReading s;
      ordered : IsStrictlyOrdered s.rows;
      same : answers_of folding l.point.seq l.point.moment old.rows ≡ answers_of folding l.point.seq l.point.moment s.rows;
    }

abbrev pub decreases-keys : goal.decreases-keys
decreases-keys g l = length (merge.state_of state_of l.source).rows
