use Rattle.std.proofs.Common.{◌≡◌, length}
use Rattle.fleet_scan.specs.Walk.{IsReading}
use Rattle.fleet_scan.proofs.KeyTaken.{RowsTaken}
use Rattle.fleet_scan.proofs.key_read.KeyRead.take.Given as goal

-- Of the rows of the source, some were taken.
abbrev pub invariant-rows : goal.invariant-rows
invariant-rows g l =
    let s = g.T.RowSource.state l.source in
    record {
      sound : g.T.RowSource.sound l.source;
      reading : IsReading s;
      point : l.self-inside.point ≡ l.initial.self-inside.point;
      so_far : RowsTaken l.initial.self-inside.point l.initial.self-inside.rows (g.T.RowSource.state l.initial.source) l.self-inside.rows s;
    }

abbrev pub decreases-rows : goal.decreases-rows
decreases-rows g l = length (g.T.RowSource.state l.source).rows
