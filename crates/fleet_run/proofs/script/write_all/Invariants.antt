use Rattle.std.proofs.Common.{◌≤◌, length}
use Rattle.fleet_run.proofs.Written.{TakenSoFar}
use Rattle.fleet_run.proofs.script.write_all.Given as goal

-- A front of the piece is written, and the rest is left.
abbrev pub invariant-pieces : goal.invariant-pieces
invariant-pieces g l =
    let view = g.K.Sink.view in
    record { so_far : TakenSoFar l.piece l.rest (view l.fn.sink) (view l.sink); never_fall : (view l.fn.sink).faults ≤ (view l.sink).faults }

abbrev pub decreases-pieces : goal.decreases-pieces
decreases-pieces g l = length l.rest
