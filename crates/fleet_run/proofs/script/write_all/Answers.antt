use Rattle.std.proofs.Common.{arith}
use Rattle.fleet_run.proofs.Written.{taken_more}
use Rattle.fleet_run.proofs.script.write_all.Goals as goal

pub pieces-preserved : goal.pieces-preserved
pieces-preserved g c =
    let taken = c.in-Ok.ensures in
    record {
      so_far = taken_more c.args.piece.now c.pieces.rest.now c.in-Ok.n _ _ _ c.pieces.invariant.so_far taken.at_most taken.bytes taken.taken;
      never_fall = omega arith;
    }
