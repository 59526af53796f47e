use Rattle.std.proofs.Common.{arith}
use Rattle.fleet_lock.proofs.Moves.{looks_as}
use Rattle.fleet_lock.proofs.lock.Lock.look.Goals as goal

pub load-requires : goal.load-requires
load-requires g c =
    let shape = c.args.self.now.shape in
    let w = c.requires.waits in
    (c.requires.own, omega (arith, shape.0), looks_as g.S.Holds.value _ _ _ _ shape.1 w.0 w.1 w.2)
