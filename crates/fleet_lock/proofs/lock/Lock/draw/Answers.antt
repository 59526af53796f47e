use Rattle.std.proofs.Common.{arith}
use Rattle.fleet_lock.proofs.Moves.{draws_as}
use Rattle.fleet_lock.proofs.lock.Lock.draw.Goals as goal

pub fetch_add-requires : goal.fetch_add-requires
fetch_add-requires g c =
    let shape = c.args.self.now.shape in
    let i = c.requires in
    (i.own, omega (arith, shape.0), draws_as g.S.Holds.value _ _ _ _ shape.1 i.free i.part i.idle.0 i.idle.1)
