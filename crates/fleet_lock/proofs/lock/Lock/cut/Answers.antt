use Rattle.std.proofs.Common.{arith, sym, subst}
use Rattle.fleet_lock.specs.Rule.{HoldsName}
use Rattle.fleet_lock.proofs.Moves.{splits}
use Rattle.fleet_lock.proofs.lock.Lock.cut.Goals as goal

pub split_seat-requires : goal.split_seat-requires
split_seat-requires g c =
    let shape = c.args.self.now.shape in
    (c.requires.own, omega (arith, shape.0), splits g.S.Holds.value _ _ _ _ c.requires.parts (subst (HoldsName c.args.seat.now.me.0) (sym c.requires.named) c.requires.name))
