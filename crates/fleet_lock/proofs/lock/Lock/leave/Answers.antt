use Rattle.std.proofs.Common.{◌≡◌, ◌∷◌, Some, arith, sym, ap, subst, ◌∙◌}
use Rattle.atomic_table.specs.Table.{rest}
use Rattle.fleet_lock.specs.declared.sight.Sight.{Sight}
use Rattle.fleet_lock.specs.Rule.{Follows}
use Rattle.fleet_lock.proofs.Moves.{serves_as}
use Rattle.fleet_lock.proofs.lock.Lock.leave.Goals as goal

pub fetch_add-requires : goal.fetch_add-requires
fetch_add-requires g c =
    let shape = c.args.self.now.shape in
    let x = c.exchange.ensures in
    let view : c.exchange.new.seat.me.0 ≡ c.args.seat.now.me.0 = ap (λ m. m.0) x.3 in
    let held = ap (λ m. m.1) x.3 ∙ ap (λ r. (0, Some c.args.held) ∷ r) (ap rest c.requires.out) in
    (x.0 ∙ c.requires.own, omega (arith, shape.0), serves_as g.S.Holds.value _ _ _ _ c.args.held shape.1 held (ap (λ (v : Sight). v.turn) view ∙ c.requires.turn) (subst (λ (v : Sight). Follows v (g.S.Holds.value c.args.held)) (sym view) c.requires.follows))
