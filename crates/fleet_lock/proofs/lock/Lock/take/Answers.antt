use Rattle.std.proofs.Common.{◌∷◌, Some, sym, ap, ◌∙◌}
use Rattle.atomic_table.specs.Table.{rest}
use Rattle.fleet_lock.proofs.lock.Lock.take.Goals as goal

pub exchange-requires : goal.exchange-requires
exchange-requires g c =
    let o = c.requires.out in
    (c.requires.own, (Some o.0, o.1 ∙ ap (λ r. (0, Some o.0) ∷ r) (sym (ap rest o.1))))
