use Rattle.std.proofs.Common.{arith, refl}
use Rattle.fleet_store.specs.Under.{lent_of, store_of}
use Rattle.fleet_rival.proofs.Rivals.{after_others, none_came}
use Rattle.fleet_rival.proofs.rival.RivalStore.get_table.Goals as goal

pub returns : goal.returns
returns c =
    after_others (store_of c.args.self.now.under) (store_of c.set_actor.new.self) (store_of c.get_table.new.self) (store_of c.args.self.now.under)
    c.args.self.now.line c.args.self.now.party c.set_actor.ensures.store (lent_of c.args.self.now.under) (lent_of c.set_actor.new.self) (lent_of c.get_table.new.self)
    (none_came _ _) (omega arith) (λ version. refl) c.set_actor.ensures.same_reference
    _ _ _ c.get_table.result c.get_table.ensures
