use Rattle.std.proofs.Common.{◌≡◌, false, sym, subst}
use Rattle.fleet_model.specs.Nodes.{is_among}
use Rattle.fleet_store.specs.Memory.{StoreParts}
use Rattle.fleet_store.proofs.Kept.{table_kept}
use Rattle.fleet_store.proofs.Memories.{none_held}
use Rattle.fleet_store.proofs.memory.MemStore.make_put_table.Goals as goal

pub hold-requires : goal.hold-requires
hold-requires c = none_held _ _ _ _ _ _ _ c.args.id c.self.invariant (subst (λ (p : StoreParts). is_among p.world.store.tables c.args.id ≡ false) (sym c.self.view_is) c.requires)

pub invariant_of-self-2 : goal.invariant_of-self-2
invariant_of-self-2 c =
    table_kept c.self.inside.log c.hold.new.log c.args.id c.args.table _ _ _ _ _ _ _ c.in_ok-strike.ensures.added
    (subst (λ (p : StoreParts). is_among p.world.store.tables c.args.id ≡ false) (sym c.self.view_is) c.requires) c.in_ok-strike.ensures.held c.self.invariant
