use Rattle.std.proofs.Common.{ap, sym, ◌∙◌, subst, if◌then◌else◌, IsTrue, nat_cmp}
use Rattle.std.specs.BTreeMap.{is_at}
use Rattle.std.specs.Map.{remove_entry}
use Rattle.fleet_model.specs.Store.{is_held}
use Rattle.fleet_store.specs.Memory.{StoreParts}
use Rattle.fleet_store.proofs.Kept.{deletion_kept}
use Rattle.fleet_store.proofs.memory.MemStore.make_delete_table.Goals as goal

pub invariant_of-self-2 : goal.invariant_of-self-2
invariant_of-self-2 c =
    deletion_kept c.self.inside.log c.add.new.self c.args.id _ _ _ c.self.inside.tables.entries _ _ _ c.in_ok-strike.ensures.ok
    (subst (λ (p : StoreParts). IsTrue (is_held p.world.store c.args.id)) (sym c.self.view_is) c.requires)
    (c.drop_table.ensures ∙ ap (λ b. if b then remove_entry (is_at (nat_cmp c.args.id)) c.self.inside.tables.entries else c.self.inside.tables.entries) c.takes_effect.ensures) c.self.invariant
