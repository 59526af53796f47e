use Rattle.std.proofs.Common.{◌≡◌, ◌∙◌, subst}
use Rattle.std.specs.Option.{option_copied}
use Rattle.fleet_store.specs.Memory.{StoreParts}
use Rattle.fleet_store.specs.Tables.{held_rows}
use Rattle.fleet_store.proofs.Memories.{held_is}
use Rattle.fleet_store.proofs.memory.MemStore.table.Goals as goal

pub returns : goal.returns
returns c =
    subst (λ (p : StoreParts). option_copied c.get.result ≡ held_rows c.args.id p.world.store) c.self.view_is
    (c.get.ensures.value ∙ held_is _ _ _ _ _ _ _ c.args.id c.self.invariant)
