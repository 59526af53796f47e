use Rattle.std.proofs.Common.{◌≡◌, ◌+◌, Some, ap, sym, ◌∙◌, subst, if◌then◌else◌}
use Rattle.fleet_model.specs.Exchanges.{records_version}
use Rattle.fleet_store.specs.Memory.{StoreParts}
use Rattle.fleet_store.specs.Records.{DescribeTables}
use Rattle.fleet_store.proofs.Kept.{records_kept}
use Rattle.fleet_store.proofs.memory.MemStore.make_put_records.Goals as goal

pub invariant_of-self-2 : goal.invariant_of-self-2
invariant_of-self-2 c =
    records_kept c.self.inside.log c.add_records.new.self c.args.version c.args.value c.args.why _ _ c.self.inside.records _ _ _ c.stored_version-stored.result c.replace_records.new.records c.in_ok-strike.ensures.ok
    (subst (λ (p : StoreParts). c.args.version ≡ records_version p.world.store.records → DescribeTables c.args.value.jobs p.world.store) (sym c.self.view_is) c.requires)
    c.stored_version-stored.ensures
    (c.replace_records.ensures ∙ ap (λ b. if b then Some (record { id = c.stored_version-stored.result + 1; compactions = c.args.value }) else c.self.inside.records) c.replaces-stands.ensures) c.self.invariant
