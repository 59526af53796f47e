use Rattle.std.proofs.Common.{◌∙◌, refl, subst}
use Rattle.std.specs.Prelude.{Some}
use Rattle.std.specs.Option.{option_copied}
use Rattle.fleet_store.specs.Memory.{StoreParts}
use Rattle.fleet_store.specs.Records.{AreRecords}
use Rattle.fleet_store.specs.Under.{lent_of, store_of}
use Rattle.fleet_rival.proofs.Again.{idle_of_fits, records_came, records_fit_world, still_whole}
use Rattle.fleet_rival.proofs.rival.put_records_again.Goals as goal

pub put_records-put-requires : goal.put_records-put-requires
put_records-put-requires c =
    let are : AreRecords (Some c.in-Some.records.now) c.store.result.now.world.store = subst (λ records. AreRecords (option_copied records) c.store.result.now.world.store) c.in-Some.is c.records.ensures in
    let world : AreRecords (Some c.in-Some.records.now) (store_of c.args.under.now).world.store = subst (λ (l : StoreParts). AreRecords (Some c.in-Some.records.now) l.world.store) c.store.ensures are in
    records_fit_world (store_of c.args.under.now) (store_of c.set_actor.new.self) c.args.line c.idle-other.result.0 c.set_actor.ensures.store (lent_of c.set_actor.new.self) (lent_of c.set_actor.new.self)
    c.id-version.result c.retain_active_and_last_finished.new.self c.idle-other.result.1
    (idle_of_fits _ c.in-Some.records.now c.id-version.result c.in_ok-value.value c.retain_active_and_last_finished.new.self
    world c.id-version.ensures (c.in_ok-value.ensures.copy ∙ c.compactions.ensures) c.retain_active_and_last_finished.ensures.kept c.retain_active_and_last_finished.ensures.model
    c.idle-other.result.0 c.idle-other.result.1 refl c.idle-other.ensures.idle)

pub returns-clause-rivals : goal.returns-clause-rivals
returns-clause-rivals c =
    let are : AreRecords (Some c.in-Some.records.now) c.store.result.now.world.store = subst (λ records. AreRecords (option_copied records) c.store.result.now.world.store) c.in-Some.is c.records.ensures in
    let world : AreRecords (Some c.in-Some.records.now) (store_of c.args.under.now).world.store = subst (λ (l : StoreParts). AreRecords (Some c.in-Some.records.now) l.world.store) c.store.ensures are in
    records_came (store_of c.args.under.now) (store_of c.set_actor.new.self) c.args.line c.idle-other.result.0 c.set_actor.ensures.store (lent_of c.set_actor.new.self) (lent_of c.put_records-put.new.self)
    c.id-version.result c.retain_active_and_last_finished.new.self c.idle-other.result.1
    (idle_of_fits _ c.in-Some.records.now c.id-version.result c.in_ok-value.value c.retain_active_and_last_finished.new.self
    world c.id-version.ensures (c.in_ok-value.ensures.copy ∙ c.compactions.ensures) c.retain_active_and_last_finished.ensures.kept c.retain_active_and_last_finished.ensures.model
    c.idle-other.result.0 c.idle-other.result.1 refl c.idle-other.ensures.idle)
    c.args.own (store_of c.put_records-put.new.self) c.put_records-put.result c.idle-other.ensures.other c.put_records-put.ensures

pub returns-clause-whole : goal.returns-clause-whole
returns-clause-whole c =
    still_whole (store_of c.args.under.now) (store_of c.set_actor.new.self) (store_of c.put_records-put.new.self) c.args.line c.idle-other.result.0 c.set_actor.ensures.store (lent_of c.set_actor.new.self) (lent_of c.put_records-put.new.self)
    _ _ _ c.put_records-put.result c.put_records-put.ensures.called
