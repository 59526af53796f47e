use Rattle.std.proofs.Common.{◌≡◌, ◌∙◌, Some, ap, refl, subst, sym}
use Rattle.std.specs.Option.{option_copied}
use Rattle.row_model.specs.Append.{append}
use Rattle.fleet_history.specs.Parties.{party_of}
use Rattle.fleet_history.specs.declared.party.Party.TheVariants.{Submitter}
use Rattle.fleet_store.specs.Memory.{StoreParts}
use Rattle.fleet_store.specs.Records.{AreRecords}
use Rattle.fleet_store.specs.Under.{lent_of, store_of, view_of}
use Rattle.fleet_rival.proofs.Alone.{submit_of_any}
use Rattle.fleet_tests.proofs.stores.put_records.Goals as goal

pub put_records-requires : goal.put_records-requires
put_records-requires c =
    let lent = store_of c.under-under.result in
    let acts : lent ≡ record c.args.store.now { line = 0; party = Submitter } = c.under-under.ensures.store ∙ c.set_actor.ensures in
    let found : AreRecords (Some c.in-Some.records.now) c.args.store.now.world.store = subst (λ records. AreRecords (option_copied records) c.args.store.now.world.store) c.in-Some.is c.records.ensures in
    submit_of_any (view_of append (lent_of c.under-under.result) lent) refl c.in-Some.records.now c.args.version c.in_ok-value.value c.retain_active_and_last_finished.new.self c.new.result
    (subst (λ (l : StoreParts). AreRecords (Some c.in-Some.records.now) l.world.store) (sym acts) found) (c.in_ok-value.ensures.copy ∙ c.compactions.ensures)
    c.retain_active_and_last_finished.ensures.kept c.retain_active_and_last_finished.ensures.model c.new.ensures (ap (λ (l : StoreParts). party_of l.party) acts)
