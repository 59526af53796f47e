use Rattle.std.proofs.Common.{◌≡◌, ◌∙◌, refl, ap}
use Rattle.row_model.specs.Append.{append}
use Rattle.fleet_history.specs.Parties.{party_of}
use Rattle.fleet_history.specs.declared.party.Party.TheVariants.{Coordinator}
use Rattle.fleet_store.specs.Memory.{StoreParts}
use Rattle.fleet_store.specs.Under.{lent_of, store_of, view_of}
use Rattle.fleet_rival.proofs.Firsts.{records_fit}
use Rattle.fleet_rival.proofs.first.first_records.Goals as goal

pub put_records-requires : goal.put_records-requires
put_records-requires c =
    let acts : store_of c.under-under.result ≡ record c.raise_epoch.new.store { line = 0; party = Coordinator 1 } = c.under-under.ensures.store ∙ c.set_actor.ensures in
    records_fit (view_of append (lent_of c.under-under.result) (store_of c.under-under.result)) c.args.store.now.world c.new-records.result c.in_ok-epoch.epoch
    refl (ap (λ (l : StoreParts). party_of l.party) acts) c.requires (ap (λ (l : StoreParts). l.world) acts ∙ c.in_ok-epoch.ensures.world) c.new-records.ensures c.in_ok-epoch.ensures.epoch
