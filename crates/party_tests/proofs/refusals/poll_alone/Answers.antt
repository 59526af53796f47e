use Rattle.std.proofs.Common.{◌≡◌, ◌∙◌, refl, ap}
use Rattle.row_model.specs.Append.{append}
use Rattle.fleet_history.specs.Parties.{party_of}
use Rattle.fleet_history.specs.declared.party.Party.TheVariants.{Coordinator}
use Rattle.fleet_store.specs.Memory.{StoreParts}
use Rattle.fleet_store.specs.Under.{lent_of, store_of, view_of}
use Rattle.party_tests.proofs.Starts.{ready_as}
use Rattle.party_tests.proofs.refusals.poll_alone.Goals as goal

pub handle-requires-clause-ready : goal.handle-requires-clause-ready
handle-requires-clause-ready c =
    let acts : store_of c.under-under.result ≡ record c.args.store.now { line = 1; party = Coordinator 1 } = c.under-under.ensures.store ∙ c.set_actor.ensures in
    ready_as c.args.store.now.world c.args.coordinator.now (view_of append (lent_of c.under-under.result) (store_of c.under-under.result)) c.requires.leads
    (ap (λ (store : StoreParts). party_of store.party) acts) refl (ap (λ (store : StoreParts). store.world) acts)
