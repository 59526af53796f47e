use Rattle.std.proofs.Common.{◌≡◌, ◌∙◌, ap, subst, rules}
use Rattle.std.specs.Bool.{OnFalse}
use Rattle.step_model.specs.Views.{StoreView}
use Rattle.fleet_store.specs.Memory.{StoreParts}
use Rattle.fleet_store.specs.Under as under
use Rattle.fleet_rival.specs.Rival.{lent_of, view_of}
use Rattle.party_tests.specs.Starts.{MayLead}
use Rattle.party_tests.proofs.Hands.{same_caller}
use Rattle.party_tests.proofs.Starts.{leads_on, ready_as}
use Rattle.party_tests.proofs.refusals.poll_beside.Goals as goal

pub handle-requires-clause-ready : goal.handle-requires-clause-ready
handle-requires-clause-ready c =
    ready_as c.args.store.now.world c.args.coordinator.now (view_of c.new-rival.result) c.requires.leads
    (ap (λ (view : StoreView). view.who.party) c.new-rival.ensures) (ap (λ (view : StoreView). view.who.merge) c.new-rival.ensures)
    (ap (λ (view : StoreView). view.world) c.new-rival.ensures ∙ ap (λ (store : StoreParts). store.world) c.under-under.ensures.store)

pub returns : goal.returns
returns c =
    let same : lent_of c.handle.new.store ≡ lent_of c.new-rival.result = (same_caller _ _ _ _ _ c.handle.ensures.ran.ran).lent in
    let held : lent_of c.new-rival.result ≡ under.lent_of c.under-under.result = ap (λ (view : StoreView). view.lent) c.new-rival.ensures in
    let back : c.handle.new.store.under.store.now ≡ c.store-1.given.0 = search (rules, same, held) in
    subst (λ (store : StoreParts). OnFalse c.handle.new.self.stopped (MayLead store.world c.handle.new.self)) back
    (leads_on _ _ _ _ _ c.handle.ensures.ran.ran (ap (λ (view : StoreView). view.who.party) c.new-rival.ensures)
    (ap (λ (view : StoreView). view.who.merge) c.new-rival.ensures) c.handle.new.self c.handle.ensures.ready)
