use Rattle.std.proofs.Common.{◌≡◌, ◌∙◌, refl, ap, subst, rules}
use Rattle.std.specs.Prelude.{IfOk}
use Rattle.fleet_history.specs.Parties.{party_of}
use Rattle.fleet_history.specs.declared.party.Party.TheVariants.{Coordinator}
use Rattle.fleet_store.specs.Memory.{StoreParts}
use Rattle.fleet_store.specs.Under.{lent_of, store_of}
use Rattle.party_tests.specs.Starts.{MayLead}
use Rattle.party_tests.proofs.Hands.{same_caller}
use Rattle.party_tests.proofs.Starts.{leads_if_ok}
use Rattle.party_tests.proofs.refusals.lead.Goals as goal

pub returns-clause-leads : goal.returns-clause-leads
returns-clause-leads c =
    let acts : store_of c.under-under.result ≡ record c.args.store.now { line = 1; party = Coordinator 1 } = c.under-under.ensures.store ∙ c.set_actor.ensures in
    let same : lent_of c.start.new.store ≡ lent_of c.under-under.result = (same_caller _ _ _ _ _ c.start.ensures.ran).lent in
    let back : c.start.new.store.store.now ≡ c.store-1.given.0 = search (rules, same) in
    subst (λ (store : StoreParts). IfOk c.start.result (MayLead store.world)) back
    (leads_if_ok _ _ _ _ _ c.start.ensures.ran (ap (λ (store : StoreParts). party_of store.party) acts) refl c.start.result c.start.ensures.ready)
