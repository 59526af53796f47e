use Rattle.std.proofs.Common.{◌∙◌, sym, ap}
use Rattle.fleet_worker.specs.Workers.{WorkerParts}
use Rattle.party_tests.proofs.Hands.{claim_goes_on}
use Rattle.party_tests.proofs.work.claim.Goals as goal

pub returns : goal.returns
returns g c =
    claim_goes_on (g.S.Store.view c.args.store.now) (g.S.Store.view c.claim.new.store) c.args.worker.now c.claim.new.self (g.met.S.Store.lawful _) c.requires.hand (sym c.stopped.ensures ∙ c.if-stopped.false)
    (ap (λ (w : WorkerParts). w.number) c.claim.ensures.same) c.claim.ensures.ready _ _ _ _ c.claim.ensures.ran
