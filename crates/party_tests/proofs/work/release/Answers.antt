use Rattle.std.proofs.Common.{◌∙◌, sym, ap}
use Rattle.fleet_worker.specs.Workers.{WorkerParts}
use Rattle.party_tests.proofs.Hands.{release_goes_on}
use Rattle.party_tests.proofs.work.release.Goals as goal

pub returns : goal.returns
returns g c =
    release_goes_on (g.S.Store.view c.args.store.now) (g.S.Store.view c.release_all.new.store) c.args.worker.now c.release_all.new.self (g.met.S.Store.lawful _) c.requires.hand (sym c.stopped.ensures ∙ c.if-stopped.false)
    (ap (λ (w : WorkerParts). w.number) c.release_all.ensures.stopped) c.release_all.ensures.ready _ _ c.release_all.ensures.ran
