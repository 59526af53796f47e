use Rattle.std.proofs.Common.{◌∙◌, sym, ap}
use Rattle.fleet_worker.specs.Workers.{WorkerParts}
use Rattle.party_tests.proofs.Finished.{finish_goes_on}
use Rattle.party_tests.proofs.work.finish.Goals as goal

pub returns : goal.returns
returns g c =
    finish_goes_on _ c.args.worker.now c.finish.new.self _ (g.S.Store.view c.args.store.now) (g.S.Store.view c.finish.new.store) (g.met.S.Store.lawful _) c.requires.hand (sym c.stopped.ensures ∙ c.if-stopped.false)
    (ap (λ (w : WorkerParts). w.number) c.finish.ensures.same) c.finish.ensures.ready _ _ c.finish.ensures.ran
