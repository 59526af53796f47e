use Rattle.std.proofs.Common.{◌∙◌, sym, ap}
use Rattle.fleet_worker.specs.Workers.{WorkerParts}
use Rattle.party_tests.proofs.Hands.{beat_goes_on}
use Rattle.party_tests.proofs.work.beat.Goals as goal

pub returns : goal.returns
returns g c =
    beat_goes_on (g.S.Store.view c.args.store.now) (g.S.Store.view c.heartbeat.new.store) c.args.worker.now c.heartbeat.new.self (g.met.S.Store.lawful _) c.requires.hand (sym c.stopped.ensures ∙ c.if-stopped.false)
    (ap (λ (w : WorkerParts). w.number) c.heartbeat.ensures.same) c.heartbeat.ensures.ready _ _ _ c.heartbeat.ensures.ran
