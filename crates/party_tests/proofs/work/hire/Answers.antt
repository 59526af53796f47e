use Rattle.std.proofs.Common.{ap}
use Rattle.fleet_worker.specs.Workers.{WorkerParts}
use Rattle.party_tests.proofs.Hands.{hired_hand}
use Rattle.party_tests.proofs.work.hire.Goals as goal

pub returns : goal.returns
returns g c = hired_hand (g.S.Store.view c.args.store.now) c.args.number c.start.result c.requires (ap (λ (w : WorkerParts). w.number) c.start.ensures.starts) c.start.ensures.ready
