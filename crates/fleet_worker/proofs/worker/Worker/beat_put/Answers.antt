use Rattle.std.proofs.Common.{◌∙◌, ap}
use Rattle.fleet_worker.specs.Workers.{WorkerParts}
use Rattle.fleet_worker.proofs.Beaten.{beat_put_is}
use Rattle.fleet_worker.proofs.worker.Worker.beat_put.Goals as goal

pub returns-clause-put : goal.returns-clause-put
returns-clause-put c =
    beat_put_is c.args.moment c.args.self.now c.args.got.now c.self.inside.id c.as_slice-attempts.result.now c.id.result c.in_ok-live.live c.in_ok-beaten_records.field-0
    (ap (λ (w : WorkerParts). w.number) c.self.view_is) (c.as_slice-attempts.ensures ∙ ap (λ (w : WorkerParts). w.attempts) c.self.view_is) c.id.ensures
    (rw c.compactions-records.ensures at c.in_ok-live.ensures.live) (rw c.compactions-records.ensures at c.in_ok-beaten_records.ensures.made)
