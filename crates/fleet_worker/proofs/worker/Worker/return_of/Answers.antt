use Rattle.std.proofs.Common.{◌∙◌, sym, ap, refl}
use Rattle.fleet_worker.specs.Workers.{WorkerParts}
use Rattle.fleet_worker.proofs.Returns.{not_live, returns_one}
use Rattle.fleet_worker.proofs.worker.Worker.return_of.Goals as goal

pub returns-in_default-clause-put : goal.returns-in_default-clause-put
returns-in_default-clause-put c = rw c.in_default.is (λ again. refl)

pub returns-then-not-is_live-clause-put : goal.returns-then-not-is_live-clause-put
returns-then-not-is_live-clause-put c =
    rw c.in-Some.is
    (not_live c.args.self.now c.args.attempt.now c.self.inside.id (ap (λ (w : WorkerParts). w.number) c.self.view_is) c.in-Some.got (rw c.compactions-records.ensures at (sym c.is_live.ensures ∙ c.if-not-is_live.true)))

pub returns-clause-put : goal.returns-clause-put
returns-clause-put c =
    rw c.in-Some.is
    (returns_one c.args.self.now c.args.attempt.now c.self.inside.id (ap (λ (w : WorkerParts). w.number) c.self.view_is) c.in-Some.got (rw c.compactions-records.ensures at (sym c.is_live.ensures ∙ c.if-not-is_live.false))
    c.in_ok-released.field-0 c.id.result c.in_ok-these.these c.as_slice.result.now c.new.result c.id.ensures c.in_ok-these.ensures.named c.as_slice.ensures (rw c.compactions-records.ensures at c.in_ok-released.ensures.made))
