use Rattle.std.proofs.Common.{◌∙◌, sym, ap, refl}
use Rattle.fleet_worker.specs.Workers.{WorkerParts}
use Rattle.fleet_worker.proofs.GivenBack.{gives_back, none_live}
use Rattle.fleet_worker.proofs.worker.Worker.release_of.Goals as goal

pub returns-in_default-clause-put : goal.returns-in_default-clause-put
returns-in_default-clause-put c = rw c.in_default.is (λ again. refl)

pub returns-then-is_empty-clause-put : goal.returns-then-is_empty-clause-put
returns-then-is_empty-clause-put c =
    rw c.in-Some.is
    (none_live c.args.self.now c.self.inside.id c.as_slice.result.now c.in_ok-live.live (ap (λ (w : WorkerParts). w.number) c.self.view_is) (c.as_slice.ensures ∙ ap (λ (w : WorkerParts). w.attempts) c.self.view_is)
    c.in-Some.got (rw c.compactions-records.ensures at c.in_ok-live.ensures.live) (c.is_empty.ensures.0 c.if-is_empty.true))

pub returns-clause-put : goal.returns-clause-put
returns-clause-put c =
    rw c.in-Some.is
    (gives_back c.args.self.now c.self.inside.id c.as_slice.result.now c.in_ok-live.live (ap (λ (w : WorkerParts). w.number) c.self.view_is) (c.as_slice.ensures ∙ ap (λ (w : WorkerParts). w.attempts) c.self.view_is)
    c.in-Some.got (rw c.compactions-records.ensures at c.in_ok-live.ensures.live) c.in_ok-released.field-0 c.id.result c.as_slice-2.result.now c.as_slice-3.result.now c.in_ok-jobs_of.field-0
    (λ none. absurd (cc (sym c.if-is_empty.false ∙ c.is_empty.ensures.1 none))) c.id.ensures c.as_slice-2.ensures (rw c.compactions-records.ensures at c.in_ok-released.ensures.made) c.as_slice-3.ensures c.in_ok-jobs_of.ensures.jobs)
