use Rattle.std.proofs.Common.{◌∙◌, sym, ap}
use Rattle.std.specs.Option.{option_copied}
use Rattle.fleet_worker.specs.Messages.{went_on}
use Rattle.fleet_worker.specs.Workers.{WorkerParts}
use Rattle.fleet_worker.proofs.Inserted.{without_none}
use Rattle.fleet_worker.proofs.worker.Worker.went_on.Goals as goal

pub returns-in_default-clause-next : goal.returns-in_default-clause-next
returns-in_default-clause-next c =
    c.from_vec.ensures
    ∙ (c.in_ok-other_attempts.ensures.others
    ∙ (without_none c.as_slice-attempts.result.now
    ∙ (c.as_slice-attempts.ensures
    ∙ (ap (λ (w : WorkerParts). w.attempts) c.self.view_is
    ∙ ap (λ found. went_on c.args.ctx found c.args.self.now.attempts) (sym (sym c.attempt_with.ensures ∙ ap option_copied c.in_default.is))))))
