use Rattle.std.proofs.Common.{rules, ◌∙◌}
use Rattle.fleet_worker.specs.Workers.{WorkerParts}
use Rattle.fleet_lines.proofs.Taken.{none_taken, taken}
use Rattle.fleet_lines.proofs.parties.take_worker.Goals as goal

pub returns-in_err-place-clause-found : goal.returns-in_err-place-clause-found
returns-in_err-place-clause-found c = (search rules) ∙ (none_taken (λ (w : WorkerParts). w.number) c.args.number c.args.workers.now.items (search rules)).0

pub returns-in_err-place-clause-others : goal.returns-in_err-place-clause-others
returns-in_err-place-clause-others c = (none_taken (λ (w : WorkerParts). w.number) c.args.number c.args.workers.now.items (search rules)).1

pub returns-clause-found : goal.returns-clause-found
returns-clause-found c = (taken (λ (w : WorkerParts). w.number) c.args.number c.args.workers.now.items c.in_ok-place.place c.remove.result (search rules) (search rules) c.requires).0

pub returns-clause-others : goal.returns-clause-others
returns-clause-others c = c.remove.ensures.items ∙ (taken (λ (w : WorkerParts). w.number) c.args.number c.args.workers.now.items c.in_ok-place.place c.remove.result (search rules) (search rules) c.requires).1
