use Rattle.std.proofs.Common.{rules, ◌∙◌, ap, not, [], ◌∷◌}
use Rattle.std.proofs.lemmas.Fn.{filter_same}
use Rattle.fleet_model.specs.Jobs.{contains}
use Rattle.fleet_worker.specs.Claims.{without_parts}
use Rattle.fleet_worker.specs.Workers.{WorkerParts}
use Rattle.fleet_worker.proofs.worker.Worker.drop_attempt.Goals as goal

pub returns : goal.returns
returns c =
    let kept = filter_same _ (λ a. not (contains (c.args.job ∷ []) a.job)) _ (λ x b f called. search rules) _ _ c.retain.ensures.filtered in
    let of = c.into_vec-attempts.ensures ∙ c.take.ensures.all in
    ap (λ (w : WorkerParts). record w { attempts = c.from_vec.result }) c.self.view_is
    ∙ ap (λ a. record c.args.self.now { attempts = a }) (c.from_vec.ensures ∙ (kept ∙ ap (without_parts (c.args.job ∷ [])) (of ∙ ap (λ (w : WorkerParts). w.attempts) c.self.view_is)))
