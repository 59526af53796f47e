use Rattle.std.proofs.Common.{rules, ◌∙◌, ap, not}
use Rattle.std.specs.Prelude.{◌==◌, filter}
use Rattle.std.proofs.lemmas.Fn.{filter_same}
use Rattle.fleet_exec.proofs.executor.end_job.Goals as goal

pub returns : goal.returns
returns c =
    let kept = filter_same _ (λ job. not (job.args.id == c.args.id)) _ (λ x b f called. search rules) _ _ c.retain.ensures.filtered in
    c.from_vec.ensures ∙ kept ∙ ap (filter (λ job. not (job.args.id == c.args.id))) (c.into_vec-items.ensures ∙ c.take.ensures.all)
