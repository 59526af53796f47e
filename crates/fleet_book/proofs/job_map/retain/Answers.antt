use Rattle.std.proofs.Common.{rules, ◌∙◌, ap, ◌||◌}
use Rattle.std.specs.Prelude.{◌==◌, false, filter}
use Rattle.std.specs.Option.{option_map_or}
use Rattle.std.proofs.lemmas.Fn.{filter_same}
use Rattle.fleet_jobs.specs.Jobs.{is_open}
use Rattle.fleet_book.proofs.job_map.retain.Goals as goal

pub returns : goal.returns
returns c =
    let kept = filter_same _ (λ job. is_open job || option_map_or (λ id. id == job.id) c.args.last false) _ (λ x b f called. search rules) _ _ c.retain.ensures.filtered in
    c.from_vec.ensures ∙ kept ∙ ap (filter (λ job. is_open job || option_map_or (λ id. id == job.id) c.args.last false)) (c.into_vec-items.ensures ∙ c.take.ensures.all)
