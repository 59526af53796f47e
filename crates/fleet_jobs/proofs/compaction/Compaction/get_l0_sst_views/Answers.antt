use Rattle.std.proofs.Common.{◌∙◌, ap}
use Rattle.std.proofs.lemmas.Result.{IfOk-weaker}
use Rattle.fleet_jobs.specs.Taken.{taken_views}
use Rattle.fleet_jobs.proofs.compaction.Compaction.get_l0_sst_views.Goals as goal

pub returns-clause-views : goal.returns-clause-views
returns-clause-views c =
    let same = c.in_ok-views_of.ensures ∙ ap (λ spec. taken_views spec c.args.core.now) c.spec.ensures in
    IfOk-weaker c.from_vec.result _ _ (λ made e. e ∙ same) c.from_vec.ensures.list
