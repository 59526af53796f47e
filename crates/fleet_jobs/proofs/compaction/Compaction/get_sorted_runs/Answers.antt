use Rattle.std.proofs.Common.{◌∙◌, ap}
use Rattle.std.proofs.lemmas.Result.{IfOk-weaker}
use Rattle.fleet_jobs.specs.Taken.{taken_runs}
use Rattle.fleet_jobs.proofs.compaction.Compaction.get_sorted_runs.Goals as goal

pub returns-clause-runs : goal.returns-clause-runs
returns-clause-runs c =
    let same = c.in_ok-runs_of.ensures ∙ ap (λ spec. taken_runs spec c.args.core.now) c.spec.ensures in
    IfOk-weaker c.from_vec.result _ _ (λ made e. e ∙ same) c.from_vec.ensures.list
