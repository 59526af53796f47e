use Rattle.std.proofs.Common.{◌∙◌, ap, arith, take_all}
use Rattle.fleet_claim.specs.Choices.{stopped_ids}
use Rattle.fleet_claim.proofs.Choices.{are_stopped}
use Rattle.fleet_claim.proofs.choice.stopped_jobs.Goals as goal

pub returns-clause-jobs : goal.returns-clause-jobs
returns-clause-jobs c =
    let jobs = c.args.jobs.now in
    are_stopped c.args.running.now jobs c.from_vec.result (c.from_vec.ensures ∙ c.jobs.invariant ∙ ap (stopped_ids c.args.running.now) (take_all c.jobs.job-index jobs (omega (arith, c.jobs-test.false))))
