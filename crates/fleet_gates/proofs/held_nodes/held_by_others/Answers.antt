use Rattle.std.proofs.Common.{◌∙◌, sym, ap, subst}
use Rattle.std.proofs.lemmas.List.{take_all}
use Rattle.fleet_jobs.specs.Jobs.{jobs_of}
use Rattle.fleet_jobs.specs.Places.{held_nodes}
use Rattle.fleet_gates.specs.Held.{Decides, others}
use Rattle.fleet_gates.proofs.HeldNodes.{others_decide}
use Rattle.fleet_gates.proofs.held_nodes.held_by_others.Goals as goal

pub returns : goal.returns
returns c = λ job same.
    let jobs = c.args.jobs.now in
    let lost = c.args.lost.now in
    let all = c.jobs.invariant ∙ ap (λ l. held_nodes (others c.args.id (jobs_of l)) lost) (take_all c.jobs.job-index jobs c.jobs-test.false) in
    let held = all ∙ ap (λ id. held_nodes (others id (jobs_of jobs)) lost) (sym same) in
    subst (λ nodes. Decides nodes (jobs_of jobs) lost job) (sym held) (others_decide (jobs_of jobs) lost job)
