use Rattle.std.proofs.Common.{◌∙◌, sym, ap}
use Rattle.fleet_model.specs.Work.Gates.{commit_gate}
use Rattle.fleet_tree.specs.Trees.{trees_of}
use Rattle.fleet_jobs.specs.Jobs.{job_of}
use Rattle.fleet_jobs.specs.Specs.{spec_of}
use Rattle.fleet_sched.specs.Views.{view_of}
use Rattle.fleet_gates.specs.Rules.{accept_each, number_of, rule_number}
use Rattle.fleet_gates.proofs.FirstRules.{commit_asks, commit_fails}
use Rattle.fleet_gates.proofs.commit.commit_gate.Goals as goal

pub returns-in-Some-clause-rule : goal.returns-in-Some-clause-rule
returns-in-Some-clause-rule g c = λ flushes.
    let trees = trees_of flushes c.args.view.now.manifest.manifest.core in
    let accepts = ((goal.CompactionScheduler-dyn g c.args.scheduler.now).answers c.args.scheduler.now.1).validate (view_of flushes c.args.view.now) in
    let job = job_of c.args.job.now in
    let same = c.core.ensures ∙ ap (λ manifest. manifest.manifest.core) c.manifest.ensures in
    let fails = ap rule_number (sym c.in-Some.is) ∙ c.in_ok-rule.ensures flushes ∙ ap (λ core. commit_gate (trees_of flushes core) accept_each job) same in
    commit_fails trees accepts job (number_of c.in-Some.rule) fails

pub returns-in-None-clause-rule : goal.returns-in-None-clause-rule
returns-in-None-clause-rule g c = λ flushes.
    let trees = trees_of flushes c.args.view.now.manifest.manifest.core in
    let accepts = ((goal.CompactionScheduler-dyn g c.args.scheduler.now).answers c.args.scheduler.now.1).validate (view_of flushes c.args.view.now) in
    let job = job_of c.args.job.now in
    let same = c.core.ensures ∙ ap (λ manifest. manifest.manifest.core) c.manifest.ensures in
    let passes = ap rule_number (sym c.in-None.is) ∙ c.in_ok-rule.ensures flushes ∙ ap (λ core. commit_gate (trees_of flushes core) accept_each job) same in
    commit_asks trees accepts job _ c.scheduler_rule.result (ap spec_of c.spec.ensures) passes (c.scheduler_rule.ensures.rule flushes)
