use Rattle.std.proofs.Common.{◌≡◌, ◌∙◌, ap, sym}
use Rattle.std.specs.Option.{option_copied}
use Rattle.fleet_model.specs.Work.Gates.{submit_gate}
use Rattle.fleet_tree.specs.Trees.{trees_of}
use Rattle.fleet_jobs.specs.Jobs.{job_of}
use Rattle.fleet_book.specs.Records.{record_with}
use Rattle.fleet_book.specs.States.{own_jobs}
use Rattle.fleet_gates.specs.Held.{Decides}
use Rattle.fleet_gates.specs.Rules.{rule_number}
use Rattle.fleet_gates.specs.Shown.{accepted_on}
use Rattle.fleet_poll.specs.Made.{own_core}
use Rattle.fleet_poll.specs.Shown.{open_view}
use Rattle.fleet_poll.proofs.Answered.{said_if_found}
use Rattle.fleet_poll.proofs.Viewed.{submit_said}
use Rattle.fleet_poll.proofs.submitted_jobs.failed_rule.Goals as goal

pub returns-in-Some-clause-rule : goal.returns-in-Some-clause-rule
returns-in-Some-clause-rule g c = λ flushes jobs lost.
    let state = c.args.state.now in
    let s = (goal.CompactionScheduler-dyn g c.args.scheduler.now).answers c.args.scheduler.now.1 in
    let accepts = accepted_on flushes (open_view state) s in
    let seen = ap (λ v. v.jobs) (c.compactions-2.ensures ∙ ap (λ v. v.compactions) c.compactions.ensures) in
    let found = sym (ap option_copied (sym c.in-Some.is) ∙ c.get.ensures ∙ ap (record_with c.args.id) seen) in
    said_if_found (λ job. Decides c.args.held.now jobs lost (job_of job)) (λ failed job. rule_number failed ≡ submit_gate (trees_of flushes (own_core state)) jobs lost accepts (job_of job))
    (record_with c.args.id (own_jobs state)) c.in-Some.job.now c.submit_gate.result found
    (λ decides. submit_said flushes c.args.view.now state c.requires s jobs lost c.in-Some.job.now c.submit_gate.result (c.submit_gate.ensures.rule flushes jobs lost decides))
