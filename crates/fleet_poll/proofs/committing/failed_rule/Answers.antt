use Rattle.std.proofs.Common.{◌≡◌, ◌∙◌, ap, sym}
use Rattle.std.specs.Option.{option_copied}
use Rattle.fleet_book.specs.Records.{record_with}
use Rattle.fleet_book.specs.States.{own_jobs}
use Rattle.fleet_gates.specs.Rules.{rule_number}
use Rattle.fleet_poll.specs.Shown.{commit_rule}
use Rattle.fleet_poll.proofs.Answered.{said_of_found}
use Rattle.fleet_poll.proofs.Viewed.{commit_said}
use Rattle.fleet_poll.proofs.committing.failed_rule.Goals as goal

pub returns-in-Some-clause-rule : goal.returns-in-Some-clause-rule
returns-in-Some-clause-rule g c = λ flushes.
    let state = c.args.state.now in
    let s = (goal.CompactionScheduler-dyn g c.args.scheduler.now).answers c.args.scheduler.now.1 in
    let seen = ap (λ v. v.jobs) (c.compactions-2.ensures ∙ ap (λ v. v.compactions) c.compactions.ensures) in
    let found = sym (ap option_copied (sym c.in-Some.is) ∙ c.get.ensures ∙ ap (record_with c.args.id) seen) in
    said_of_found (λ failed job. rule_number failed ≡ commit_rule flushes s state job) (record_with c.args.id (own_jobs state)) c.in-Some.job.now c.commit_gate.result found
    (commit_said flushes c.args.view.now state c.requires s c.in-Some.job.now c.commit_gate.result (c.commit_gate.ensures.rule flushes))
