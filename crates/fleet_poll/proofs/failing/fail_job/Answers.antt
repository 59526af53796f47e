use Rattle.std.proofs.Common.{◌∙◌, sym, ap, subst}
use Rattle.std.specs.Prelude.{is_some}
use Rattle.fleet_book.specs.Records.{AreRising, record_with}
use Rattle.fleet_book.specs.States.{own_jobs}
use Rattle.fleet_poll.specs.Polls.{failed_record}
use Rattle.fleet_poll.proofs.Records.{failed_job, none_if, not_there}
use Rattle.fleet_poll.proofs.failing.fail_job.Goals as goal

pub returns-then-has_job-clause-jobs : goal.returns-then-has_job-clause-jobs
returns-then-has_job-clause-jobs c =
    let rising = subst (λ v. AreRising v.compactions.jobs) c.compactions.ensures c.know_rising.ensures in
    let there = sym (c.has_job.ensures ∙ ap (λ v. is_some (record_with c.args.id v.compactions.jobs)) c.compactions-2.ensures) ∙ c.if-has_job.true in
    (failed_job c.args.id c.args.state.now c.update_status.new.self rising there c.update_status.ensures).0

pub returns-else-has_job-clause-jobs : goal.returns-else-has_job-clause-jobs
returns-else-has_job-clause-jobs c =
    let none = sym (c.has_job.ensures ∙ ap (λ v. is_some (record_with c.args.id v.compactions.jobs)) c.compactions-2.ensures) ∙ c.if-has_job.false in
    not_there failed_record c.args.id (own_jobs c.args.state.now) (none_if _ none)
