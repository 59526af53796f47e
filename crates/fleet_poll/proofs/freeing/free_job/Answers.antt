use Rattle.std.proofs.Common.{◌∙◌, sym, ap, subst}
use Rattle.std.specs.Option.{option_copied}
use Rattle.fleet_jobs.specs.Jobs.{with_status}
use Rattle.fleet_jobs.specs.declared.status.CompactionStatus.TheVariants as own
use Rattle.fleet_book.specs.Records.{AreRising, record_with}
use Rattle.fleet_book.specs.States.{own_jobs}
use Rattle.fleet_poll.specs.Polls.{waiting_record}
use Rattle.fleet_poll.proofs.Changed.{there_is}
use Rattle.fleet_poll.proofs.Records.{freed_job, not_there}
use Rattle.fleet_poll.proofs.freeing.free_job.Goals as goal

pub returns-in_default-clause-jobs : goal.returns-in_default-clause-jobs
returns-in_default-clause-jobs c =
    not_there waiting_record c.args.id (own_jobs c.args.state.now)
    (sym (ap option_copied (sym c.in_default.is) ∙ c.get.ensures ∙ ap (λ v. record_with c.args.id v.jobs) (c.compactions-3.ensures ∙ ap (λ v. v.compactions) c.compactions-2.ensures)))

pub set_compaction-requires : goal.set_compaction-requires
set_compaction-requires c =
    let jobs = own_jobs c.args.state.now in
    let seen = ap (λ v. v.jobs) (c.compactions-3.ensures ∙ ap (λ v. v.compactions) c.compactions-2.ensures) in
    let found = sym (ap option_copied (sym c.in-Some.is) ∙ c.get.ensures ∙ ap (record_with c.args.id) seen) in
    let rising = subst (λ v. AreRising v.compactions.jobs) c.compactions.ensures c.know_rising.ensures in
    let freed = freed_job c.args.id jobs _ _ _ rising found (c.set_status.ensures ∙ ap (with_status own.Scheduled) c.in_ok-freed.ensures.copy) c.set_worker.ensures in
    there_is c.args.id c.set_worker.new.self.id jobs _ freed.0 found

pub returns-clause-jobs : goal.returns-clause-jobs
returns-clause-jobs c =
    let jobs = own_jobs c.args.state.now in
    let seen = ap (λ v. v.jobs) (c.compactions-3.ensures ∙ ap (λ v. v.compactions) c.compactions-2.ensures) in
    let found = sym (ap option_copied (sym c.in-Some.is) ∙ c.get.ensures ∙ ap (record_with c.args.id) seen) in
    let rising = subst (λ v. AreRising v.compactions.jobs) c.compactions.ensures c.know_rising.ensures in
    let freed = freed_job c.args.id jobs _ _ _ rising found (c.set_status.ensures ∙ ap (with_status own.Scheduled) c.in_ok-freed.ensures.copy) c.set_worker.ensures in
    ap own_jobs c.set_compaction.ensures ∙ freed.1
