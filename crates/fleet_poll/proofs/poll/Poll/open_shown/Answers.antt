use Rattle.std.proofs.Common.{[], subst, sym}
use Rattle.fleet_model.specs.Work.Polls.{lost_to_scheduler}
use Rattle.fleet_jobs.specs.Jobs.{jobs_of}
use Rattle.fleet_book.specs.Shown.{ShowedRecords}
use Rattle.fleet_book.specs.Records.{AreRising, record_with}
use Rattle.fleet_book.specs.States.{own_jobs}
use Rattle.fleet_poll.proofs.Answered.{opened_in, stand_in}
use Rattle.fleet_poll.proofs.Viewed.{showed_before}
use Rattle.fleet_poll.proofs.poll.Poll.open_shown.Goals as goal

pub open-requires-clause-stand : goal.open-requires-clause-stand
open-requires-clause-stand g c =
    let poll = c.args.self.now in
    stand_in (λ prefix run. []) poll.state ((goal.CompactionScheduler-dyn g c.args.scheduler.now).answers c.args.scheduler.now.1) c.args.held.now (lost_to_scheduler poll.lost) c.in_ok-failed.failed (record_with c.args.job (own_jobs poll.state))
    (c.in_ok-failed.ensures.rule (λ prefix run. []) (jobs_of (own_jobs poll.state)) (lost_to_scheduler poll.lost)) c.requires.held

pub refresh-requires : goal.refresh-requires
refresh-requires g c =
    let rising = subst (λ v. AreRising v.compactions.jobs) c.compactions.ensures c.know_rising.ensures in
    subst (λ shown. ShowedRecords c.args.job shown c.open.new.self.state.compactions) (sym c.forget_trees.ensures.jobs)
    (showed_before c.args.job c.args.view.now c.args.self.now.state c.open.new.self.state rising c.requires.shown c.in_ok-open.ensures.decision.others)

pub returns-clause-poll : goal.returns-clause-poll
returns-clause-poll g c = λ flushes input rise same.
    let poll = c.args.self.now in
    opened_in flushes input c.args.options.now.enable_trivial_move poll c.open.new.self ((goal.CompactionScheduler-dyn g c.args.scheduler.now).answers c.args.scheduler.now.1) c.args.held.now c.in_ok-failed.failed (record_with c.args.job (own_jobs poll.state))
    (c.in_ok-failed.ensures.rule flushes (jobs_of (own_jobs poll.state)) (lost_to_scheduler poll.lost)) c.requires.held
    (c.in_ok-open.ensures.poll flushes input rise same)
