use Rattle.std.proofs.Common.{refl, subst}
use Rattle.fleet_book.specs.Records.{AreRising, record_with}
use Rattle.fleet_book.specs.States.{own_jobs}
use Rattle.fleet_poll.proofs.Joined.{joined_in}
use Rattle.fleet_poll.proofs.Reached.{on_ok}
use Rattle.fleet_poll.proofs.poll.Poll.join.Goals as goal

pub returns-clause-poll : goal.returns-clause-poll
returns-clause-poll c = λ flushes input rise floor.
    let poll = c.args.self.now in
    let rising = subst (λ v. AreRising v.compactions.jobs) c.compactions.ensures c.know_rising.ensures in
    on_ok c.push-2.result
    (λ listed. joined_in flushes input poll c.finish_compaction.new.self c.push.new.self c.push-2.new.self c.args.job (record_with c.args.job (own_jobs poll.state)) c.in_ok-run.run' rising refl c.requires.compacted c.requires.stand
    c.in_ok-run.ensures.run c.in_ok-finish_compaction.ensures.ok c.in_ok-push.ensures.ok listed rise floor) c.push-2.ensures.ok
