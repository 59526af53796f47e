use Rattle.fleet_poll.proofs.Reached.{ok_anyway, on_ok, scheduled_in}
use Rattle.fleet_poll.proofs.poll.Poll.schedule.Goals as goal

pub returns-clause-poll : goal.returns-clause-poll
returns-clause-poll c = λ flushes made same.
    on_ok c.push.result
    (λ more. scheduled_in flushes c.args.self.now c.open_job.new.state c.push.new.self c.args.job made.id same c.in_ok-open_job.ensures.same (c.in_ok-open_job.ensures.jobs flushes) more) c.push.ensures.ok

pub returns-clause-jobs : goal.returns-clause-jobs
returns-clause-jobs c = λ flushes. ok_anyway c.push.result (c.in_ok-open_job.ensures.jobs flushes)
