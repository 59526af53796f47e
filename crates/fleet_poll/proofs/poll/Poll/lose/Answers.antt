use Rattle.std.proofs.Common.{◌∙◌, ap, ◌∷◌, ◌++◌, []}
use Rattle.fleet_gates.specs.Rules.{number_of}
use Rattle.fleet_poll.proofs.Reached.{lost_in}
use Rattle.fleet_poll.proofs.poll.Poll.lose.Goals as goal

pub returns-clause-poll : goal.returns-clause-poll
returns-clause-poll c = λ flushes input job same.
    let more = c.in_ok-push.ensures.ok ∙ ap (λ rule. c.args.self.now.lost ++ (c.args.job, rule) ∷ []) c.number.ensures in
    lost_in flushes c.args.self.now c.fail_job.new.state c.push.new.self c.args.job job.id (number_of c.args.rule) same c.fail_job.ensures.same c.fail_job.ensures.jobs more
