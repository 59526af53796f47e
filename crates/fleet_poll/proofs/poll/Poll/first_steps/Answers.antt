use Rattle.std.proofs.Common.{subst}
use Rattle.std.specs.Prelude.{OnOk}
use Rattle.fleet_model.specs.Work.Polls.{commit_finished}
use Rattle.fleet_poll.specs.Loops.{HasReached}
use Rattle.fleet_poll.proofs.Stepped.{commits_after}
use Rattle.fleet_poll.proofs.poll.Poll.first_steps.Goals as goal

pub commit_finished-requires : goal.commit_finished-requires
commit_finished-requires g c =
    let s = (goal.CompactionScheduler-dyn g c.args.scheduler.now).answers c.args.scheduler.now.1 in
    commits_after s c.args.options.now c.args.moment c.args.commits_only c.args.self.now c.free_unless.new.self c.requires c.in_ok-free_unless.ensures.sees c.in_ok-free_unless.ensures.poll

pub returns-clause-poll : goal.returns-clause-poll
returns-clause-poll g c = λ flushes input sees stale.
    let s = (goal.CompactionScheduler-dyn g c.args.scheduler.now).answers c.args.scheduler.now.1 in
    subst (λ p. OnOk c.commit_finished.result (HasReached c.commit_finished.new.self (commit_finished input p))) (c.in_ok-free_unless.ensures.poll flushes input stale)
    (c.commit_finished.ensures.poll flushes input (c.in_ok-free_unless.ensures.sees input s sees))

pub returns-clause-sees : goal.returns-clause-sees
returns-clause-sees g c = λ input sees.
    let s = (goal.CompactionScheduler-dyn g c.args.scheduler.now).answers c.args.scheduler.now.1 in
    c.commit_finished.ensures.sees input (c.in_ok-free_unless.ensures.sees input s sees)
