use Rattle.std.proofs.Common.{[]}
use Rattle.fleet_sched.specs.Views.{view_of}
use Rattle.fleet_poll.proofs.Answered.{view_is}
use Rattle.fleet_poll.proofs.Proposed.{fails_for_memory, proposed_on}
use Rattle.fleet_poll.proofs.asking.all_proposals.Goals as goal

pub returns-clause-specs : goal.returns-clause-specs
returns-clause-specs g c = λ flushes.
    let s = (goal.CompactionScheduler-dyn g c.args.scheduler.now).answers c.args.scheduler.now.1 in
    proposed_on flushes s c.args.state.now c.in_ok-view.view c.propose.result (view_is c.args.state.now c.in_ok-view.view c.in_ok-view.ensures.manifest c.in_ok-view.ensures.jobs) (c.propose.ensures flushes)

pub returns-clause-memory : goal.returns-clause-memory
returns-clause-memory g c =
    let s = (goal.CompactionScheduler-dyn g c.args.scheduler.now).answers c.args.scheduler.now.1 in
    fails_for_memory (s.propose (view_of (λ prefix run. []) c.in_ok-view.view)) c.propose.result (c.propose.ensures (λ prefix run. []))
