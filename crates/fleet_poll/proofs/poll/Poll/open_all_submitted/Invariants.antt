use Rattle.std.proofs.Common.{drop}
use Rattle.std.specs.Prelude.{filter}
use Rattle.fleet_book.specs.Shown.{Shows}
use Rattle.fleet_book.specs.States.{own_jobs}
use Rattle.fleet_poll.specs.Loops.{is_submitted}
use Rattle.fleet_poll.proofs.Opens.{OpensOn}
use Rattle.fleet_poll.proofs.poll.Poll.open_all_submitted.Given as goal

-- The first jobs are decided, the set has the nodes that jobs hold now, and the view shows the state.
abbrev pub invariant-jobs : goal.invariant-jobs
invariant-jobs g l =
    OpensOn ((goal.CompactionScheduler-dyn g l.scheduler.now).answers l.scheduler.now.1) l.options.enable_trivial_move l.initial.self (drop l.job-index (filter is_submitted (own_jobs l.initial.self.state))) l.self l.held
    × Shows l.view l.self.state
