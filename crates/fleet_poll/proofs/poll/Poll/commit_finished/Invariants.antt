use Rattle.std.proofs.Common.{drop}
use Rattle.std.specs.Prelude.{filter}
use Rattle.fleet_book.specs.Shown.{Shows}
use Rattle.fleet_book.specs.States.{own_jobs}
use Rattle.fleet_poll.specs.Loops.{is_compacted}
use Rattle.fleet_poll.proofs.Committed.{CommitsOn}
use Rattle.fleet_poll.proofs.poll.Poll.commit_finished.Given as goal

-- The first jobs are committed or lost, the others may be committed, and the view shows the state.
abbrev pub invariant-jobs : goal.invariant-jobs
invariant-jobs g l =
    CommitsOn ((goal.CompactionScheduler-dyn g l.scheduler.now).answers l.scheduler.now.1) l.initial.self (drop l.job-index (filter is_compacted (own_jobs l.initial.self.state))) l.self
    × Shows l.view l.self.state
