use Rattle.std.proofs.Common.{◌-◌}
use Rattle.step_model.specs.Steps.PollSteps.{puts_polled}
use Rattle.fleet_tree.specs.Trees.{RunFlushes}
use Rattle.fleet_book.specs.States.{own_jobs}
use Rattle.fleet_store.specs.Records.{DescribeTables}
use Rattle.fleet_step.specs.Steps.{Leads}
use Rattle.fleet_poll.specs.Polls.{poll_of}
use Rattle.fleet_coordinator.specs.Recording.{got_with}
use Rattle.fleet_coordinator.proofs.recording.record_poll.Given as goal

-- So far the poll came to the puts that are left, and its jobs describe their tables.
abbrev pub invariant-tries : goal.invariant-tries
invariant-tries g l =
    ((flushes : RunFlushes)
    → Leads (puts_polled l.epoch (poll_of flushes l.initial.poll) (got_with l.initial.poll l.initial.got) l.left l.initial.seen) (g.S.Store.view l.initial.store)
    (puts_polled l.epoch (poll_of flushes l.poll) (got_with l.poll l.got) (l.left - l.tries) l.seen) (g.S.Store.view l.store))
    × DescribeTables (own_jobs l.poll.state) (g.S.Store.view l.store).world.store
