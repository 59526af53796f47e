use Rattle.std.proofs.Common.{take}
use Rattle.fleet_model.specs.Work.Polls.{lost_to_scheduler}
use Rattle.fleet_jobs.specs.Jobs.{jobs_of}
use Rattle.fleet_book.specs.States.{own_jobs}
use Rattle.fleet_gates.specs.Held.{AreHeld}
use Rattle.fleet_poll.proofs.judging.held_nodes.Given as goal

abbrev pub invariant-lost : goal.invariant-lost
invariant-lost l = AreHeld l.held (jobs_of (own_jobs l.state)) (lost_to_scheduler (take l.job-index l.lost))
