use Rattle.std.proofs.Common.{◌≡◌, map, take}
use Rattle.fleet_book.specs.States.{own_jobs}
use Rattle.fleet_poll.specs.Polls.{HasSameObjects, changed_record, waiting_record}
use Rattle.fleet_poll.proofs.freeing.free_jobs.Given as goal

abbrev pub invariant-jobs : goal.invariant-jobs
invariant-jobs l = (own_jobs l.state ≡ map (changed_record waiting_record (take l.job-index l.jobs)) (own_jobs l.initial.state)) × HasSameObjects l.initial.state l.state
