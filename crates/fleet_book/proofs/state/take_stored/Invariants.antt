use Rattle.std.proofs.Common.{◌≡◌, take}
use Rattle.fleet_book.specs.States.{merged_jobs}
use Rattle.fleet_book.proofs.state.take_stored.Given as goal

abbrev pub invariant-stored : goal.invariant-stored
invariant-stored l = l.jobs ≡ merged_jobs l.initial.jobs (take l.job-index l.stored)
