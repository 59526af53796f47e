use Rattle.std.proofs.Common.{◌≡◌, take}
use Rattle.std.specs.Prelude.{filter}
use Rattle.fleet_jobs.specs.Jobs.{is_open}
use Rattle.fleet_book.proofs.job_map.open_copies.Given as goal

abbrev pub invariant-jobs : goal.invariant-jobs
invariant-jobs l = l.copies.items ≡ filter is_open (take l.job-index l.jobs)
