use Rattle.std.proofs.Common.{◌≡◌, take}
use Rattle.fleet_book.proofs.job_map.copies.Given as goal

abbrev pub invariant-jobs : goal.invariant-jobs
invariant-jobs l = l.copies.items ≡ take l.job-index l.jobs
