use Rattle.fleet_fold.proofs.JobsGiven.{keeps_reads}
use Rattle.fleet_fold.proofs.laws.jobs_keep_reads.Goals as goal

pub returns : goal.returns
returns c = keeps_reads
