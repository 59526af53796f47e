use Rattle.fleet_laws.proofs.Scans as law
use Rattle.fleet_laws.proofs.scans_answer_as_reads.Goals as goal

pub returns : goal.returns
returns c = law.scans_answer_as_reads
