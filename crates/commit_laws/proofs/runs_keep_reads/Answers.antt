use Rattle.commit_laws.proofs.RunReads as law
use Rattle.commit_laws.proofs.runs_keep_reads.Goals as goal

pub returns : goal.returns
returns c = law.runs_keep_reads
