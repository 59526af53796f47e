use Rattle.sched_laws.proofs.Proposed as law
use Rattle.sched_laws.proofs.proposals_have_sources_within.Goals as goal

pub returns : goal.returns
returns c = law.sources_within
