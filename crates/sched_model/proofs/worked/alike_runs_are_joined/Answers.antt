use Rattle.std.proofs.Common.{refl}
use Rattle.sched_model.specs.SizeTiered.{tiered_proposals}
use Rattle.sched_model.proofs.worked.alike_runs_are_joined.Goals as goal

pub returns : goal.returns
unfolding tiered_proposals
returns c = record { alike = refl; larger = refl }
