use Rattle.std.proofs.Common.{refl}
use Rattle.sched_model.specs.Levels.{level_picks}
use Rattle.sched_model.proofs.worked.flushes_go_to_levels.Goals as goal

pub returns : goal.returns
unfolding level_picks
returns c = record { newest = refl; fresh = refl; oldest = refl }
