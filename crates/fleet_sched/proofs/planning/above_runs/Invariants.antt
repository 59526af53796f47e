use Rattle.std.proofs.Common.{◌≡◌, ◌∷◌, take}
use Rattle.std.specs.Prelude.{[]}
use Rattle.sched_model.specs.FreshRuns.{above_all, capped_id}
use Rattle.fleet_sched.specs.Ids.{ids_in}
use Rattle.fleet_sched.proofs.planning.above_runs.Given as goal

abbrev pub invariant-segments : goal.invariant-segments
invariant-segments l = l.above ≡ capped_id (above_all (ids_in (([], l.core.tree) ∷ take l.segment-index l.segment-items)))
