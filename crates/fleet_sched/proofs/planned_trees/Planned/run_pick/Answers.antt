use Rattle.std.proofs.Common.{◌∙◌, sym}
use Rattle.fleet_sched.proofs.Joined.{has_last}
use Rattle.fleet_sched.proofs.planned_trees.Planned.run_pick.Goals as goal

pub unreachable-requires : goal.unreachable-requires
unreachable-requires c = has_last c.in-Some.runs.now c.in-Some.ensures.some (sym c.last_id.ensures ∙ c.in_default-last_id.is)
