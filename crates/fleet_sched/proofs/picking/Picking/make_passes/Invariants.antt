use Rattle.std.proofs.Common.{◌≡◌, ◌-◌, length}
use Rattle.sched_model.specs.Picks.{passes}
use Rattle.fleet_sched.proofs.picking.Picking.make_passes.Given as goal

abbrev pub invariant-passes : goal.invariant-passes
invariant-passes l =
    passes l.options l.slots (l.slots - length l.initial.self.picks) l.initial.trees l.initial.self ≡ passes l.options l.slots (l.slots - length l.self.picks) l.trees l.self

abbrev pub decreases-passes : goal.decreases-passes
decreases-passes l = l.slots - length l.self.picks
