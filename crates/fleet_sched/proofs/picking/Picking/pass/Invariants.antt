use Rattle.std.proofs.Common.{◌≡◌, ◌++◌, take, drop}
use Rattle.sched_model.specs.Picks.{pass}
use Rattle.fleet_sched.proofs.picking.Picking.pass.Given as goal

abbrev pub invariant-trees : goal.invariant-trees
invariant-trees l =
    let rest = pass l.options l.slots (drop l.i l.trees) l.self in
    (pass l.options l.slots l.initial.trees l.initial.self ≡ (take l.i l.trees ++ rest.0, rest.1))
