use Rattle.std.proofs.Common.{◌≡◌, length}
use Rattle.fleet_step.specs.Draws.{Drew}
use Rattle.fleet_step.proofs.drawing.draw_jobs.Given as goal

abbrev pub invariant-draws : goal.invariant-draws
invariant-draws g l = (length l.ids.items ≡ l.drawn) × Drew l.moment l.ids.items (g.S.Store.view l.initial.store) (g.S.Store.view l.store)
