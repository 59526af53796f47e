use Rattle.step_model.specs.Steps.SweepSteps.{sweep}
use Rattle.fleet_step.specs.Steps.{Leads}
use Rattle.fleet_sweep.proofs.Deleting.{rest_from}
use Rattle.fleet_sweep.proofs.sweeping.sweep.Given as goal

-- So far the first tables were deleted.
abbrev pub invariant-tables : goal.invariant-tables
invariant-tables g l = Leads (sweep l.pins) (g.S.Store.view l.fn.store) (rest_from l.id-items l.id-index) (g.S.Store.view l.store)
