use Rattle.fleet_lock.proofs.held_value.HeldHolds.draw_job.Given as goal

-- The fold of the operator.
abbrev pub ghosts-draw_job : goal.ghosts-draw_job
ghosts-draw_job g a = record { fold = g.O.Folds.folds (g.O.Folds.has a.operator.now.operator.now); lawful = a.operator.now.lawful (g.O.Folds.has a.operator.now.operator.now) }
