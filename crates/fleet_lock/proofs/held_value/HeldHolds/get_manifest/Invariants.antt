use Rattle.fleet_lock.proofs.held_value.HeldHolds.get_manifest.Given as goal

-- The fold of the operator.
abbrev pub ghosts-get_manifest : goal.ghosts-get_manifest
ghosts-get_manifest g a = record { fold = g.O.Folds.folds (g.O.Folds.has a.operator.now.operator.now); lawful = a.operator.now.lawful (g.O.Folds.has a.operator.now.operator.now) }
