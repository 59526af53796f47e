use Rattle.fleet_lock.proofs.held_value.HeldHolds.put_manifest.Given as goal

-- The fold of the operator.
abbrev pub ghosts-put_manifest : goal.ghosts-put_manifest
ghosts-put_manifest g a = record { fold = g.O.Folds.folds (g.O.Folds.has a.operator.now.operator.now); lawful = a.operator.now.lawful (g.O.Folds.has a.operator.now.operator.now) }
