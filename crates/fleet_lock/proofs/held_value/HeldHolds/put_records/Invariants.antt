use Rattle.fleet_lock.proofs.held_value.HeldHolds.put_records.Given as goal

-- The fold of the operator.
abbrev pub ghosts-put_records : goal.ghosts-put_records
ghosts-put_records g a = record { fold = g.O.Folds.folds (g.O.Folds.has a.operator.now.operator.now); lawful = a.operator.now.lawful (g.O.Folds.has a.operator.now.operator.now) }
