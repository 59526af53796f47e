use Rattle.fleet_lock.proofs.held_value.HeldHolds.put_table.Given as goal

-- The fold of the operator.
abbrev pub ghosts-put_table : goal.ghosts-put_table
ghosts-put_table g a = record { fold = g.O.Folds.folds (g.O.Folds.has a.operator.now.operator.now); lawful = a.operator.now.lawful (g.O.Folds.has a.operator.now.operator.now) }
