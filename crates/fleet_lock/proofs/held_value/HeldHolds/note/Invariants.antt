use Rattle.fleet_lock.proofs.held_value.HeldHolds.note.Given as goal

-- The fold of the operator.
abbrev pub ghosts-note : goal.ghosts-note
ghosts-note g a = record { fold = g.O.Folds.folds (g.O.Folds.has a.operator.now.operator.now); lawful = a.operator.now.lawful (g.O.Folds.has a.operator.now.operator.now) }
