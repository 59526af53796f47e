use Rattle.std.proofs.Common.{◌≡◌, ◌∷◌}
use Rattle.fleet_tree.specs.Falling.{are_falling}
use Rattle.fleet_tree.proofs.run_list.are_falling.Given as goal

-- The last run that was looked at, and what is left, say whether all fall.
abbrev pub invariant-runs : goal.invariant-runs
invariant-runs l = are_falling (l.above ∷ l.run-iterator) ≡ are_falling l.fn.runs
