use Rattle.std.proofs.Common.{◌≡◌, ◌==◌, ◌+◌, length}
use Rattle.std.specs.List.{position_or_len}
use Rattle.fleet_tree.proofs.run_list.runs_before.Given as goal

-- No run so far has the id.
abbrev pub invariant-runs : goal.invariant-runs
invariant-runs l =
    (l.before + length l.run-iterator ≡ length l.fn.runs)
    × (l.before + position_or_len (λ run. run.id == l.id) l.run-iterator ≡ position_or_len (λ run. run.id == l.id) l.fn.runs)
