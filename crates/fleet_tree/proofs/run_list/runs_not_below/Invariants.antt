use Rattle.std.proofs.Common.{◌≡◌, ◌+◌, length, nat_lt, not, take_while}
use Rattle.fleet_tree.proofs.run_list.runs_not_below.Given as goal

-- No run so far has a lower id.
abbrev pub invariant-runs : goal.invariant-runs
invariant-runs l =
    (l.count + length l.run-iterator ≡ length l.fn.runs)
    × (l.count + length (take_while (λ run. not (nat_lt run.id l.id)) l.run-iterator) ≡ length (take_while (λ run. not (nat_lt run.id l.id)) l.fn.runs))
