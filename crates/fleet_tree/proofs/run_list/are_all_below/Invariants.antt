use Rattle.std.proofs.Common.{◌≡◌, nat_lt}
use Rattle.std.specs.List.{list_all}
use Rattle.fleet_tree.proofs.run_list.are_all_below.Given as goal

-- What is left says whether all are below.
abbrev pub invariant-runs : goal.invariant-runs
invariant-runs l = list_all (λ run. nat_lt run.id l.id) l.run-iterator ≡ list_all (λ run. nat_lt run.id l.id) l.fn.runs
