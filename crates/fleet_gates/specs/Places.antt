-- The names of runs.
use Rattle.std.specs.Prelude.{List, map}
use Rattle.fleet_model.specs.Nodes.{NodeName, Run}
use Rattle.fleet_tree.specs.declared.run.SortedRun.{SortedRun}

-- The names of a tree's runs, newest first.
abbrev pub names_of_runs : List SortedRun → List NodeName
names_of_runs runs = map (λ run. Run run.id) runs
