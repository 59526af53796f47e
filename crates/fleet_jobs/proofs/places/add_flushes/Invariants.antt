use Rattle.std.proofs.Common.{◌≡◌, ◌++◌, map}
use Rattle.fleet_model.specs.Nodes.{L0}
use Rattle.fleet_jobs.specs.Sources.{name_of}
use Rattle.fleet_jobs.proofs.places.add_flushes.Given as goal

-- The nodes so far and those left are all nodes.
abbrev pub invariant-views : goal.invariant-views
invariant-views l = map name_of l.nodes.items ++ map (λ view. L0 view.id) l.view-iterator ≡ map name_of l.initial.nodes.items ++ map (λ view. L0 view.id) l.views
