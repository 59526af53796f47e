use Rattle.std.proofs.Common.{◌≡◌, ◌++◌, map}
use Rattle.fleet_model.specs.Nodes.{L0}
use Rattle.fleet_jobs.specs.Sources.{name_of}
use Rattle.fleet_level.proofs.used_nodes.flush_sources.Given as goal

-- The names so far and those left are all names.
abbrev pub invariant-flushes : goal.invariant-flushes
invariant-flushes l = map name_of l.sources.items ++ map (λ view. L0 view.id) l.flush-iterator ≡ map (λ view. L0 view.id) l.flushes
