use Rattle.std.proofs.Common.{◌≡◌, map, take}
use Rattle.fleet_jobs.specs.Contexts.{table_ids}
use Rattle.fleet_lines.proofs.finishes.names_of.Given as goal

abbrev pub invariant-outputs : goal.invariant-outputs
invariant-outputs l = l.names.items ≡ map table_ids (take l.tables-index l.outputs)
