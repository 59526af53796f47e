use Rattle.std.proofs.Common.{◌≡◌, map, take}
use Rattle.fleet_jobs.specs.Contexts.{table_ids}
use Rattle.fleet_finish.proofs.put.names_of.Given as goal

abbrev pub invariant-lists : goal.invariant-lists
invariant-lists l = l.names.items ≡ map table_ids (take l.tables-index l.outputs)
