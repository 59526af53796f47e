use Rattle.std.proofs.Common.{◌≡◌, ◌++◌, take}
use Rattle.fleet_jobs.specs.Contexts.{table_ids}
use Rattle.fleet_sweep.proofs.named_tables.add_tables.Given as goal

abbrev pub invariant-tables : goal.invariant-tables
invariant-tables l = l.ids.items ≡ l.initial.ids.items ++ table_ids (take l.table-index l.tables)
