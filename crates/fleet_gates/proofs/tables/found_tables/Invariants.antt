use Rattle.std.proofs.Common.{◌≡◌, take}
use Rattle.fleet_gates.specs.Tables.{tables_in}
use Rattle.fleet_gates.proofs.tables.found_tables.Given as goal

abbrev pub invariant-sources : goal.invariant-sources
invariant-sources l = l.tables.items ≡ tables_in l.tree (take l.source-index l.sources)
