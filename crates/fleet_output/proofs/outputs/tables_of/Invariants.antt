use Rattle.std.proofs.Common.{◌≡◌, take}
use Rattle.fleet_output.proofs.outputs.tables_of.Given as goal

abbrev pub invariant-noted : goal.invariant-noted
invariant-noted l = l.tables.items ≡ take l.table-index l.part.output_ssts
