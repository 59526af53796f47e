use Rattle.std.proofs.Common.{◌≡◌, take}
use Rattle.std.specs.Prelude.{flat_map}
use Rattle.fleet_jobs.proofs.compaction.joined.Given as goal

abbrev pub invariant-lists : goal.invariant-lists
invariant-lists l = l.tables.items ≡ flat_map (λ list. list) (take l.list-index l.lists)
