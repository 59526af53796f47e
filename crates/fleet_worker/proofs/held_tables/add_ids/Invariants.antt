use Rattle.std.proofs.Common.{◌≡◌, ◌++◌, take}
use Rattle.fleet_worker.proofs.held_tables.add_ids.Given as goal

abbrev pub invariant-more : goal.invariant-more
invariant-more l = l.ids.items ≡ l.initial.ids.items ++ take l.id-index l.more
