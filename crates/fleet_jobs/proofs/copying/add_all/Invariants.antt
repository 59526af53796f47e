use Rattle.std.proofs.Common.{◌≡◌, ◌++◌, take}
use Rattle.fleet_jobs.proofs.copying.add_all.Given as goal

abbrev pub invariant-more : goal.invariant-more
invariant-more g l = l.items.items ≡ l.initial.items.items ++ take l.item-index l.more
