use Rattle.std.proofs.Common.{◌≡◌, ◌+◌, ◌++◌, take, drop}
use Rattle.fleet_tree.proofs.list.remove_items.Given as goal

-- So many items are taken out so far.
abbrev pub invariant-taken : goal.invariant-taken
invariant-taken g l = l.items.items ≡ take l.place l.fn.items.items ++ drop (l.place + l.counter) l.fn.items.items
