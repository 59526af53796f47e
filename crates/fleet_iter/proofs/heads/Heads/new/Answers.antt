use Rattle.std.proofs.Common.{ap, map}
use Rattle.fleet_iter.proofs.Opened.{opened, heap_opened}
use Rattle.fleet_iter.proofs.Heaps.{none_there}
use Rattle.fleet_iter.proofs.heads.Heads.new.Goals as goal

pub invariant_of-result : goal.invariant_of-result
invariant_of-result c = none_there c.args.order _ (ap (map opened) c.new.ensures.items) (heap_opened _ c.new.ensures.heap_order)
