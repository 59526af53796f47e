use Rattle.std.proofs.Common.{◌≡◌, ◌++◌, vec_len}
use Rattle.fleet_tree.proofs.flush_list.FlushList.from_vec.Given as goal

abbrev pub invariant-left : goal.invariant-left
invariant-left l = l.left.items ++ l.list ≡ l.fn.views.items

abbrev pub decreases-left : goal.decreases-left
decreases-left l = vec_len l.left
