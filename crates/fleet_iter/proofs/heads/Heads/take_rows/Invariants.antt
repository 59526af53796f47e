use Rattle.std.proofs.Common.{◌≡◌, ◌<◌, ℕ, map, length, None, get_or, heap_items, heap_len}
use Rattle.std.specs.Option.{option_or}
use Rattle.fleet_iter.specs.Heads.{AreHeads}
use Rattle.fleet_iter.proofs.Opened.{opened}
use Rattle.fleet_iter.proofs.Heaps.{row_at}
use Rattle.fleet_iter.proofs.heads.Heads.take_rows.Given as goal

-- At each place, the row of an entry left or else the row that was taken is the head.
abbrev pub invariant-entries : goal.invariant-entries
invariant-entries l =
    let es = map opened (heap_items l.self-inside.entries) in
    record {
      heads : AreHeads l.self-inside.order l.self-inside.count es;
      order : l.self-inside.order ≡ l.fn.self.order;
      count : length l.rows.items ≡ l.self-inside.count;
      same_count : length l.fn.self.rows ≡ l.self-inside.count;
      all : (i : ℕ) → i < l.self-inside.count → option_or (row_at es i) (get_or l.rows.items i None) ≡ get_or l.fn.self.rows i None;
    }

abbrev pub decreases-entries : goal.decreases-entries
decreases-entries l = heap_len l.self-inside.entries
