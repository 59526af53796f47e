use Rattle.std.proofs.Common.{◌≡◌, length}
use Rattle.std.specs.Prelude.{map}
use Rattle.std.specs.List.{AllByRecursion}
use Rattle.fleet_rows.specs.Row.{row_of}
use Rattle.fleet_iter.specs.Iteration.{without_first}
use Rattle.fleet_iter.specs.Merge.{hides, AllTaken, merged_left, manners}
use Rattle.fleet_iter.specs.Tracked.{counted_bytes, kept_back}
use Rattle.fleet_iter.proofs.merge.skip_hidden.Given as goal

-- The rows that the given row does not hide are those that there were at first, and the bytes of the
-- hidden rows that were skipped are counted.
abbrev pub invariant-hidden : goal.invariant-hidden
invariant-hidden g l =
    let f = g.T.RowSource.state in
    let ss = map f l.sources.items in
    let old = map f l.fn.sources.items in
    record {
      sound : AllByRecursion g.T.RowSource.sound l.sources.items;
      taken : AllTaken l.heads.rows ss;
      rows : without_first (hides (row_of l.row)) (merged_left l.heads.order l.heads.rows ss) ≡ without_first (hides (row_of l.row)) (merged_left l.fn.heads.order l.fn.heads.rows old);
      order : l.heads.order ≡ l.fn.heads.order;
      same_manner : manners ss ≡ manners old;
      bytes : counted_bytes l.count (kept_back (row_of l.row) (merged_left l.heads.order l.heads.rows ss)) ≡ counted_bytes l.processed (kept_back (row_of l.row) (merged_left l.fn.heads.order l.fn.heads.rows old));
    }

abbrev pub decreases-hidden : goal.decreases-hidden
decreases-hidden g l = length (merged_left l.heads.order l.heads.rows (map g.T.RowSource.state l.sources.items))
