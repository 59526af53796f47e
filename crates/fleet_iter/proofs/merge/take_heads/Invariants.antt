use Rattle.std.proofs.Common.{◌≡◌, length}
use Rattle.std.specs.Prelude.{map}
use Rattle.std.specs.List.{AllByRecursion}
use Rattle.fleet_iter.specs.Merge.{AllBegun, lists, rows_left, manners}
use Rattle.fleet_iter.proofs.merge.take_heads.Given as goal

-- The sources before this place have begun, and the heads and the rows left are the rows that there were
-- at first.
abbrev pub invariant-sources : goal.invariant-sources
invariant-sources g l =
    let f = g.T.RowSource.state in
    let ss = map f l.sources.items in
    let old = map f l.fn.sources.items in
    record {
      sound : AllByRecursion g.T.RowSource.sound l.sources.items;
      count : length l.heads.rows ≡ l.i;
      size : length l.sources.items ≡ length l.fn.sources.items;
      begun : AllBegun l.heads.rows ss;
      rows : lists l.heads.rows (rows_left ss) ≡ rows_left old;
      order : l.heads.order ≡ l.fn.heads.order;
      same_manner : manners ss ≡ manners old;
    }
