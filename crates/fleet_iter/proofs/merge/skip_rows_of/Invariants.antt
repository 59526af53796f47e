use Rattle.std.proofs.Common.{◌≡◌, length}
use Rattle.std.specs.Prelude.{map}
use Rattle.std.specs.List.{AllByRecursion}
use Rattle.fleet_iter.specs.Iteration.{without_first}
use Rattle.fleet_iter.specs.Merge.{has_key, AllTaken, merged_left, manners}
use Rattle.fleet_iter.proofs.merge.skip_rows_of.Given as goal

-- The rows without the first ones of the key are those that there were at first.
abbrev pub invariant-rows : goal.invariant-rows
invariant-rows g l =
    let f = g.T.RowSource.state in
    let ss = map f l.sources.items in
    let old = map f l.fn.sources.items in
    record {
      sound : AllByRecursion g.T.RowSource.sound l.sources.items;
      taken : AllTaken l.heads.rows ss;
      rows : without_first (has_key l.key) (merged_left l.heads.order l.heads.rows ss) ≡ without_first (has_key l.key) (merged_left l.fn.heads.order l.fn.heads.rows old);
      order : l.heads.order ≡ l.fn.heads.order;
      same_manner : manners ss ≡ manners old;
    }

abbrev pub decreases-rows : goal.decreases-rows
decreases-rows g l = length (merged_left l.heads.order l.heads.rows (map g.T.RowSource.state l.sources.items))
