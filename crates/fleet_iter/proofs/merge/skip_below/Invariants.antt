use Rattle.std.proofs.Common.{◌≡◌, length}
use Rattle.std.specs.Prelude.{map}
use Rattle.std.specs.List.{AllByRecursion}
use Rattle.fleet_iter.specs.Merge.{LeavesFrom, lists, rows_left}
use Rattle.fleet_iter.proofs.Sought.{Sought}
use Rattle.fleet_iter.proofs.merge.skip_below.Given as goal

-- The sources before this place have moved to the key, and the heads from the key on have stayed.
abbrev pub invariant-sources : goal.invariant-sources
invariant-sources g l =
    let f = g.T.RowSource.state in
    let ss = map f l.sources.items in
    let old = map f l.fn.sources.items in
    record {
      sound : AllByRecursion g.T.RowSource.sound l.sources.items;
      size : length l.sources.items ≡ length l.fn.sources.items;
      so_far : Sought l.order l.key l.i (lists l.fn.heads.items (rows_left old)) l.heads.items ss old;
      leaves : LeavesFrom l.key l.fn.heads.items l.fn.sources.items l.heads.items l.sources.items;
    }
