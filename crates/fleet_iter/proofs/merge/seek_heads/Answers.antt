use Rattle.std.proofs.Common.{sym, ap, subst, List, Option}
use Rattle.fleet_rows.specs.declared.row.RowEntry.{RowEntry}
use Rattle.fleet_iter.specs.Heads.{HeadRows}
use Rattle.fleet_iter.specs.Merge.{LeavesFrom}
use Rattle.fleet_iter.proofs.merge.seek_heads.Goals as goal

pub returns-clause-leaves : goal.returns-clause-leaves
returns-clause-leaves g c =
    let key = c.args.key.now in
    let xs = c.args.sources.now.items in
    let later = c.skip_below.new.sources.items in
    let A : List (Option RowEntry) → _ = λ hs. LeavesFrom key hs xs c.skip_below.new.heads.items later in
    let B : List (Option RowEntry) → _ = λ hs. LeavesFrom key c.args.heads.now.rows xs hs later in
    subst B (sym (ap (λ (h : HeadRows). h.rows) c.in_ok-fill.ensures.ok)) (subst A c.in_ok-rows.ensures.ok c.in_ok-skip_below.ensures.leaves)
