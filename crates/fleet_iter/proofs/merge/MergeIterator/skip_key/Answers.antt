use Rattle.std.proofs.Common.{◌≡◌, sym, subst, Ok}
use Rattle.std.specs.Prelude.{map}
use Rattle.fleet_iter.specs.declared.iterator.IterationOrder.{IterationOrder}
use Rattle.fleet_iter.specs.Iteration.{without_first}
use Rattle.fleet_iter.specs.Merge.{SkipsKey, has_key, merging, merged_left}
use Rattle.fleet_iter.proofs.Dedup.{skips_key}
use Rattle.fleet_iter.proofs.merge.MergeIterator.skip_key.Goals as goal

pub returns-in-Ok-clause-skip : goal.returns-in-Ok-clause-skip
returns-in-Ok-clause-skip g c =
    let f = g.T.RowEntryIterator.state in
    let key = c.args.key.now in
    let old = c.args.self.now in
    let order = old.heads.order in
    let hs = c.skip_rows_of.new.heads.rows in
    let ss = map f c.skip_rows_of.new.sources.items in
    let before = merging order old.dedup old.initialised old.failure old.heads.rows (map f old.sources.items) in
    let A : IterationOrder → _ = λ o. SkipsKey key before (merging o old.dedup old.initialised old.failure hs ss) (Ok tt) in
    subst A (sym c.in-Ok.ensures.order)
    (skips_key key old.dedup old.initialised old.failure old.heads.rows hs (map f old.sources.items) ss order c.if-not-self.false c.in_ok-check.ensures.alive c.in-Ok.ensures.ok)

pub returns-in-Ok-clause-all : goal.returns-in-Ok-clause-all
returns-in-Ok-clause-all g c =
    let f = g.T.RowEntryIterator.state in
    let key = c.args.key.now in
    let old = c.args.self.now in
    let order = old.heads.order in
    let hs = c.skip_rows_of.new.heads.rows in
    let ss = map f c.skip_rows_of.new.sources.items in
    let A : IterationOrder → _ = λ o. merged_left o hs ss ≡ without_first (has_key key) (merged_left order old.heads.rows (map f old.sources.items)) in
    subst A (sym c.in-Ok.ensures.order) c.in-Ok.ensures.ok.rows
