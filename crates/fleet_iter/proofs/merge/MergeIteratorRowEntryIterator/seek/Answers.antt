use Rattle.std.proofs.Common.{◌≡◌, sym, subst, Ok}
use Rattle.std.specs.Prelude.{map}
use Rattle.fleet_iter.specs.declared.iterator.IterationOrder.{IterationOrder}
use Rattle.fleet_iter.specs.Iteration.{Seeks, from_key}
use Rattle.fleet_iter.specs.Merge.{merging, merged_left}
use Rattle.fleet_iter.proofs.Dedup.{seeks, seeks_all}
use Rattle.fleet_iter.proofs.SoughtMerges.{rising_given}
use Rattle.fleet_iter.proofs.merge.MergeIteratorRowEntryIterator.seek.Goals as goal

pub seek_heads-requires-clause-rising : goal.seek_heads-requires-clause-rising
seek_heads-requires-clause-rising g c =
    let f = g.T.RowEntryIterator.state in
    let old = c.args.self.now in
    rising_given old.dedup (merged_left old.heads.order old.heads.rows (map f old.sources.items)) c.requires.rising

pub returns-in-Ok-clause-seek : goal.returns-in-Ok-clause-seek
returns-in-Ok-clause-seek g c =
    let f = g.T.RowEntryIterator.state in
    let key = c.args.next_key.now in
    let old = c.args.self.now in
    let order = old.heads.order in
    let hs = c.seek_heads.new.heads.rows in
    let ss = map f c.seek_heads.new.sources.items in
    let before = merging order old.dedup old.initialised old.failure old.heads.rows (map f old.sources.items) in
    let A : IterationOrder → _ = λ o. Seeks key before (merging o old.dedup old.initialised old.failure hs ss) (Ok tt) in
    subst A (sym c.in-Ok.ensures.order)
    (seeks key old.dedup old.initialised old.failure old.heads.rows hs (map f old.sources.items) ss order c.if-not-self.false c.in_ok-check.ensures.alive c.requires.rising c.in-Ok.ensures.ok)

pub returns-in-Ok-clause-all : goal.returns-in-Ok-clause-all
returns-in-Ok-clause-all g c whole =
    let f = g.T.RowEntryIterator.state in
    let key = c.args.next_key.now in
    let old = c.args.self.now in
    let order = old.heads.order in
    let hs = c.seek_heads.new.heads.rows in
    let ss = map f c.seek_heads.new.sources.items in
    let A : IterationOrder → _ = λ o. merged_left o hs ss ≡ from_key key (merged_left order old.heads.rows (map f old.sources.items)) in
    subst A (sym c.in-Ok.ensures.order)
    (seeks_all key old.dedup old.initialised old.failure old.heads.rows hs (map f old.sources.items) ss order whole c.in-Ok.ensures.ok)
