use Rattle.std.proofs.Common.{◌≡◌, ◌∙◌, ◌<◌, sym, subst, length, true, false}
use Rattle.std.specs.Prelude.{map}
use Rattle.fleet_iter.specs.declared.iterator.IterationOrder.{IterationOrder}
use Rattle.fleet_iter.specs.Iteration.{without_first}
use Rattle.fleet_iter.specs.Merge.{has_key, best, passes, merged_left}
use Rattle.fleet_iter.proofs.Merges.{skip_step, skip_end}
use Rattle.fleet_iter.proofs.merge.skip_rows_of.Goals as goal

pub rows-preserved : goal.rows-preserved
rows-preserved g c =
    let f = g.T.RowSource.state in
    let order = c.rows.heads.order in
    let hs = c.rows.heads.rows in
    let ss = map f c.rows.sources.items in
    let later = c.refill_least.new.heads.rows in
    let left = map f c.refill_least.new.sources.items in
    let test = has_key c.args.key.now in
    let is : passes test (best order hs) ≡ true = sym c.rows-test.ensures in
    let d = c.in_ok-refill_least.ensures.ok in
    let i = c.rows.invariant in
    let s = skip_step order test hs later ss left i.taken is d in
    let A : IterationOrder → _ = λ o. without_first test (merged_left o later left) ≡ without_first test (merged_left c.args.heads.now.order c.args.heads.now.rows (map f c.args.sources.now.items)) in
    record {
      sound = c.in_ok-refill_least.ensures.sound;
      taken = d.taken;
      rows = subst A (sym c.in_ok-refill_least.ensures.order) (sym s.0 ∙ i.rows);
      order = c.in_ok-refill_least.ensures.order ∙ i.order;
      same_manner = d.same_manner ∙ i.same_manner;
    }

pub rows-smaller : goal.rows-smaller
rows-smaller g c =
    let f = g.T.RowSource.state in
    let order = c.rows.heads.order in
    let hs = c.rows.heads.rows in
    let ss = map f c.rows.sources.items in
    let later = c.refill_least.new.heads.rows in
    let left = map f c.refill_least.new.sources.items in
    let test = has_key c.args.key.now in
    let is : passes test (best order hs) ≡ true = sym c.rows-test.ensures in
    let s = skip_step order test hs later ss left c.rows.invariant.taken is c.in_ok-refill_least.ensures.ok in
    subst (λ (o : IterationOrder). length (merged_left o later left) < length (merged_left order hs ss)) (sym c.in_ok-refill_least.ensures.order) s.1

pub returns-clause-ok : goal.returns-clause-ok
returns-clause-ok g c =
    let f = g.T.RowSource.state in
    let order = c.rows.heads.order in
    let hs = c.rows.heads.rows in
    let ss = map f c.rows.sources.items in
    let test = has_key c.args.key.now in
    let i = c.rows.invariant in
    let is : passes test (best order hs) ≡ false = sym c.rows-test.ensures in
    let A : IterationOrder → _ = λ o. merged_left o hs ss ≡ without_first test (merged_left c.args.heads.now.order c.args.heads.now.rows (map f c.args.sources.now.items)) in
    record { rows = subst A i.order (skip_end order test hs ss i.taken is ∙ i.rows); taken = i.taken; same_manner = i.same_manner }
