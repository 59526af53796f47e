use Rattle.std.proofs.Common.{◌≡◌, ◌∙◌, ◌<◌, sym, ap, subst, length, true, false}
use Rattle.std.specs.Prelude.{map}
use Rattle.fleet_rows.specs.Row.{row_of}
use Rattle.fleet_iter.specs.declared.iterator.IterationOrder.{IterationOrder}
use Rattle.fleet_iter.specs.Iteration.{without_first}
use Rattle.fleet_iter.specs.Merge.{hides, best, passes, merged_left}
use Rattle.fleet_iter.specs.Tracked.{counted_bytes, kept_back}
use Rattle.fleet_iter.proofs.Merges.{skip_step, skip_end}
use Rattle.fleet_iter.proofs.Counts.{counts_step, counts_end}
use Rattle.fleet_iter.proofs.merge.skip_hidden.Goals as goal

pub hidden-preserved : goal.hidden-preserved
hidden-preserved g c =
    let f = g.T.RowSource.state in
    let order = c.hidden.heads.order in
    let hs = c.hidden.heads.rows in
    let ss = map f c.hidden.sources.items in
    let later = c.drop_least.new.heads.rows in
    let left = map f c.drop_least.new.sources.items in
    let row = row_of c.args.row.now in
    let is : passes (hides row) (best order hs) ≡ true = sym c.hidden-test.ensures in
    let d = c.in_ok-bytes.ensures.ok in
    let i = c.hidden.invariant in
    let s = skip_step order (hides row) hs later ss left i.taken is d in
    let bytes = counts_step order row hs later ss left c.hidden.count c.in_ok-bytes.bytes c.saturating_add-count.result i.taken is d c.in_ok-bytes.ensures.bytes c.saturating_add-count.ensures in
    let A : IterationOrder → _ = λ o. without_first (hides row) (merged_left o later left) ≡ without_first (hides row) (merged_left c.args.heads.now.order c.args.heads.now.rows (map f c.args.sources.now.items)) in
    let B : IterationOrder → _ = λ o. counted_bytes c.saturating_add-count.result (kept_back row (merged_left o later left)) ≡ counted_bytes c.args.processed (kept_back row (merged_left c.args.heads.now.order c.args.heads.now.rows (map f c.args.sources.now.items))) in
    record {
      sound = c.in_ok-bytes.ensures.sound;
      taken = d.taken;
      rows = subst A (sym c.in_ok-bytes.ensures.order) (sym s.0 ∙ i.rows);
      order = c.in_ok-bytes.ensures.order ∙ i.order;
      same_manner = d.same_manner ∙ i.same_manner;
      bytes = subst B (sym c.in_ok-bytes.ensures.order) (bytes ∙ i.bytes);
    }

pub hidden-smaller : goal.hidden-smaller
hidden-smaller g c =
    let f = g.T.RowSource.state in
    let order = c.hidden.heads.order in
    let hs = c.hidden.heads.rows in
    let ss = map f c.hidden.sources.items in
    let later = c.drop_least.new.heads.rows in
    let left = map f c.drop_least.new.sources.items in
    let test = hides (row_of c.args.row.now) in
    let is : passes test (best order hs) ≡ true = sym c.hidden-test.ensures in
    let s = skip_step order test hs later ss left c.hidden.invariant.taken is c.in_ok-bytes.ensures.ok in
    subst (λ (o : IterationOrder). length (merged_left o later left) < length (merged_left order hs ss)) (sym c.in_ok-bytes.ensures.order) s.1

pub returns-clause-ok : goal.returns-clause-ok
returns-clause-ok g c =
    let f = g.T.RowSource.state in
    let order = c.hidden.heads.order in
    let hs = c.hidden.heads.rows in
    let ss = map f c.hidden.sources.items in
    let test = hides (row_of c.args.row.now) in
    let i = c.hidden.invariant in
    let is : passes test (best order hs) ≡ false = sym c.hidden-test.ensures in
    let A : IterationOrder → _ = λ o. merged_left o hs ss ≡ without_first test (merged_left c.args.heads.now.order c.args.heads.now.rows (map f c.args.sources.now.items)) in
    record { rows = subst A i.order (skip_end order test hs ss i.taken is ∙ i.rows); taken = i.taken; same_manner = i.same_manner }

pub returns-clause-bytes : goal.returns-clause-bytes
returns-clause-bytes g c =
    let f = g.T.RowSource.state in
    let order = c.hidden.heads.order in
    let hs = c.hidden.heads.rows in
    let ss = map f c.hidden.sources.items in
    let row = row_of c.args.row.now in
    let is : passes (hides row) (best order hs) ≡ false = sym c.hidden-test.ensures in
    sym (ap (counted_bytes c.hidden.count) (counts_end order row hs ss c.hidden.invariant.taken is)) ∙ c.hidden.invariant.bytes
