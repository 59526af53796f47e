use Rattle.std.proofs.Common.{subst, Option, Some, false}
use Rattle.std.specs.Prelude.{map}
use Rattle.fleet_rows.specs.declared.row.RowEntry.{RowEntry}
use Rattle.fleet_rows.specs.Row.{row_of}
use Rattle.fleet_iter.specs.declared.iterator.IterationOrder.{IterationOrder}
use Rattle.fleet_iter.specs.Merge.{Takes, Skips, hides}
use Rattle.fleet_iter.proofs.Counts.{takes_in_front}
use Rattle.fleet_iter.proofs.Dedup.{takes_given}
use Rattle.fleet_iter.proofs.merge.take_distinct.Goals as goal

pub returns-clause-ok : goal.returns-clause-ok
returns-clause-ok g c =
    let f = g.T.RowSource.state in
    let order = c.args.heads.now.order in
    let hs = c.args.heads.now.rows in
    let ss = map f c.args.sources.now.items in
    let hs1 = c.take_least.new.heads.rows in
    let ss1 = map f c.take_least.new.sources.items in
    let hs2 = c.skip_hidden.new.heads.rows in
    let ss2 = map f c.skip_hidden.new.sources.items in
    let x : RowEntry = c.in-Some.row in
    let A : Option RowEntry → _ = λ o. Takes order false hs ss hs1 ss1 o in
    let first : Takes order false hs ss hs1 ss1 (Some x) = subst A c.in-Some.is c.in_ok-row.ensures.ok in
    let rest = subst (λ (o : IterationOrder). Skips o (hides (row_of x)) hs1 ss1 hs2 ss2) c.in_ok-row.ensures.order c.in_ok-processed.ensures.ok in
    takes_given order hs hs1 hs2 ss ss1 ss2 x first rest

pub returns-clause-all : goal.returns-clause-all
returns-clause-all g c =
    let f = g.T.RowSource.state in
    let order = c.args.heads.now.order in
    let hs = c.args.heads.now.rows in
    let ss = map f c.args.sources.now.items in
    let hs1 = c.take_least.new.heads.rows in
    let ss1 = map f c.take_least.new.sources.items in
    let hs2 = c.skip_hidden.new.heads.rows in
    let ss2 = map f c.skip_hidden.new.sources.items in
    let x : RowEntry = c.in-Some.row in
    let A : Option RowEntry → _ = λ o. Takes order false hs ss hs1 ss1 o in
    let first : Takes order false hs ss hs1 ss1 (Some x) = subst A c.in-Some.is c.in_ok-row.ensures.ok in
    let rest = subst (λ (o : IterationOrder). Skips o (hides (row_of x)) hs1 ss1 hs2 ss2) c.in_ok-row.ensures.order c.in_ok-processed.ensures.ok in
    takes_in_front order hs hs1 hs2 ss ss1 ss2 x first rest
