use Rattle.std.proofs.Common.{subst, inr}
use Rattle.std.proofs.lemmas.Result.{err_from_is_err_and}
use Rattle.fleet_output.specs.Next.{GivesNext}
use Rattle.fleet_output.proofs.write.write_next.Goals as goal

pub put_output-requires : goal.put_output-requires
put_output-requires g c =
    let folds = g.O.MergeOperator.merged (g.O.MergeOperator.settings c.args.operator.now) in
    let old = g.S.Store.view c.args.store.now in
    let mid = g.S.Store.view c.read_next.new.store in
    let read = subst (GivesNext folds c.args.settings c.args.tables.now c.args.part.now c.args.rows old mid) c.in-Some.is c.in_ok-table.ensures in
    let may = c.requires.may mid c.in-Some.table read in
    record { sound = may.0; may = may.1 }

pub returns-in_err-handle-clause-wrote : goal.returns-in_err-handle-clause-wrote
returns-in_err-handle-clause-wrote g c =
    let folds = g.O.MergeOperator.merged (g.O.MergeOperator.settings c.args.operator.now) in
    let old = g.S.Store.view c.args.store.now in
    let mid = g.S.Store.view c.read_next.new.store in
    let read = subst (GivesNext folds c.args.settings c.args.tables.now c.args.part.now c.args.rows old mid) c.in-Some.is c.in_ok-table.ensures in
    let p = err_from_is_err_and c.from_residual-in_err-handle.result c.from_residual-in_err-handle.ensures.1 in
    rw (p.1, p.2) (inr (record {
      mid = mid;
      rows = c.in-Some.table;
      read = read;
      puts = c.in_err-handle.ensures.put;
    }))
