use Rattle.std.proofs.Common.{inr}
use Rattle.std.proofs.lemmas.Result.{err_from_is_err_and}
use Rattle.fleet_output.proofs.LeftWritten.{all_written, fewer_written, lacks_written, may_put, outputs_described, same_many}
use Rattle.fleet_output.proofs.finish.finish_left.Goals as goal

pub put_ranges-requires : goal.put_ranges-requires
put_ranges-requires g c =
    let folds = g.O.MergeOperator.merged (g.O.MergeOperator.settings c.args.operator.now) in
    let old = g.S.Store.view c.args.store.now in
    let mid = g.S.Store.view c.read_left.new.store in
    let may = may_put folds c.args.settings c.args.tables.now c.args.parts.now c.args.size c.args.moment old mid c.in_ok-left.left c.in_ok-left.ensures c.requires.may in
    record { sound = may.0; may = may.1 }

pub returns-in_err-handles-clause-wrote : goal.returns-in_err-handles-clause-wrote
returns-in_err-handles-clause-wrote g c =
    let folds = g.O.MergeOperator.merged (g.O.MergeOperator.settings c.args.operator.now) in
    let old = g.S.Store.view c.args.store.now in
    let mid = g.S.Store.view c.read_left.new.store in
    let new = g.S.Store.view c.put_ranges.new.store in
    let p = err_from_is_err_and c.from_residual-in_err-handles.result c.from_residual-in_err-handles.ensures.1 in
    rw (p.1, p.2) (inr (fewer_written folds c.args.settings c.args.tables.now c.args.parts.now c.args.size c.args.moment old mid c.in_ok-left.left c.in_ok-left.ensures new c.in_err-handles.field-0.0 c.in_err-handles.ensures.put))

pub all_outputs-requires : goal.all_outputs-requires
all_outputs-requires g c =
    let folds = g.O.MergeOperator.merged (g.O.MergeOperator.settings c.args.operator.now) in
    let old = g.S.Store.view c.args.store.now in
    let mid = g.S.Store.view c.read_left.new.store in
    let new = g.S.Store.view c.put_ranges.new.store in
    record { same = same_many folds c.args.settings c.args.tables.now c.args.parts.now c.args.size c.args.moment old mid c.in_ok-left.left c.in_ok-left.ensures new c.in_ok-handles.handles c.in_ok-handles.ensures.put }

pub returns-in_err-outputs-clause-wrote : goal.returns-in_err-outputs-clause-wrote
returns-in_err-outputs-clause-wrote g c =
    let folds = g.O.MergeOperator.merged (g.O.MergeOperator.settings c.args.operator.now) in
    let old = g.S.Store.view c.args.store.now in
    let mid = g.S.Store.view c.read_left.new.store in
    let new = g.S.Store.view c.put_ranges.new.store in
    let p = err_from_is_err_and c.from_residual-in_err-outputs.result c.from_residual-in_err-outputs.ensures.1 in
    rw (p.1, p.2, c.in_err-outputs.ensures.memory)
    (inr (lacks_written folds c.args.settings c.args.tables.now c.args.parts.now c.args.size c.args.moment old mid c.in_ok-left.left c.in_ok-left.ensures new c.in_ok-handles.handles c.in_ok-handles.ensures.put))

pub returns-clause-wrote : goal.returns-clause-wrote
returns-clause-wrote g c =
    let folds = g.O.MergeOperator.merged (g.O.MergeOperator.settings c.args.operator.now) in
    let old = g.S.Store.view c.args.store.now in
    let mid = g.S.Store.view c.read_left.new.store in
    let new = g.S.Store.view c.put_ranges.new.store in
    all_written folds c.args.settings c.args.tables.now c.args.parts.now c.args.size c.args.moment old mid c.in_ok-left.left c.in_ok-left.ensures new c.in_ok-handles.handles c.in_ok-handles.ensures.put c.in_ok-outputs.outputs c.in_ok-outputs.ensures.outputs

pub returns-clause-described : goal.returns-clause-described
returns-clause-described g c =
    let folds = g.O.MergeOperator.merged (g.O.MergeOperator.settings c.args.operator.now) in
    let old = g.S.Store.view c.args.store.now in
    let mid = g.S.Store.view c.read_left.new.store in
    let new = g.S.Store.view c.put_ranges.new.store in
    outputs_described folds c.args.settings c.args.tables.now c.args.parts.now c.args.size c.args.moment old mid c.in_ok-left.left c.in_ok-left.ensures new c.in_ok-handles.handles c.in_ok-handles.ensures.put c.requires.can c.in_ok-handles.ensures.described c.in_ok-outputs.outputs
    c.in_ok-outputs.ensures.outputs
