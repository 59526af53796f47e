use Rattle.std.proofs.Common.{◌∙◌, sym, ap, subst, List, Some, None}
use Rattle.std.proofs.lemmas.Result.{err_from_is_err_and}
use Rattle.fleet_rows.specs.declared.row.RowEntry.{RowEntry}
use Rattle.fleet_range.specs.Keys.{range_of}
use Rattle.fleet_exec.specs.Ranges.{made_of}
use Rattle.fleet_exec.specs.Tables.{GivesTable}
use Rattle.fleet_output.specs.Gets.{ids_in}
use Rattle.fleet_output.proofs.NextRows.{fewer_got, got_sources, held_here, lacks_after, next_given, next_refused, none_got}
use Rattle.fleet_output.proofs.next.read_next.Goals as goal

pub get_tables-requires : goal.get_tables-requires
get_tables-requires g c =
    let folds = g.O.MergeOperator.merged (g.O.MergeOperator.settings c.args.operator.now) in
    let old = g.S.Store.view c.args.store.now in
    let ids = c.as_slice.ensures ∙ (c.in_ok-ids.ensures.ids ∙ ap (λ r. ids_in (range_of r) c.args.tables.now) c.range.ensures) in
    record { held = held_here folds c.args.settings c.args.tables.now c.args.part.now c.args.rows old old c.as_slice.result.now ids c.requires.can }

pub returns-in_err-ids : goal.returns-in_err-ids
returns-in_err-ids g c =
    let folds = g.O.MergeOperator.merged (g.O.MergeOperator.settings c.args.operator.now) in
    let old = g.S.Store.view c.args.store.now in
    let p = err_from_is_err_and c.from_residual.result c.from_residual.ensures.1 in
    rw (p.1, p.2, c.in_err-ids.ensures.memory) (none_got folds c.args.settings c.args.tables.now c.args.part.now c.args.rows old old)

pub returns-in_err-sources : goal.returns-in_err-sources
returns-in_err-sources g c =
    let folds = g.O.MergeOperator.merged (g.O.MergeOperator.settings c.args.operator.now) in
    let old = g.S.Store.view c.args.store.now in
    let new = g.S.Store.view c.get_tables.new.store in
    let ids = c.as_slice.ensures ∙ (c.in_ok-ids.ensures.ids ∙ ap (λ r. ids_in (range_of r) c.args.tables.now) c.range.ensures) in
    let p = err_from_is_err_and c.from_residual-in_err-sources.result c.from_residual-in_err-sources.ensures.1 in
    rw (p.1, p.2) (fewer_got folds c.args.settings c.args.tables.now c.args.part.now c.args.rows old new c.as_slice.result.now ids c.in_err-sources.field-0.0 c.in_err-sources.ensures)

pub returns-in_err-job : goal.returns-in_err-job
returns-in_err-job g c =
    let folds = g.O.MergeOperator.merged (g.O.MergeOperator.settings c.args.operator.now) in
    let old = g.S.Store.view c.args.store.now in
    let new = g.S.Store.view c.get_tables.new.store in
    let ids = c.as_slice.ensures ∙ (c.in_ok-ids.ensures.ids ∙ ap (λ r. ids_in (range_of r) c.args.tables.now) c.range.ensures) in
    let p = err_from_is_err_and c.from_residual-in_err-job.result c.from_residual-in_err-job.ensures.1 in
    rw (p.1, p.2, c.in_err-job.ensures.memory) (lacks_after folds c.args.settings c.args.tables.now c.args.part.now c.args.rows old new c.as_slice.result.now ids c.in_ok-sources.sources c.in_ok-sources.ensures)

pub next_table-requires-clause-sources : goal.next_table-requires-clause-sources
next_table-requires-clause-sources g c κs within =
    let folds = g.O.MergeOperator.merged (g.O.MergeOperator.settings c.args.operator.now) in
    let old = g.S.Store.view c.args.store.now in
    let new = g.S.Store.view c.get_tables.new.store in
    let ids = c.as_slice.ensures ∙ (c.in_ok-ids.ensures.ids ∙ ap (λ r. ids_in (range_of r) c.args.tables.now) c.range.ensures) in
    got_sources folds c.args.settings c.args.tables.now c.args.part.now c.args.rows old new c.as_slice.result.now ids c.in_ok-sources.sources c.in_ok-sources.ensures c.requires.can

pub returns-in_err-table : goal.returns-in_err-table
returns-in_err-table g c =
    let folds = g.O.MergeOperator.merged (g.O.MergeOperator.settings c.args.operator.now) in
    let old = g.S.Store.view c.args.store.now in
    let new = g.S.Store.view c.get_tables.new.store in
    let ids = c.as_slice.ensures ∙ (c.in_ok-ids.ensures.ids ∙ ap (λ r. ids_in (range_of r) c.args.tables.now) c.range.ensures) in
    let p = err_from_is_err_and c.from_residual-in_err-table.result c.from_residual-in_err-table.ensures.1 in
    rw (p.1, p.2) (next_refused folds c.args.settings c.args.tables.now c.args.part.now c.args.rows old new c.as_slice.result.now ids c.in_ok-sources.sources c.in_ok-sources.ensures c.requires.can c.in_ok-job.job c.in_ok-job.ensures.job c.in_err-table.field-0.0 c.in_err-table.ensures.refused)

pub returns-in-Some : goal.returns-in-Some
returns-in-Some g c =
    let folds = g.O.MergeOperator.merged (g.O.MergeOperator.settings c.args.operator.now) in
    let old = g.S.Store.view c.args.store.now in
    let new = g.S.Store.view c.get_tables.new.store in
    let ids = c.as_slice.ensures ∙ (c.in_ok-ids.ensures.ids ∙ ap (λ r. ids_in (range_of r) c.args.tables.now) c.range.ensures) in
    let sources = c.in_ok-sources.sources in
    let job = c.in_ok-job.job in
    let gives = rw c.in-Some.is at c.in_ok-table.ensures.table in
    next_given folds c.args.settings c.args.tables.now c.args.part.now c.args.rows old new c.as_slice.result.now ids sources c.in_ok-sources.ensures c.requires.can job c.in_ok-job.ensures.job (Some c.from_vec.result)
    (subst (λ (rows : List RowEntry). GivesTable (made_of folds sources job) c.args.rows (Some rows)) (sym c.from_vec.ensures) gives)

pub returns : goal.returns
returns g c =
    let folds = g.O.MergeOperator.merged (g.O.MergeOperator.settings c.args.operator.now) in
    let old = g.S.Store.view c.args.store.now in
    let new = g.S.Store.view c.get_tables.new.store in
    let ids = c.as_slice.ensures ∙ (c.in_ok-ids.ensures.ids ∙ ap (λ r. ids_in (range_of r) c.args.tables.now) c.range.ensures) in
    let gives = rw c.in-None.is at c.in_ok-table.ensures.table in
    next_given folds c.args.settings c.args.tables.now c.args.part.now c.args.rows old new c.as_slice.result.now ids c.in_ok-sources.sources c.in_ok-sources.ensures c.requires.can c.in_ok-job.job c.in_ok-job.ensures.job None gives
