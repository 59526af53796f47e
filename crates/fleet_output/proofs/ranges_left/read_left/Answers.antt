use Rattle.std.proofs.Common.{◌∙◌, ◌<◌, ◌^◌, sym, ap, subst, length}
use Rattle.std.proofs.lemmas.List.{length-map}
use Rattle.std.proofs.lemmas.Result.{err_from_is_err_and}
use Rattle.fleet_output.proofs.LeftRows.{are_sources, fewer_read, given_left, held_left, lacks_read, none_read, stopped_left}
use Rattle.fleet_output.proofs.ranges_left.read_left.Goals as goal

pub get_tables-requires : goal.get_tables-requires
get_tables-requires g c =
    let folds = g.O.MergeOperator.merged (g.O.MergeOperator.settings c.args.operator.now) in
    let old = g.S.Store.view c.args.store.now in
    let ids = c.as_slice.ensures ∙ c.in_ok-ids.ensures.ids in
    record { held = held_left folds c.args.settings c.args.tables.now c.args.parts.now c.args.size old old c.as_slice.result.now ids c.requires.can }

pub returns-in_err-ids : goal.returns-in_err-ids
returns-in_err-ids g c =
    let folds = g.O.MergeOperator.merged (g.O.MergeOperator.settings c.args.operator.now) in
    let old = g.S.Store.view c.args.store.now in
    let p = err_from_is_err_and c.from_residual.result c.from_residual.ensures.1 in
    rw (p.1, p.2, c.in_err-ids.ensures.memory) (none_read folds c.args.settings c.args.tables.now c.args.parts.now c.args.size old old)

pub returns-in_err-sources : goal.returns-in_err-sources
returns-in_err-sources g c =
    let folds = g.O.MergeOperator.merged (g.O.MergeOperator.settings c.args.operator.now) in
    let old = g.S.Store.view c.args.store.now in
    let new = g.S.Store.view c.get_tables.new.store in
    let ids = c.as_slice.ensures ∙ c.in_ok-ids.ensures.ids in
    let p = err_from_is_err_and c.from_residual-in_err-sources.result c.from_residual-in_err-sources.ensures.1 in
    rw (p.1, p.2) (fewer_read folds c.args.settings c.args.tables.now c.args.parts.now c.args.size old new c.as_slice.result.now ids c.in_err-sources.field-0.0 c.in_err-sources.ensures)

pub returns-in_err-jobs : goal.returns-in_err-jobs
returns-in_err-jobs g c =
    let folds = g.O.MergeOperator.merged (g.O.MergeOperator.settings c.args.operator.now) in
    let old = g.S.Store.view c.args.store.now in
    let new = g.S.Store.view c.get_tables.new.store in
    let ids = c.as_slice.ensures ∙ c.in_ok-ids.ensures.ids in
    let p = err_from_is_err_and c.from_residual-in_err-jobs.result c.from_residual-in_err-jobs.ensures.1 in
    rw (p.1, p.2, c.in_err-jobs.ensures.memory) (lacks_read folds c.args.settings c.args.tables.now c.args.parts.now c.args.size old new c.as_slice.result.now ids c.in_ok-sources.sources c.in_ok-sources.ensures)

pub finish_ranges-requires-clause-few : goal.finish_ranges-requires-clause-few
finish_ranges-requires-clause-few g c κs within =
    let jobs = c.as_slice-2.ensures.value ∙ c.in_ok-jobs.ensures.jobs in
    subst (λ n. n < 2 ^ 32) (sym (ap length jobs ∙ length-map _ _)) c.requires.few

pub finish_ranges-requires-clause-sources : goal.finish_ranges-requires-clause-sources
finish_ranges-requires-clause-sources g c κs within =
    let folds = g.O.MergeOperator.merged (g.O.MergeOperator.settings c.args.operator.now) in
    let old = g.S.Store.view c.args.store.now in
    let new = g.S.Store.view c.get_tables.new.store in
    let ids = c.as_slice.ensures ∙ c.in_ok-ids.ensures.ids in
    are_sources folds c.args.settings c.args.tables.now c.args.parts.now c.args.size old new c.as_slice.result.now ids c.in_ok-sources.sources c.in_ok-sources.ensures c.requires.can

pub returns-in_err-left : goal.returns-in_err-left
returns-in_err-left g c =
    let folds = g.O.MergeOperator.merged (g.O.MergeOperator.settings c.args.operator.now) in
    let old = g.S.Store.view c.args.store.now in
    let new = g.S.Store.view c.get_tables.new.store in
    let ids = c.as_slice.ensures ∙ c.in_ok-ids.ensures.ids in
    let jobs = c.as_slice-2.ensures.value ∙ c.in_ok-jobs.ensures.jobs in
    let p = err_from_is_err_and c.from_residual-in_err-left.result c.from_residual-in_err-left.ensures.1 in
    rw (p.1, p.2)
    (stopped_left folds c.args.settings c.args.tables.now c.args.parts.now c.args.size old new c.as_slice.result.now ids c.in_ok-sources.sources c.in_ok-sources.ensures c.requires.can c.as_slice-2.result.now jobs c.in_err-left.field-0.0 c.in_err-left.ensures.refused)

pub returns : goal.returns
returns g c =
    let folds = g.O.MergeOperator.merged (g.O.MergeOperator.settings c.args.operator.now) in
    let old = g.S.Store.view c.args.store.now in
    let new = g.S.Store.view c.get_tables.new.store in
    let ids = c.as_slice.ensures ∙ c.in_ok-ids.ensures.ids in
    let jobs = c.as_slice-2.ensures.value ∙ c.in_ok-jobs.ensures.jobs in
    rw c.from_vec.ensures
    (given_left folds c.args.settings c.args.tables.now c.args.parts.now c.args.size old new c.as_slice.result.now ids c.in_ok-sources.sources c.in_ok-sources.ensures c.requires.can c.as_slice-2.result.now jobs c.in_ok-left.left.items c.in_ok-left.ensures.tables)
