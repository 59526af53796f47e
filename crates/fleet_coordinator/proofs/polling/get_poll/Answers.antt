use Rattle.std.proofs.Common.{◌∙◌, sym, ap}
use Rattle.std.specs.Prelude.{nat_lt}
use Rattle.std.proofs.lemmas.Result.{err_from_is_err_and}
use Rattle.fleet_coordinator.proofs.PollGets as law
use Rattle.fleet_coordinator.proofs.polling.get_poll.Goals as goal

pub returns-in_err-manifest-clause-failed : goal.returns-in_err-manifest-clause-failed
returns-in_err-manifest-clause-failed g c = λ ask left seen again same.
    let p = err_from_is_err_and c.from_residual.result c.from_residual.ensures.1 in
    rw (p.1, p.2) (law.call_ends c.in_err-manifest.ensures)

pub returns-in_err-unless_fenced-clause-failed : goal.returns-in_err-unless_fenced-clause-failed
returns-in_err-unless_fenced-clause-failed g c = λ ask left seen again same.
    let p = err_from_is_err_and c.from_residual-in_err-unless_fenced.result c.from_residual-in_err-unless_fenced.ensures.1 in
    let above = law.is_above c.args.epoch c.compactor_epoch.result c.in_err-unless_fenced.field-0.0 c.in_err-unless_fenced.ensures in
    rw (p.1, p.2, above.1, c.compactor_epoch.ensures)
    (law.manifest_fences _ _ c.args.epoch c.in_ok-manifest.manifest c.in_ok-manifest.ensures ask left seen again same (ap (nat_lt c.args.epoch) (sym c.compactor_epoch.ensures) ∙ above.0))

pub returns-in_err-get_records-clause-failed : goal.returns-in_err-get_records-clause-failed
returns-in_err-get_records-clause-failed g c = λ ask left seen again same.
    let p = err_from_is_err_and c.from_residual-in_err-get_records.result c.from_residual-in_err-get_records.ensures.1 in
    rw (p.1, p.2)
    (law.records_fail _ _ c.args.epoch c.in_ok-manifest.manifest c.in_ok-manifest.ensures ask left seen again same (law.low_by c.args.epoch c.compactor_epoch.result _ c.compactor_epoch.ensures _ c.in_ok-unless_fenced.ensures) _ c.in_err-get_records.field-0.0
    c.in_err-get_records.ensures)

pub returns-in_err-unless_fenced-2-clause-failed : goal.returns-in_err-unless_fenced-2-clause-failed
returns-in_err-unless_fenced-2-clause-failed g c = λ ask left seen again same.
    let p = err_from_is_err_and c.from_residual-in_err-unless_fenced-2.result c.from_residual-in_err-unless_fenced-2.ensures.1 in
    let above = law.is_above c.args.epoch c.compactor_epoch-2.result c.in_err-unless_fenced-2.field-0.0 c.in_err-unless_fenced-2.ensures in
    rw (p.1, p.2, above.1, c.compactor_epoch-2.ensures)
    (law.records_fence _ _ c.args.epoch c.in_ok-manifest.manifest c.in_ok-manifest.ensures ask left seen again same (law.low_by c.args.epoch c.compactor_epoch.result _ c.compactor_epoch.ensures _ c.in_ok-unless_fenced.ensures) _ c.in_ok-get_records.field-0
    c.in_ok-get_records.ensures c.or_none-records.result c.or_none-records.ensures.records (ap (nat_lt c.args.epoch) (sym c.compactor_epoch-2.ensures) ∙ above.0))

pub poll_over-requires : goal.poll_over-requires
poll_over-requires g c =
    let high = law.low_by c.args.epoch c.compactor_epoch.result _ c.compactor_epoch.ensures _ c.in_ok-unless_fenced.ensures in
    let low = law.low_by c.args.epoch c.compactor_epoch-2.result _ c.compactor_epoch-2.ensures _ c.in_ok-unless_fenced-2.ensures in
    law.epochs_meet _ _ c.args.epoch c.in_ok-manifest.manifest c.in_ok-manifest.ensures high _ c.in_ok-get_records.field-0 c.in_ok-get_records.ensures c.or_none-records.result c.or_none-records.ensures.records c.or_none-records.ensures.jobs low
    (g.met.S.Store.lawful _) c.requires.ready

pub returns-clause-got : goal.returns-clause-got
returns-clause-got g c =
    let high = law.low_by c.args.epoch c.compactor_epoch.result _ c.compactor_epoch.ensures _ c.in_ok-unless_fenced.ensures in
    let low = law.low_by c.args.epoch c.compactor_epoch-2.result _ c.compactor_epoch-2.ensures _ c.in_ok-unless_fenced-2.ensures in
    law.all_got _ _ c.args.epoch c.in_ok-manifest.manifest c.in_ok-manifest.ensures high _ c.in_ok-get_records.field-0 c.in_ok-get_records.ensures c.or_none-records.result c.or_none-records.ensures.records c.or_none-records.ensures.jobs low
    c.poll_over.result c.poll_over.ensures.got

pub returns-clause-failed : goal.returns-clause-failed
returns-clause-failed g c = λ ask left seen again same.
    let high = law.low_by c.args.epoch c.compactor_epoch.result _ c.compactor_epoch.ensures _ c.in_ok-unless_fenced.ensures in
    let low = law.low_by c.args.epoch c.compactor_epoch-2.result _ c.compactor_epoch-2.ensures _ c.in_ok-unless_fenced-2.ensures in
    law.over_fails (law.found_over _ _ c.args.epoch c.in_ok-manifest.manifest c.in_ok-manifest.ensures ask left seen again same high _ c.in_ok-get_records.field-0 c.in_ok-get_records.ensures c.or_none-records.result c.or_none-records.ensures.records low)
    c.poll_over.result c.poll_over.ensures.memory
