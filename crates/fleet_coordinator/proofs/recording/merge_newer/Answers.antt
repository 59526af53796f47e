use Rattle.std.proofs.Common.{subst}
use Rattle.std.proofs.lemmas.Result.{err_from_is_err_and}
use Rattle.fleet_book.specs.Records.{AreRising}
use Rattle.fleet_book.specs.VersionedRecords.{VersionedRecords}
use Rattle.fleet_step.proofs.Turns.{get_fails}
use Rattle.fleet_coordinator.proofs.RecordPuts as law
use Rattle.fleet_coordinator.proofs.recording.merge_newer.Goals as goal

pub returns-in_err-get_records-clause-failed : goal.returns-in_err-get_records-clause-failed
returns-in_err-get_records-clause-failed g c = λ next again ends.
    let p = err_from_is_err_and c.from_residual.result c.from_residual.ensures.1 in
    rw (p.1, p.2) (get_fails c.in_err-get_records.ensures.called)

pub returns-then-epoch-stored-clause-failed : goal.returns-then-epoch-stored-clause-failed
returns-then-epoch-stored-clause-failed g c = λ next again ends.
    rw c.compactor_epoch-stored.ensures
    (law.newer_fences c.args.epoch _ _ c.in_ok-get_records.field-0 c.in_ok-get_records.ensures c.or_none-newer.result c.or_none-newer.ensures.records next again ends
    (rw c.compactor_epoch-stored.ensures at c.if-epoch-stored.true))

pub returns-in_err-merge_remote_compactions-clause-failed : goal.returns-in_err-merge_remote_compactions-clause-failed
returns-in_err-merge_remote_compactions-clause-failed g c = λ next again ends.
    let p = err_from_is_err_and c.from_residual-in_err-merge_remote_compactions.result c.from_residual-in_err-merge_remote_compactions.ensures.1 in
    rw (p.1, p.2, c.in_err-merge_remote_compactions.ensures.memory)
    (law.newer_lacks c.args.epoch _ _ c.in_ok-get_records.field-0 c.in_ok-get_records.ensures c.or_none-newer.result c.or_none-newer.ensures.records next again ends)

pub returns-clause-merged : goal.returns-clause-merged
returns-clause-merged g c =
    law.newer_merges c.args.epoch _ _ c.in_ok-get_records.field-0 c.in_ok-get_records.ensures c.or_none-newer.result c.or_none-newer.ensures.records
    c.args.poll.now c.merge_remote_compactions.new.self c.new.result c.compactor_epoch-stored.result c.or_none-newer.ensures.jobs (subst (λ (r : VersionedRecords). AreRising r.compactions.jobs) c.compactions.ensures c.know_rising.ensures) c.compactor_epoch-stored.ensures c.if-epoch-stored.false
    c.in_ok-merge_remote_compactions.ensures.ok c.new.ensures
