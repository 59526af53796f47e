use Rattle.std.proofs.Common.{◌∙◌, ap, sym, true, option_map}
use Rattle.std.proofs.lemmas.Result.{err_from_is_err_and}
use Rattle.step_model.specs.Steps.FlushSteps.{flushes_from}
use Rattle.fleet_coordinator.specs.Flushes.{asked_of, fault_of}
use Rattle.fleet_step.proofs.Turns.{wants_memory}
use Rattle.fleet_coordinator.proofs.Flushes as law
use Rattle.fleet_coordinator.proofs.flushing.try_flush.Goals as goal

pub returns-in-Some-clause-ran : goal.returns-in-Some-clause-ran
returns-in-Some-clause-ran g c = λ left seen.
    law.breaks_rule c.args.moment c.args.retention_ms (asked_of c.args.flush.now) c.args.is_put _ _ c.in_ok-got.got c.in_ok-got.ensures (flushes_from c.args.moment c.args.retention_ms (asked_of c.args.flush.now) left true) c.in-Some.fault
    (sym (ap (option_map fault_of) c.in-Some.is) ∙ c.fault_after_get.ensures)

pub put_once-requires : goal.put_once-requires
put_once-requires g c = law.may_put_once c.args.moment c.args.retention_ms (asked_of c.args.flush.now) c.args.is_put _ _ c.in_ok-got.got c.in_ok-got.ensures (sym (ap (option_map fault_of) c.in_default.is) ∙ c.fault_after_get.ensures) c.requires.may

pub returns-in_err-put_once-clause-ran : goal.returns-in_err-put_once-clause-ran
returns-in_err-put_once-clause-ran g c = λ left seen.
    let p = err_from_is_err_and c.from_residual-in_err-put_once.result c.from_residual-in_err-put_once.ensures.1 in
    rw (p.1, p.2)
    (law.table_fails c.args.moment c.args.retention_ms (asked_of c.args.flush.now) c.args.is_put _ _ c.in_ok-got.got c.in_ok-got.ensures (sym (ap (option_map fault_of) c.in_default.is) ∙ c.fault_after_get.ensures) _ c.in_err-put_once.field-0.0 (flushes_from c.args.moment c.args.retention_ms (asked_of c.args.flush.now) left true) c.in_err-put_once.ensures)

pub returns-in_err-why-clause-ran : goal.returns-in_err-why-clause-ran
returns-in_err-why-clause-ran g c = λ left seen.
    let p = err_from_is_err_and c.from_residual-in_err-why.result c.from_residual-in_err-why.ensures.1 in
    rw (p.1, p.2, c.in_err-why.ensures.memory)
    (wants_memory (law.at_manifest c.args.moment c.args.retention_ms (asked_of c.args.flush.now) c.args.is_put _ _ c.in_ok-got.got c.in_ok-got.ensures (sym (ap (option_map fault_of) c.in_default.is) ∙ c.fault_after_get.ensures) c.requires.may _ c.in_ok-put_once.ensures (flushes_from c.args.moment c.args.retention_ms (asked_of c.args.flush.now) left true)))

pub returns-in_err-version-clause-ran : goal.returns-in_err-version-clause-ran
returns-in_err-version-clause-ran g c = λ left seen.
    let p = err_from_is_err_and c.from_residual-in_err-version.result c.from_residual-in_err-version.ensures.1 in
    rw (p.1, p.2, c.in_err-version.ensures.memory)
    (wants_memory (law.at_manifest c.args.moment c.args.retention_ms (asked_of c.args.flush.now) c.args.is_put _ _ c.in_ok-got.got c.in_ok-got.ensures (sym (ap (option_map fault_of) c.in_default.is) ∙ c.fault_after_get.ensures) c.requires.may _ c.in_ok-put_once.ensures (flushes_from c.args.moment c.args.retention_ms (asked_of c.args.flush.now) left true)))

pub put_manifest-made-requires : goal.put_manifest-made-requires
put_manifest-made-requires g c =
    law.flush_fits c.args.moment c.args.retention_ms c.args.flush.now c.args.is_put _ _ _ c.in_ok-got.got c.in_ok-got.ensures c.requires.seqs (sym (ap (option_map fault_of) c.in_default.is) ∙ c.fault_after_get.ensures) (g.met.S.Store.lawful _) c.requires.may c.in_ok-put_once.ensures c.in_ok-version.version c.in_ok-version.manifest c.in_ok-version.ensures.put c.in_ok-why.why c.in_ok-why.ensures.change

pub returns-clause-ran : goal.returns-clause-ran
returns-clause-ran g c = λ left seen.
    rw c.put_answer.ensures
    (law.flush_ends c.args.moment c.args.retention_ms c.args.flush.now c.args.is_put _ _ _ c.in_ok-got.got c.in_ok-got.ensures c.requires.seqs (sym (ap (option_map fault_of) c.in_default.is) ∙ c.fault_after_get.ensures) (g.met.S.Store.lawful _) c.requires.may c.in_ok-put_once.ensures c.in_ok-version.version c.in_ok-version.manifest c.in_ok-version.ensures.put c.in_ok-why.why c.in_ok-why.ensures.change
    (flushes_from c.args.moment c.args.retention_ms (asked_of c.args.flush.now) left true) _ c.put_manifest-made.result c.put_manifest-made.ensures)

pub returns-clause-put : goal.returns-clause-put
returns-clause-put g c = λ seen refused.
    law.there_after c.args.moment c.args.retention_ms c.args.flush.now c.args.is_put _ _ _ c.in_ok-got.got c.in_ok-got.ensures c.requires.seqs (sym (ap (option_map fault_of) c.in_default.is) ∙ c.fault_after_get.ensures) (g.met.S.Store.lawful _) c.requires.may c.in_ok-put_once.ensures c.in_ok-version.version c.in_ok-version.manifest c.in_ok-version.ensures.put c.in_ok-why.why c.in_ok-why.ensures.change
    _ c.put_manifest-made.result c.put_manifest-made.ensures
