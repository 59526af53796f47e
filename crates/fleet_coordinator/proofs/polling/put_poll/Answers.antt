use Rattle.std.proofs.Common.{◌∙◌, ap, false, sym, true}
use Rattle.std.proofs.lemmas.Result.{err_from_is_err_and}
use Rattle.step_model.specs.Courses.StepEnds.{most_refused}
use Rattle.fleet_tree.specs.declared.manifest.VersionedManifest.{VersionedManifest}
use Rattle.fleet_coordinator.proofs.PollPuts as law
use Rattle.fleet_coordinator.proofs.polling.put_poll.Goals as goal

pub record_poll-requires-clause-lawful : goal.record_poll-requires-clause-lawful
record_poll-requires-clause-lawful g c =
    let core = c.core.ensures ∙ ap (λ (m : VersionedManifest). m.manifest.core) c.manifest.ensures in
    let same = law.unchanged_by c.requires.may c.core.result.now core c.is_unchanged.result true c.is_unchanged.ensures.model c.if-is_unchanged.true in
    law.records_lawful c.requires.may _ c.args.left c.args.seen (law.at_records c.requires.may same)

pub record_poll-requires-clause-described : goal.record_poll-requires-clause-described
record_poll-requires-clause-described g c =
    let core = c.core.ensures ∙ ap (λ (m : VersionedManifest). m.manifest.core) c.manifest.ensures in
    let same = law.unchanged_by c.requires.may c.core.result.now core c.is_unchanged.result true c.is_unchanged.ensures.model c.if-is_unchanged.true in
    law.records_described c.requires.may _ c.args.left c.args.seen (law.at_records c.requires.may same)

pub returns-then-is_unchanged : goal.returns-then-is_unchanged
returns-then-is_unchanged g c = λ may.
    let core = c.core.ensures ∙ ap (λ (m : VersionedManifest). m.manifest.core) c.manifest.ensures in
    let same = law.unchanged_by may c.core.result.now core c.is_unchanged.result true c.is_unchanged.ensures.model c.if-is_unchanged.true in
    rw c.as_tried.ensures (law.recorded may _ c.args.left c.args.seen (law.at_records may same) _ c.record_poll.result c.record_poll.ensures)

pub returns-in_err-put : goal.returns-in_err-put
returns-in_err-put g c = λ may.
    let p = err_from_is_err_and c.from_residual.result c.from_residual.ensures.1 in
    rw (p.1, p.2, c.in_err-put.ensures.memory) (law.lacks_commit may)

pub put_manifest-made-requires : goal.put_manifest-made-requires
put_manifest-made-requires g c =
    let core = c.core.ensures ∙ ap (λ (m : VersionedManifest). m.manifest.core) c.manifest.ensures in
    let changed = law.unchanged_by c.requires.may c.core.result.now core c.is_unchanged.result false c.is_unchanged.ensures.model c.if-is_unchanged.false in
    law.commit_fits c.requires.may changed c.in_ok-put.put c.in_ok-put.ensures.put

pub returns-in-Some : goal.returns-in-Some
returns-in-Some g c = λ may.
    let core = c.core.ensures ∙ ap (λ (m : VersionedManifest). m.manifest.core) c.manifest.ensures in
    let changed = law.unchanged_by may c.core.result.now core c.is_unchanged.result false c.is_unchanged.ensures.model c.if-is_unchanged.false in
    law.commit_refused may changed c.in_ok-put.put c.in_ok-put.ensures.put _ c.put_manifest-made.result c.put_manifest-made.ensures c.in-Some.version (sym c.refused_at.ensures ∙ c.in-Some.is)

pub returns-in_err-made : goal.returns-in_err-made
returns-in_err-made g c = λ may.
    let p = err_from_is_err_and c.from_residual-in_err-made.result c.from_residual-in_err-made.ensures.1 in
    let core = c.core.ensures ∙ ap (λ (m : VersionedManifest). m.manifest.core) c.manifest.ensures in
    let changed = law.unchanged_by may c.core.result.now core c.is_unchanged.result false c.is_unchanged.ensures.model c.if-is_unchanged.false in
    rw (p.1, p.2)
    (law.commit_failed may changed c.in_ok-put.put c.in_ok-put.ensures.put _ c.put_manifest-made.result c.put_manifest-made.ensures c.in_err-made.field-0.0 c.in_err-made.was (sym c.refused_at.ensures ∙ c.in_default.is))

pub record_poll-requires-2-clause-lawful : goal.record_poll-requires-2-clause-lawful
record_poll-requires-2-clause-lawful g c =
    let core = c.core.ensures ∙ ap (λ (m : VersionedManifest). m.manifest.core) c.manifest.ensures in
    let changed = law.unchanged_by c.requires.may c.core.result.now core c.is_unchanged.result false c.is_unchanged.ensures.model c.if-is_unchanged.false in
    let done = law.commit_done c.requires.may changed c.in_ok-put.put c.in_ok-put.ensures.put _ c.put_manifest-made.result c.put_manifest-made.ensures c.in_ok-made.field-0 c.in_ok-made.was in
    law.records_lawful c.requires.may _ most_refused 0 done

pub record_poll-requires-2-clause-described : goal.record_poll-requires-2-clause-described
record_poll-requires-2-clause-described g c =
    let core = c.core.ensures ∙ ap (λ (m : VersionedManifest). m.manifest.core) c.manifest.ensures in
    let changed = law.unchanged_by c.requires.may c.core.result.now core c.is_unchanged.result false c.is_unchanged.ensures.model c.if-is_unchanged.false in
    let done = law.commit_done c.requires.may changed c.in_ok-put.put c.in_ok-put.ensures.put _ c.put_manifest-made.result c.put_manifest-made.ensures c.in_ok-made.field-0 c.in_ok-made.was in
    law.records_described c.requires.may _ most_refused 0 done

pub returns : goal.returns
returns g c = λ may.
    let core = c.core.ensures ∙ ap (λ (m : VersionedManifest). m.manifest.core) c.manifest.ensures in
    let changed = law.unchanged_by may c.core.result.now core c.is_unchanged.result false c.is_unchanged.ensures.model c.if-is_unchanged.false in
    let done = law.commit_done may changed c.in_ok-put.put c.in_ok-put.ensures.put _ c.put_manifest-made.result c.put_manifest-made.ensures c.in_ok-made.field-0 c.in_ok-made.was in
    rw c.as_tried-2.ensures (law.recorded may _ most_refused 0 done _ c.record_poll-2.result c.record_poll-2.ensures)
