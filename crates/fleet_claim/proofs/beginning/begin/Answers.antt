use Rattle.std.proofs.Common.{◌∙◌, ◌+◌, sym, ap, map}
use Rattle.fleet_jobs.specs.Places.{nodes_at}
use Rattle.fleet_jobs.specs.Sources.{name_of}
use Rattle.fleet_claim.proofs.Beginnings.{begins_as, can_is_test}
use Rattle.fleet_claim.proofs.beginning.begin.Goals as goal

pub returns-then-not-there-clause-begins : goal.returns-then-not-there-clause-begins
returns-then-not-there-clause-begins c =
    sym (c.in_ok-there.ensures
    ∙ can_is_test c.args.core.now c.args.job.now c.spec-spec.result.now c.as_slice.result.now (map name_of c.deref.result.now) c.sources.result.now c.deref-2.result.now c.source_tables-tables.result.now
    c.spec-spec.ensures (c.as_slice.ensures ∙ c.segment.ensures) (ap (map name_of) c.deref.ensures.value ∙ c.in_ok-nodes.ensures) c.sources.ensures (c.deref-2.ensures.value ∙ c.in_ok-views.ensures) c.source_tables-tables.ensures)
    ∙ c.if-not-there.true

pub returns-clause-begins : goal.returns-clause-begins
returns-clause-begins c =
    let core = c.args.core.now in
    let job = c.args.job.now in
    let spec = c.spec-spec.result.now in
    let nodes = ap (map name_of) c.deref.ensures.value ∙ c.in_ok-nodes.ensures in
    let there =
    c.in_ok-there.ensures
    ∙ can_is_test core job spec c.as_slice.result.now (map name_of c.deref.result.now) c.sources.result.now c.deref-2.result.now c.source_tables-tables.result.now
    c.spec-spec.ensures (c.as_slice.ensures ∙ c.segment.ensures) nodes c.sources.ensures (c.deref-2.ensures.value ∙ c.in_ok-views.ensures) c.source_tables-tables.ensures in
    begins_as c.args.release c.args.options.now c.args.moment core job spec (map name_of c.deref-3.result.now) c.deref-4.result.now c.settings-settings.result _ _
    (sym there ∙ c.if-not-there.false) c.id.ensures (c.in_ok-next_attempt.ensures.next ∙ ap (λ n. n + 1) c.attempt.ensures) (c.in_ok-copied.ensures ∙ c.source_tables-tables.ensures)
    (c.in_ok-described.ensures.tables ∙ ap (map (λ view. view.sst)) (c.deref-5.ensures.value ∙ sym c.deref-4.ensures.value))
    c.spec-spec.ensures (ap (map name_of) c.deref-3.ensures.value ∙ c.in_ok-nodes.ensures ∙ ap (λ s. nodes_at s core) (c.as_slice.ensures ∙ c.segment.ensures)) (c.deref-4.ensures.value ∙ c.in_ok-views.ensures) c.settings-settings.ensures c.ctx.ensures
    c.in_ok-context.ensures.context
