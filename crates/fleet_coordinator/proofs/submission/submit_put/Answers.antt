use Rattle.std.proofs.Common.{◌∙◌, sym, ap, subst}
use Rattle.std.specs.Prelude.{map}
use Rattle.fleet_book.specs.declared.compactions.Compactions.{Compactions}
use Rattle.fleet_history.specs.declared.record_change.RecordChange.TheVariants as change
use Rattle.fleet_coordinator.specs.Submits.{AreNewTo}
use Rattle.fleet_coordinator.proofs.NewJobs.{firsts_of, puts_new}
use Rattle.fleet_coordinator.proofs.submission.submit_put.Goals as goal

pub add_jobs-requires : goal.add_jobs-requires
add_jobs-requires c =
    let ids = ap (map (λ p. p.0)) (c.as_slice.ensures.value ∙ c.in_ok-named.ensures.named) ∙ firsts_of c.args.ids.now c.args.specs.now c.requires.many in
    let copy = c.in_ok-value.ensures.copy ∙ c.compactions.ensures in
    subst (AreNewTo c.in_ok-value.value.jobs) (sym ids) (subst (λ (r : Compactions). AreNewTo r.jobs c.args.ids.now) (sym copy) c.requires.new)

pub returns-clause-put : goal.returns-clause-put
returns-clause-put c =
    puts_new c.args.got.now c.args.ids.now c.args.specs.now c.as_slice.result.now c.in_ok-value.value c.add_jobs.new.records c.retain_active_and_last_finished.new.self
    (c.as_slice.ensures.value ∙ c.in_ok-named.ensures.named) (c.in_ok-value.ensures.copy ∙ c.compactions.ensures) c.in_ok-add_jobs.ensures.added
    c.retain_active_and_last_finished.ensures.kept c.retain_active_and_last_finished.ensures.model c.id.result c.id.ensures _ (ap change.Submit (c.from_vec.ensures ∙ sym c.as_slice.ensures.value))
