use Rattle.std.proofs.Common.{rules, ◌∙◌, ap, sym, subst}
use Rattle.std.specs.Prelude.{filter}
use Rattle.std.proofs.lemmas.Fn.{filter_same}
use Rattle.fleet_jobs.specs.Jobs.{is_open}
use Rattle.fleet_book.specs.Records.{AreRising}
use Rattle.fleet_coordinator.proofs.ShownViews.{open_rising, shown_records}
use Rattle.fleet_coordinator.proofs.requesting.open_records.Goals as goal

pub from_vec-requires : goal.from_vec-requires
from_vec-requires c =
    let kept = filter_same _ is_open _ (λ x b f called. search rules) _ _ c.retain.ensures.filtered in
    subst AreRising (sym (kept ∙ ap (filter is_open) c.into_vec-jobs.ensures.jobs)) (open_rising _ c.into_vec-jobs.ensures.rising)

pub returns-clause-records : goal.returns-clause-records
returns-clause-records c =
    let kept = filter_same _ is_open _ (λ x b f called. search rules) _ _ c.retain.ensures.filtered in
    c.from_compactions.ensures
    ∙ shown_records c.args.got.now c.in_ok-compactor_epoch.field-0 c.id.result c.from_vec.result (c.from_vec.ensures ∙ (kept ∙ ap (filter is_open) c.into_vec-jobs.ensures.jobs)) (c.in_ok-compactor_epoch.ensures.copy ∙ c.compactions.ensures) c.id.ensures
