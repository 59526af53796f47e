use Rattle.std.proofs.Common.{◌∙◌, sym, ap, subst}
use Rattle.fleet_model.specs.Jobs.{trimmed_jobs}
use Rattle.fleet_jobs.specs.Jobs.{jobs_of}
use Rattle.fleet_book.specs.declared.compactions.Compactions.{Compactions}
use Rattle.fleet_book.specs.Records.{kept_records}
use Rattle.fleet_store.specs.Records.{DescribeTables}
use Rattle.fleet_store.proofs.Described.{kept_describe}
use Rattle.fleet_coordinator.proofs.coordinator.epoch_put.Goals as goal

pub returns-clause-put : goal.returns-clause-put
returns-clause-put c =
    let copy = c.in_ok-value.ensures.copy ∙ c.compactions.ensures in
    let jobs = ap (λ (r : Compactions). r.jobs) copy in
    let new = c.retain_active_and_last_finished.ensures in
    rw c.in-Some.is (record {
      at = c.id.ensures;
      sets = ap (λ (r : Compactions). r.compactor_epoch) new.kept;
      jobs = new.model ∙ ap (λ jobs. trimmed_jobs (jobs_of jobs)) jobs;
      described = λ store all. subst (λ jobs. DescribeTables jobs store) (sym (ap (λ (r : Compactions). r.jobs) new.kept ∙ ap kept_records jobs)) (kept_describe c.in-Some.records.compactions.jobs store all);
    })
