use Rattle.std.proofs.Common.{◌∙◌, sym, ap, subst}
use Rattle.fleet_model.specs.Jobs.{trimmed_jobs}
use Rattle.fleet_jobs.specs.Jobs.{jobs_of}
use Rattle.fleet_book.specs.declared.compactions.Compactions.{Compactions}
use Rattle.fleet_book.specs.States.{own_jobs}
use Rattle.fleet_book.specs.VersionedRecords.{VersionedRecords}
use Rattle.fleet_book.specs.Records.{kept_records}
use Rattle.fleet_store.specs.Records.{DescribeTables}
use Rattle.fleet_store.proofs.Described.{kept_describe}
use Rattle.fleet_change.proofs.put.trimmed.Goals as goal

pub returns-clause-value : goal.returns-clause-value
returns-clause-value c =
    let copy = c.in_ok-value.ensures.copy ∙ c.compactions-2.ensures ∙ ap (λ (v : VersionedRecords). v.compactions) c.compactions.ensures in
    let jobs = ap (λ (r : Compactions). r.jobs) copy in
    let new = c.retain_active_and_last_finished.ensures in
    record {
      sets = ap (λ (r : Compactions). r.compactor_epoch) new.kept;
      kept = new.model ∙ ap (λ jobs. trimmed_jobs (jobs_of jobs)) jobs;
      described = λ store all. subst (λ jobs. DescribeTables jobs store) (sym (ap (λ (r : Compactions). r.jobs) new.kept ∙ ap kept_records jobs)) (kept_describe (own_jobs c.args.poll.now.state) store all);
    }
