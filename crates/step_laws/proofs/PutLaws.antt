-- The laws on puts of the manifest and of the records, from those on puts that take effect.
use Rattle.row_model.specs.Fold.{Operator}
use Rattle.fleet_model.specs.History.{ManifestEpoch, Flush, Commit, RecordsEpoch, Submit, Claim, Beat, Finish, Release, Polled}
use Rattle.step_laws.specs.CallLaws.{EpochsKeep, FlushesKeep, JobPutsKeep, OtherCallsKeep, WorkerPutsKeep}
use Rattle.fleet_model.specs.Exchanges.{Plain, DrawsJob, DrawsTable, PutsTable, PutsManifest, PutsRecords, ListsTables, DeletesTable}
use Rattle.step_laws.proofs.Quiet.{looks_keep}
use Rattle.step_laws.proofs.Draws.{draws_keep}
use Rattle.step_laws.proofs.TablePuts.{table_calls_keep}
use Rattle.step_laws.proofs.ManifestPuts.{manifest_put_keeps}
use Rattle.step_laws.proofs.ManifestEpochs.{epochs_keep}
use Rattle.step_laws.proofs.Flushes.{flushes_keep}
use Rattle.step_laws.proofs.RecordsPuts.{records_put_keeps}
use Rattle.step_laws.proofs.RecordsEpochs.{records_epochs_keep}
use Rattle.step_laws.proofs.Claims.{claims_keep}
use Rattle.step_laws.proofs.Beats.{beats_keep}
use Rattle.step_laws.proofs.Finishes.{finishes_keep}
use Rattle.step_laws.proofs.Releases.{releases_keep}
use Rattle.step_laws.proofs.NewPuts.{submits_keep}
use Rattle.step_laws.proofs.Polls.{polls_keep}

pub both_epochs_keep : (merge : Operator) → EpochsKeep merge
both_epochs_keep merge = record {
  manifest = λ epoch. manifest_put_keeps merge (ManifestEpoch epoch) (epochs_keep merge epoch);
  records = λ epoch. records_put_keeps merge (RecordsEpoch epoch) (records_epochs_keep merge epoch);
}

pub worker_puts_keep : (merge : Operator) → WorkerPutsKeep merge
worker_puts_keep merge = record {
  claims = λ worker attempts. records_put_keeps merge (Claim worker attempts) (claims_keep merge worker attempts);
  beats = λ worker attempts. records_put_keeps merge (Beat worker attempts) (beats_keep merge worker attempts);
  finishes = λ worker job attempt outputs. records_put_keeps merge (Finish worker job attempt outputs) (finishes_keep merge worker job attempt outputs);
  releases = λ worker attempts. records_put_keeps merge (Release worker attempts) (releases_keep merge worker attempts);
}

pub job_puts_keep : (merge : Operator) → JobPutsKeep merge
job_puts_keep merge = record {
  submits = λ specs. records_put_keeps merge (Submit specs) (submits_keep merge specs);
  polls = λ change. records_put_keeps merge (Polled change) (polls_keep merge change);
}

pub all_flushes_keep : (merge : Operator) → FlushesKeep merge
all_flushes_keep merge name segment floor tick = manifest_put_keeps merge (Flush name segment floor tick) (flushes_keep merge name segment floor tick)

-- Every lawful call that is no commit keeps the invariant.
pub other_calls_keep : (merge : Operator) → OtherCallsKeep merge
other_calls_keep merge (Plain event) other = (looks_keep merge).plain event
other_calls_keep merge (DrawsJob moment) other = (draws_keep merge).jobs moment
other_calls_keep merge (DrawsTable moment) other = (draws_keep merge).tables moment
other_calls_keep merge (PutsTable table rows) other = (table_calls_keep merge).puts table rows
other_calls_keep merge (PutsManifest version (ManifestEpoch epoch) value) other = (both_epochs_keep merge).manifest epoch version value
other_calls_keep merge (PutsManifest version (Flush name segment floor tick) value) other = all_flushes_keep merge name segment floor tick version value
other_calls_keep merge (PutsManifest version (Commit steps) value) other = absurd (cc other)
other_calls_keep merge (PutsRecords version (RecordsEpoch put) epoch jobs) other = (both_epochs_keep merge).records put version epoch jobs
other_calls_keep merge (PutsRecords version (Submit specs) epoch jobs) other = (job_puts_keep merge).submits specs version epoch jobs
other_calls_keep merge (PutsRecords version (Claim worker attempts) epoch jobs) other = (worker_puts_keep merge).claims worker attempts version epoch jobs
other_calls_keep merge (PutsRecords version (Beat worker attempts) epoch jobs) other = (worker_puts_keep merge).beats worker attempts version epoch jobs
other_calls_keep merge (PutsRecords version (Finish worker job attempt outputs) epoch jobs) other = (worker_puts_keep merge).finishes worker job attempt outputs version epoch jobs
other_calls_keep merge (PutsRecords version (Release worker attempts) epoch jobs) other = (worker_puts_keep merge).releases worker attempts version epoch jobs
other_calls_keep merge (PutsRecords version (Polled change) epoch jobs) other = (job_puts_keep merge).polls change version epoch jobs
other_calls_keep merge ListsTables other = (looks_keep merge).lists
other_calls_keep merge (DeletesTable table) other = (table_calls_keep merge).deletions table
