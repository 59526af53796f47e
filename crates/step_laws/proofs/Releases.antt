-- A release keeps the invariant: the job waits for a worker again and keeps its context.
use Rattle.std.proofs.Common.{◌≡◌, refl, ℕ, List, Bool, true, false, Option, Some, None, arith}
use Rattle.std.specs.Prelude.{IsTrue}
use Rattle.std.specs.List.{AllByRecursion}
use Rattle.std.proofs.lemmas.List.{append-nil}
use Rattle.row_model.specs.Fold.{Operator}
use Rattle.fleet_model.specs.Jobs.{Scheduled}
use Rattle.fleet_model.specs.History.{PutRecords, Release, Entry, stood}
use Rattle.fleet_model.specs.Work.Records.{firsts, to_waiting}
use Rattle.fleet_model.specs.Store.{Records, stored_jobs, records_epoch}
use Rattle.fleet_model.specs.Past.Replay.{epoch_after}
use Rattle.step_model.specs.Past.{World}
use Rattle.step_model.specs.LawfulRecords.{IsStoredAs, IsLiveAt}
use Rattle.step_laws.proofs.Elements.{all_at, all_from, all_to}
use Rattle.step_laws.proofs.Mute.{IsQuietFor}
use Rattle.step_laws.proofs.Bodies.{whole_of}
use Rattle.step_laws.proofs.OpenJobs.{is_open, open_reserves, kept_open}
use Rattle.step_laws.proofs.TableBodies.{active_if_open}
use Rattle.step_laws.proofs.RecordsBodies.{with_records}
use Rattle.step_laws.proofs.RecordsPuts.{StandingPutKeeps}
use Rattle.step_laws.proofs.Changed.{IsWorkerChange, own_on, name_apart_on, kept_quiet}
use Rattle.step_laws.proofs.WorkerPuts.{stored_as, each_named, stored_to, live_open, live_attempt, named_in, worker_records, worker_put_keeps, stored_named}

pub waiting_change : IsWorkerChange to_waiting
waiting_change = record { ids = λ job. refl; specs = λ job. refl; attempts = λ job. omega arith }

quiet_release : (took : Bool) (worker : ℕ) (attempts : List (ℕ × ℕ)) (job : ℕ) → IsQuietFor took (PutRecords (Release worker attempts)) job
quiet_release true worker attempts job = record { beats = refl; beaten = refl; joins = refl }
quiet_release false worker attempts job = record { beats = refl; beaten = refl; joins = refl }

kept_epoch : (worker : ℕ) (attempts : List (ℕ × ℕ)) (records : Option Records) → epoch_after (Release worker attempts) records ≡ records_epoch records
kept_epoch worker attempts None = refl
kept_epoch worker attempts (Some records) = refl

all_live : (world : World) (worker : ℕ) (attempts : List (ℕ × ℕ)) → AllByRecursion (λ a. IsStoredAs world a.0 (IsLiveAt worker a.1)) attempts → AllByRecursion (λ a. IsStoredAs world a.0 (λ job. IsTrue (is_open job.status))) attempts
all_live world worker attempts each = all_to _ _ attempts (λ a there live. stored_to world (IsLiveAt worker a.1) (λ job. IsTrue (is_open job.status)) a.0 (λ job one. live_open worker a.1 job one) live) each

-- A lawful release of attempts that takes effect keeps the invariant.
pub releases_keep : (merge : Operator) (worker : ℕ) (attempts : List (ℕ × ℕ)) → StandingPutKeeps merge (Release worker attempts)
releases_keep merge worker attempts line party answer world epoch jobs took k names fits =
    let entry : Entry = record { line = line; party = party; event = PutRecords (Release worker attempts); answer = answer } in
    let b = (whole_of merge world k).body in
    let specs = k.stored.replay.specs in
    let these = firsts attempts in
    let is_live = each_named world specs merge (λ job. IsTrue (is_open job.status)) attempts b (all_live world worker attempts fits.fits.each) in
    worker_put_keeps merge world fits.unrecorded to_waiting these (Release worker attempts) line party answer epoch jobs took k
    (record { after = refl; unnamed = refl; tables = tt; epoch = kept_epoch worker attempts world.store.records }) fits.makes_jobs fits.makes_epoch
    (record {
      is = waiting_change;
      holds = λ job there named holds. open_reserves job.status (is_live job there named);
      apart = name_apart_on to_waiting these (stored_jobs world.store) (λ job there named. (refl, λ active. active_if_open job (is_live job there named))) b.name_apart;
      own = all_from _ attempts (λ a there.
          let found = stored_as world _ a.0 (all_at _ attempts a fits.fits.each there) in
          let same = live_attempt worker a.1 found.job found.so in
          own_on world.store.history entry to_waiting these (stored_jobs world.store) found.job a b.sound.job_ids waiting_change (stored_named merge world specs b found.job a.0 found.stored) (named_in a attempts there) found.stored (omega (arith, same)));
      once = rw append-nil b.once;
      each = λ job there named kept. kept_open merge (with_records world (worker_records world to_waiting these) entry) specs Scheduled None job.attempt job (is_live job there named) refl (λ waits. refl) (λ c e claimed. claimed)
          (kept_quiet merge world specs (worker_records world to_waiting these) entry job b (quiet_release (stood answer) worker attempts job.id) there kept);
      quiet = λ job other. quiet_release (stood answer) worker attempts job.id;
      brought = tt;
    })
