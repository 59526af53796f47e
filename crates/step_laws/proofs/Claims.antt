-- A claim keeps the invariant: each claimed attempt is the next one of its job, and a published context stays that of its attempt.
use Rattle.std.proofs.Common.{◌≡◌, ◌≢◌, refl, ◌∙◌, ap, subst, ℕ, ◌+◌, ◌≤◌, List, [], ◌∷◌, ◌++◌, Bool, true, false, inl, inr, Option, Some, None, arith}
use Rattle.std.specs.Prelude.{IsTrue, IfSome, ◌&&◌, is_some, is_none}
use Rattle.std.specs.List.{AllByRecursion}
use Rattle.row_model.specs.Lists.{Pairs}
use Rattle.row_model.specs.Fold.{Operator}
use Rattle.fleet_model.specs.Jobs.{JobSpec, Job, Context, Status, Submitted, Scheduled, Running, Compacted, Completed, Failed, status_eq, job_with}
use Rattle.fleet_model.specs.History.{Event, PutRecords, Claim, Entry, stood}
use Rattle.fleet_model.specs.Work.Records.{firsts, claimed_by}
use Rattle.fleet_model.specs.Work.Claims.{is_waiting}
use Rattle.fleet_model.specs.Past.Claimed.{IsClaimed}
use Rattle.fleet_model.specs.Store.{Records, stored_jobs, records_epoch}
use Rattle.fleet_model.specs.Past.Replay.{epoch_after}
use Rattle.step_model.specs.Past.{World}
use Rattle.step_model.specs.Entries.{claimed_attempts, attempts_claimed_in, attempts_in}
use Rattle.step_model.specs.Kept.NamesKept.{IsUpTo}
use Rattle.step_model.specs.LawfulRecords.{IsStoredAs}
use Rattle.step_laws.proofs.Elements.{IsIn, all_at, all_from, all_to, all_flat, all_append}
use Rattle.step_laws.proofs.Mute.{IsQuietFor}
use Rattle.step_laws.proofs.Worlds.{beaten_stays}
use Rattle.step_laws.proofs.Bodies.{Body, JobKept, whole_of}
use Rattle.step_laws.proofs.OpenJobs.{is_open, open_reserves, kept_open}
use Rattle.step_laws.proofs.TableBodies.{active_if_open}
use Rattle.step_laws.proofs.Beaten.{first_beat, first_beat_low, origin_stays, claimed_stays}
use Rattle.step_laws.proofs.RecordsBodies.{with_records}
use Rattle.step_laws.proofs.RecordsPuts.{StandingPutKeeps}
use Rattle.step_laws.proofs.Changed.{IsWorkerChange, own_on, name_apart_on, kept_quiet}
use Rattle.step_laws.proofs.WorkerPuts.{stored_as, stored_to, each_named, named_in, stored_named, worker_records, worker_put_keeps}

-- ---- no attempt is claimed twice

pub pairs_append : {A : Type 0} (R : A → A → Type 0) (xs ys : List A) → Pairs R xs → Pairs R ys → ((x y : A) → IsIn x xs → IsIn y ys → R x y) → Pairs R (xs ++ ys)
pairs_append R [] ys h k cross = k
pairs_append R (x ∷ xs) ys h k cross = (all_append _ xs ys h.0 (all_from _ ys (λ y there. cross x y (inl refl) there)), pairs_append R xs ys h.1 k (λ a b one other. cross a b (inr one) other))

claims_up : (P : ℕ × ℕ → Type 0) (took : Bool) (event : Event) → (IsTrue took → AllByRecursion P (attempts_in event)) → AllByRecursion P (attempts_claimed_in took event)
claims_up P true (PutRecords (Claim worker attempts)) h = h refl
claims_up P true event h = tt
claims_up P false event h = tt

claimed_up_to : (merge : Operator) (world : World) (specs : ℕ → JobSpec) → Body merge world specs → AllByRecursion (IsUpTo world.store.history (stored_jobs world.store)) (claimed_attempts world.store.history)
claimed_up_to merge world specs b = all_flat _ (λ (e : Entry). attempts_claimed_in (stood e.answer) e.event) world.store.history (all_to _ _ world.store.history (λ e there up. claims_up _ (stood e.answer) e.event up) b.up_to)

-- The next attempts of different jobs that wait were never claimed, so a claim of them claims no attempt twice.
new_claims : (merge : Operator) (world : World) (specs : ℕ → JobSpec) (attempts : List (ℕ × ℕ)) → Body merge world specs → Pairs (λ a b. a.0 ≢ b.0) attempts
    → AllByRecursion (λ a. IsStoredAs world a.0 (λ job. IsTrue (is_waiting job) × (a.1 ≡ job.attempt + 1))) attempts → Pairs (λ a b. a ≢ b) (claimed_attempts world.store.history ++ attempts)
new_claims merge world specs attempts b once each = pairs_append _ (claimed_attempts world.store.history) attempts b.once (apart attempts once) (λ x y one other same. cross x y one other same)
  where
    apart : (list : List (ℕ × ℕ)) → Pairs (λ a b. a.0 ≢ b.0) list → Pairs (λ a b. a ≢ b) list
    apart [] h = tt
    apart (a ∷ list) h = (all_to _ _ list (λ c there differs same. differs (λ i. (same i).0)) h.0, apart list h.1)

    cross : (x y : ℕ × ℕ) → IsIn x (claimed_attempts world.store.history) → IsIn y attempts → x ≡ y → ⊥
    cross x y one other same =
        let up = all_at _ (claimed_attempts world.store.history) x (claimed_up_to merge world specs b) one in
        let found = stored_as world _ y.0 (all_at _ attempts y each other) in
        let first : x.0 ≡ y.0 = λ i. (same i).0 in
        let second : x.1 ≡ y.1 = λ i. (same i).1 in
        let low : x.1 ≤ found.job.attempt = subst (λ o. IfSome o (λ (j : Job). x.1 ≤ j.attempt)) (ap (λ id. job_with id (stored_jobs world.store)) first ∙ found.stored) up.1 in
        let next = found.so.1 in
        absurd (omega (arith, low, next, second))

-- ---- the law

pub scheduled_open : (s : Status) (unleased : Bool) → IsTrue (status_eq Scheduled s && unleased) → IsTrue (is_open s)
scheduled_open Scheduled unleased h = refl
scheduled_open Running unleased h = refl
scheduled_open Submitted unleased h = absurd (cc h)
scheduled_open Compacted unleased h = absurd (cc h)
scheduled_open Completed unleased h = absurd (cc h)
scheduled_open Failed unleased h = absurd (cc h)

waiting_open : (job : Job) → IsTrue (is_waiting job) → IsTrue (is_open job.status)
waiting_open job h = scheduled_open job.status (is_none job.lease) h

claim_change : (worker moment : ℕ) → IsWorkerChange (claimed_by worker moment)
claim_change worker moment = record { ids = λ job. refl; specs = λ job. refl; attempts = λ job. omega arith }

quiet_claim : (took : Bool) (worker : ℕ) (attempts : List (ℕ × ℕ)) (job : ℕ) → IsQuietFor took (PutRecords (Claim worker attempts)) job
quiet_claim true worker attempts job = record { beats = refl; beaten = refl; joins = refl }
quiet_claim false worker attempts job = record { beats = refl; beaten = refl; joins = refl }

kept_epoch : (worker : ℕ) (attempts : List (ℕ × ℕ)) (records : Option Records) → epoch_after (Claim worker attempts) records ≡ records_epoch records
kept_epoch worker attempts None = refl
kept_epoch worker attempts (Some records) = refl

-- A published context stays that of the next attempt.
next_claimed : (merge : Operator) (world : World) (specs : ℕ → JobSpec) (records : Records) (entry : Entry) (job : Job) → Body merge world specs → IsQuietFor (stood entry.answer) entry.event job.id → IsIn job (stored_jobs world.store) → JobKept merge world specs job
    → (c : Context) → job.context ≡ Some c → IsClaimed (with_records world records entry).store specs job.id job.attempt c → IsClaimed (with_records world records entry).store specs job.id (job.attempt + 1) c
next_claimed merge world specs records entry job b quiet there kept c is claimed =
    let beat = first_beat job.id world.store.history (kept.fits.context.there.0 (ap is_some is)).1 in
    let low = first_beat_low merge world specs b job there beat.0 beat.1 in
    claimed_stays (with_records world records entry).store specs job.id job.attempt (job.attempt + 1) c
    (origin_stays (world.store.history ++ entry ∷ []) job.id beat.0 job.attempt (job.attempt + 1) (beaten_stays job.id world.store.history entry quiet.beaten ∙ beat.1.first) low (omega arith)) claimed

all_waiting : (world : World) (attempts : List (ℕ × ℕ)) → AllByRecursion (λ a. IsStoredAs world a.0 (λ job. IsTrue (is_waiting job) × (a.1 ≡ job.attempt + 1))) attempts → AllByRecursion (λ a. IsStoredAs world a.0 (λ job. IsTrue (is_open job.status))) attempts
all_waiting world attempts each = all_to _ _ attempts (λ a there waits. stored_to world (λ job. IsTrue (is_waiting job) × (a.1 ≡ job.attempt + 1)) (λ job. IsTrue (is_open job.status)) a.0 (λ job one. waiting_open job one.0) waits) each

-- A lawful claim that takes effect keeps the invariant.
pub claims_keep : (merge : Operator) (worker : ℕ) (attempts : List (ℕ × ℕ)) → StandingPutKeeps merge (Claim worker attempts)
claims_keep merge worker attempts line party answer world epoch jobs took k names fits =
    let entry : Entry = record { line = line; party = party; event = PutRecords (Claim worker attempts); answer = answer } in
    let b = (whole_of merge world k).body in
    let specs = k.stored.replay.specs in
    let these = firsts attempts in
    let f = claimed_by worker fits.unrecorded.moment in
    let waits = each_named world specs merge (λ job. IsTrue (is_open job.status)) attempts b (all_waiting world attempts fits.fits.each) in
    worker_put_keeps merge world fits.unrecorded f these (Claim worker attempts) line party answer epoch jobs took k
    (record { after = refl; unnamed = refl; tables = tt; epoch = kept_epoch worker attempts world.store.records }) fits.makes_jobs fits.makes_epoch
    (record {
      is = claim_change worker fits.unrecorded.moment;
      holds = λ job there named holds. open_reserves job.status (waits job there named);
      apart = name_apart_on f these (stored_jobs world.store) (λ job there named. (refl, λ active. active_if_open job (waits job there named))) b.name_apart;
      own = all_from _ attempts (λ a there.
          let found = stored_as world _ a.0 (all_at _ attempts a fits.fits.each there) in
          let next = found.so.1 in
          own_on world.store.history entry f these (stored_jobs world.store) found.job a b.sound.job_ids (claim_change worker fits.unrecorded.moment) (stored_named merge world specs b found.job a.0 found.stored) (named_in a attempts there) found.stored (omega (arith, next)));
      once = new_claims merge world specs attempts b fits.fits.once fits.fits.each;
      each = λ job there named kept. kept_open merge (with_records world (worker_records world f these) entry) specs Running (Some (record { worker = worker; heartbeat = fits.unrecorded.moment })) (job.attempt + 1) job (waits job there named) refl (λ never. absurd (cc never))
          (next_claimed merge world specs (worker_records world f these) entry job b (quiet_claim (stood answer) worker attempts job.id) there kept)
          (kept_quiet merge world specs (worker_records world f these) entry job b (quiet_claim (stood answer) worker attempts job.id) there kept);
      quiet = λ job other. quiet_claim (stood answer) worker attempts job.id;
      brought = tt;
    })
