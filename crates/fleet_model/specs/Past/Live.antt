-- The history alone says which coordinators and workers are live.
use Rattle.std.specs.Prelude.{ℕ, Bool, true, false, not, ◌==◌, nat_lt, if◌then◌else◌, List, [], ◌∷◌, filter}
use Rattle.fleet_model.specs.Nodes.{Tables}
use Rattle.fleet_model.specs.Jobs.{JobSpec}
use Rattle.fleet_model.specs.History.{Party, Writer, Submitter, Coordinator, Worker, Sweeper, Event, GetManifest, GetRecords, PutManifest, ManifestEpoch, Start, Kill, Answer, Done, Absent, Conflict, Lost, Stands, Entry}
use Rattle.fleet_model.specs.Store.{records_epoch, fresh_store}
use Rattle.fleet_model.specs.Past.Replay.{Objects, after_entry, plain_objects}

-- What each entry of the history may change: the stored objects, the epochs that coordinators put, the live
-- coordinators, each with its epoch, and the live workers.
pub record LiveParties : Type 0 where
  pub objects : Objects
  pub epochs : List (ℕ × ℕ)  -- a coordinator's number and the epoch of a put of its that stood, the last put first
  pub coordinators : List (ℕ × ℕ)  -- the number of a coordinator and its epoch
  pub workers : List ℕ

-- True if the answer is a fault.
abbrev pub is_fault : Answer → Bool
is_fault (Done version) = false
is_fault Absent = false
is_fault (Conflict version) = false
is_fault Lost = true
is_fault Stands = true

-- The epoch in the first pair of a coordinator, or 0 if it has no pair.
abbrev pub last_epoch : ℕ → List (ℕ × ℕ) → ℕ
last_epoch n [] = 0
last_epoch n (p ∷ epochs) = if n == p.0 then p.1 else last_epoch n epochs

-- The parties without this coordinator, which is no longer live.
abbrev pub without_coordinator_of : ℕ → LiveParties → LiveParties
without_coordinator_of n s = record s { coordinators = filter (λ c. not (n == c.0)) s.coordinators }

-- The parties after a coordinator gets an object with this epoch. If the epoch is greater than its own, the
-- coordinator is fenced and no longer live.
abbrev pub fenced_by : (n epoch : ℕ) (s : LiveParties) → LiveParties
fenced_by n epoch s = if nat_lt (last_epoch n s.coordinators) epoch then without_coordinator_of n s else s

-- The parties after an event of a coordinator. A get may fence it, a put of an epoch that is done gives it
-- that epoch, and its notes say when it comes and goes.
abbrev pub coordinator_did : (n : ℕ) (event : Event) (answer : Answer) (s : LiveParties) → LiveParties
coordinator_did n GetManifest answer s = fenced_by n s.objects.manifest.epoch s
coordinator_did n GetRecords answer s = fenced_by n (records_epoch s.objects.records) s
coordinator_did n (PutManifest (ManifestEpoch epoch)) (Done version) s = record s { epochs = (n, epoch) ∷ s.epochs }
coordinator_did n (Start party) answer s = record s { coordinators = (n, last_epoch n s.epochs) ∷ s.coordinators }
coordinator_did n (Kill party) answer s = without_coordinator_of n s
coordinator_did n _ answer s = s

-- The parties without this worker, which is no longer live.
abbrev pub without_worker_of : ℕ → LiveParties → LiveParties
without_worker_of n s = record s { workers = filter (λ w. not (n == w)) s.workers }

-- The parties after an event of a worker. Its notes say when it comes and goes.
abbrev pub worker_did : ℕ → Event → LiveParties → LiveParties
worker_did n (Start party) s = record s { workers = n ∷ s.workers }
worker_did n (Kill party) s = without_worker_of n s
worker_did n _ s = s

-- The parties after an event of a party. A coordinator or a worker that meets a fault is no longer live.
-- Other parties are never counted as live.
abbrev pub party_did : (party : Party) (event : Event) (answer : Answer) (s : LiveParties) → LiveParties
party_did Writer event answer s = s
party_did Submitter event answer s = s
party_did Sweeper event answer s = s
party_did (Coordinator n) event answer s =
    if is_fault answer then without_coordinator_of n s else coordinator_did n event answer s
party_did (Worker n) event answer s = if is_fault answer then without_worker_of n s else worker_did n event s

-- The parties after these entries, taken one after the other.
abbrev pub live_from : (tables : Tables) (specs : ℕ → JobSpec) (s : LiveParties) (history : List Entry) → LiveParties
live_from tables specs s [] = s
live_from tables specs s (entry ∷ history) =
    let t = party_did entry.party entry.event entry.answer s in
    live_from tables specs (record t { objects = after_entry tables specs entry t.objects }) history

-- The parties that are live after the whole history.
abbrev pub live_after : Tables → (ℕ → JobSpec) → List Entry → LiveParties
live_after tables specs history =
    live_from tables specs
    (record { objects = plain_objects fresh_store; epochs = []; coordinators = []; workers = [] }) history
