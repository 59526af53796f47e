-- The history alone gives the settings of an attempt, except the cut, and its ranges.
use Rattle.std.specs.Prelude.{◌≡◌, ℕ, Bool, false, ◌&&◌, ◌==◌, nat_lt, if◌then◌else◌, List, [], ◌∷◌, map, find, Option, Some, None, option_map}
use Rattle.std.specs.Option.{option_or}
use Rattle.row_model.specs.Ranges.{Range}
use Rattle.row_model.specs.Settings.{Settings}
use Rattle.fleet_model.specs.Nodes.{Tables}
use Rattle.fleet_model.specs.Jobs.{JobSpec, Context}
use Rattle.fleet_model.specs.History.{Party, Worker, Event, GetManifest, PutRecords, Claim, Beat, Plan, Answer, Done, Entry, stood}
use Rattle.fleet_model.specs.Work.Attempts.{claim_settings}
use Rattle.fleet_model.specs.Store.{Store, fresh_store}
use Rattle.fleet_model.specs.Past.Replay.{Objects, after_entry, plain_objects, replayed_objects}

-- The number of an attempt that is given by its job and its number, if there is one.
abbrev pub number_in : Option (ℕ × ℕ) → Option ℕ
number_in None = None
number_in (Some attempt) = Some attempt.1

-- The number of the attempt at this job in the list, if the list names the job.
abbrev pub attempt_number_at : ℕ → List (ℕ × ℕ) → Option ℕ
attempt_number_at job attempts = number_in (find (λ attempt. attempt.0 == job) attempts)

-- The number of the attempt that a heartbeat names for the job. It is None for other jobs and other events.
abbrev pub beaten_in : ℕ → Event → Option ℕ
beaten_in job (PutRecords (Beat worker attempts)) = attempt_number_at job attempts
beaten_in job _ = None

-- The number of the attempt in the first heartbeat that names the job and took effect.
abbrev pub first_beaten : ℕ → List Entry → Option ℕ
first_beaten job [] = None
first_beaten job (entry ∷ history) =
    option_or (if stood entry.answer then beaten_in job entry.event else None) (first_beaten job history)

-- The lower of two attempt numbers, or the first if there is no second.
abbrev pub if_earlier : ℕ → Option ℕ → ℕ
if_earlier attempt None = attempt
if_earlier attempt (Some first) = if nat_lt first attempt then first else attempt

-- The origin of an attempt: the attempt whose claim took its settings and planned its ranges. If the first
-- attempt that a heartbeat named is an earlier one, its context was taken over, and it is the origin.
-- Otherwise the origin is the attempt itself.
abbrev pub origin : (history : List Entry) (job attempt : ℕ) → ℕ
origin history job attempt = if_earlier attempt (first_beaten job history)

-- True if the second number is there and equals the first.
abbrev pub is_same : ℕ → Option ℕ → Bool
is_same n None = false
is_same n (Some m) = n == m

-- The worker that claims this attempt, if the event is such a claim.
abbrev pub claimant_in : (job attempt : ℕ) (event : Event) → Option ℕ
claimant_in job attempt (PutRecords (Claim worker attempts)) =
    if is_same attempt (attempt_number_at job attempts) then Some worker else None
claimant_in job attempt _ = None

-- The worker for which the entry claims this attempt, if it does and took effect.
abbrev pub claimed_in : (job attempt : ℕ) → Entry → Option ℕ
claimed_in job attempt entry = if stood entry.answer then claimant_in job attempt entry.event else None

-- A history that is cut at a claim.
pub record ClaimCut : Type 0 where
  pub until : List Entry  -- the claim is the last of them
  pub worker : ℕ  -- that made the claim
  pub since : List Entry

-- The cut with one more entry in front of the history.
abbrev pub with_first : Entry → ClaimCut → ClaimCut
with_first entry cut = record cut { until = entry ∷ cut.until }

-- The cut at the first entry if a worker claims with it, and otherwise that of the later entries.
abbrev pub cut_here_or : (claimed : Option ℕ) → Entry → (later : List Entry) → Option ClaimCut → Option ClaimCut
cut_here_or (Some worker) entry later cut = Some (record { until = entry ∷ []; worker = worker; since = later })
cut_here_or None entry later cut = option_map (with_first entry) cut

-- The history, cut at the claim of this attempt that took effect. It is None if there is no such claim.
abbrev pub cut_at_claim : (job attempt : ℕ) → List Entry → Option ClaimCut
cut_at_claim job attempt [] = None
cut_at_claim job attempt (entry ∷ history) =
    cut_here_or (claimed_in job attempt entry) entry history (cut_at_claim job attempt history)

-- True if the party is the worker with this number.
abbrev pub is_worker : ℕ → Party → Bool
is_worker n (Worker m) = n == m
is_worker n _ = false

-- The objects that a get of the manifest finds. It is None for any other event, since the claim then ended
-- before its get, and for a get that a fault struck.
abbrev pub objects_found : Event → Answer → Objects → Option Objects
objects_found GetManifest (Done version) o = Some o
objects_found _ _ o = None

-- The objects that are stored at the worker's next entry, if that entry is the get after its claim.
-- Otherwise it is None.
abbrev pub objects_at_get : (tables : Tables) (specs : ℕ → JobSpec) (worker : ℕ) (history : List Entry) (o : Objects)
    → Option Objects
objects_at_get tables specs worker [] o = None
objects_at_get tables specs worker (entry ∷ history) o =
    if is_worker worker entry.party then objects_found entry.event entry.answer o
    else objects_at_get tables specs worker history (after_entry tables specs entry o)

-- The objects that the worker got after its claim, given those at the start of the history. It is None if
-- there is no claim, or if the worker got none.
abbrev pub objects_after_claim : Tables → (ℕ → JobSpec) → (start : Objects) → Option ClaimCut → Option Objects
objects_after_claim tables specs start None = None
objects_after_claim tables specs start (Some cut) =
    objects_at_get tables specs cut.worker cut.since (replayed_objects tables specs cut.until start)

-- The settings of an attempt: those that the claim of its origin took from the manifest that it got. It is
-- None if that claim got none. The history does not give the cut, which is 0 here.
abbrev pub settings_of : Tables → (ℕ → JobSpec) → List Entry → (job attempt : ℕ) → Option Settings
settings_of tables specs history job attempt =
    option_map (λ o. claim_settings o.manifest 0 (specs job))
    (objects_after_claim tables specs (plain_objects fresh_store)
    (cut_at_claim job (origin history job attempt) history))

-- The ranges of the attempt, if the event notes them.
abbrev pub planned_in : (job attempt : ℕ) (event : Event) → Option (List Range)
planned_in job attempt (Plan other number ranges) = if (job == other) && (attempt == number) then Some ranges else None
planned_in job attempt _ = None

-- The ranges in the first note that names the attempt.
abbrev pub noted_plan : (job attempt : ℕ) (history : List Entry) → Option (List Range)
noted_plan job attempt [] = None
noted_plan job attempt (entry ∷ history) =
    option_or (planned_in job attempt entry.event) (noted_plan job attempt history)

-- The ranges of an attempt, which are in the note of its origin.
abbrev pub ranges_of : (history : List Entry) (job attempt : ℕ) → Option (List Range)
ranges_of history job attempt = noted_plan job (origin history job attempt) history

-- The settings with 0 as their cut, to be compared with settings that the history gives.
abbrev pub without_cut : Settings → Settings
without_cut settings = record settings { cut = 0 }

-- A context has the settings, except the cut, and the ranges that the history gives for its attempt.
pub record IsClaimed (store : Store) (specs : ℕ → JobSpec) (job attempt : ℕ) (context : Context) : Type 0 where
  pub settings : settings_of store.tables specs store.history job attempt ≡ Some (without_cut context.settings)
  pub ranges : ranges_of store.history job attempt ≡ Some (map (λ range. range.0) context.ranges)
