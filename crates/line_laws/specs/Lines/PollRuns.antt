-- What a poll does that nobody disturbs.
use Rattle.std.specs.Prelude.{◌≡◌, ℕ, ◌+◌, if◌then◌else◌, List, [], ◌∷◌, ◌++◌, map, length, Option, Some}
use Rattle.row_model.specs.Fold.{Operator}
use Rattle.fleet_model.specs.Jobs.{JobSpec, trimmed_jobs, id_of}
use Rattle.fleet_model.specs.History.{Party, Event, GetManifest, GetRecords, DrawJob, PutManifest, PutRecords, Commit, Polled, Answer, Done, Entry}
use Rattle.fleet_model.specs.Work.Records.{Unrecorded, jobs_after}
use Rattle.fleet_model.specs.Store.{Manifest, Records, Store, stored_jobs, records_epoch}
use Rattle.fleet_model.specs.Work.PollStates.{PollInput, PollState}
use Rattle.fleet_model.specs.Work.Polls.{change_of, is_nothing}
use Rattle.fleet_model.specs.Exchanges.{records_version, records_answer}
use Rattle.step_model.specs.Steps.PollSteps.{PollAsk, input_of, records_or_none, first_steps, proposed_specs, last_steps, is_unchanged}
use Rattle.step_model.specs.Past.{World}
use Rattle.step_model.specs.LawfulManifests.{CommitFits}
use Rattle.step_model.specs.Kept.Keeps.{Keeps}

-- ---- what a poll reaches

-- The input of a poll that is asked at this store.
abbrev pub input_at : PollAsk → Store → PollInput
input_at ask store = input_of ask store.tables store.manifest (records_or_none store.records)

-- The state that a poll reaches that frees and commits, adds these specs under the ids that were drawn
-- for them, and opens.
abbrev pub reached_state : PollAsk → Store → List (ℕ × JobSpec) → PollState
reached_state ask store drawn = last_steps ask (input_at ask store) drawn (first_steps ask (input_at ask store))

-- These specs, each with the id that is drawn for it at this moment. So many ids were drawn before.
abbrev pub with_ids : {A : Type 0} → (moment before : ℕ) → List A → List (ℕ × A)
with_ids moment before [] = []
with_ids moment before (spec ∷ specs) = (id_of moment (before + 1), spec) ∷ with_ids moment (before + 1) specs

-- The proposals of the scheduler that a poll takes, up to its capacity, each with the next id.
abbrev pub drawn_at : PollAsk → Store → List (ℕ × JobSpec)
drawn_at ask store =
    with_ids ask.moment store.jobs_drawn
    (proposed_specs ask (input_at ask store) (first_steps ask (input_at ask store)))

-- ---- its calls

-- A call, with its answer.
abbrev pub Answered : Type 0
Answered = Event × Answer

-- The entry of a call that the party made in this line.
abbrev pub entry_of : ℕ → Party → Answered → Entry
entry_of line party call = record { line = line; party = party; event = call.0; answer = call.1 }

-- A poll gets the manifest and the records.
abbrev pub gets_at : Store → List Answered
gets_at store = (GetManifest, Done store.manifest.version) ∷ (GetRecords, records_answer store.records) ∷ []

-- It draws these ids.
abbrev pub draw_of : {A : Type 0} → ℕ × A → Answered
draw_of drawn = (DrawJob drawn.0, Done 0)

-- It puts the manifest only if it changed the trees or the horizon.
abbrev pub manifest_puts : Manifest → PollState → List Answered
manifest_puts manifest p =
    if is_unchanged manifest p then [] else (PutManifest (Commit p.steps), Done (manifest.version + 1)) ∷ []

-- It puts the records only if it changed a job.
abbrev pub records_puts : Option Records → PollState → List Answered
records_puts records p =
    if is_nothing (change_of p) then []
    else (PutRecords (Polled (change_of p)), Done (records_version records + 1)) ∷ []

-- The calls of a poll before its puts: its gets, and then its draws.
abbrev pub calls_before : Store → List (ℕ × JobSpec) → List Answered
calls_before old drawn = gets_at old ++ map draw_of drawn

-- The puts of a poll: the manifest, and then the records.
abbrev pub puts_of : Store → PollState → List Answered
puts_of old p = manifest_puts old.manifest p ++ records_puts old.records p

-- ---- what it leaves

-- The store after a poll's gets and draws.
abbrev pub store_before : (line : ℕ) (party : Party) (old : Store) (drawn : List (ℕ × JobSpec)) → Store
store_before line party old drawn = record old {
  jobs_drawn = old.jobs_drawn + length drawn;
  history = old.history ++ map (entry_of line party) (calls_before old drawn);
}

-- The manifest after a poll that reached this state. It is put only if the poll changed it.
abbrev pub manifest_after : Manifest → PollState → Manifest
manifest_after manifest p =
    if is_unchanged manifest p then manifest
    else record manifest { version = manifest.version + 1; trees = p.trees; horizon = p.horizon }

-- The records after a poll that reached this state. They are put only if the poll changed a job.
abbrev pub records_after : Option Records → PollState → Option Records
records_after records p =
    if is_nothing (change_of p) then records
    else Some
    (record { version = records_version records + 1; epoch = records_epoch records; jobs = trimmed_jobs p.jobs })

-- The store after a poll that reached this state, with the poll's calls in its history. Nothing else
-- changed, and if the poll changed nothing, it put nothing.
abbrev pub store_after : (line : ℕ) (party : Party) (old : Store) (drawn : List (ℕ × JobSpec)) (p : PollState) → Store
store_after line party old drawn p = record old {
  manifest = manifest_after old.manifest p;
  records = records_after old.records p;
  jobs_drawn = old.jobs_drawn + length drawn;
  history =
      (old.history ++ map (entry_of line party) (calls_before old drawn)) ++ map (entry_of line party) (puts_of old p);
}

-- The poll drew the next id for each proposal, reached this state, and left this store.
pub record PollDid (line : ℕ) (party : Party) (ask : PollAsk) (old new : Store) (p : PollState) : Type 0 where
  pub is : p ≡ reached_state ask old (drawn_at ask old)
  pub left : new ≡ store_after line party old (drawn_at ask old) p

-- The commit of a poll that reached this state. It is lawful over the store after the poll's gets and
-- draws. The history there is the old one with these calls, and a front of the new one.
pub record CommitPut (merge : Operator) (line : ℕ) (party : Party) (old : Store) (drawn : List (ℕ × JobSpec))
    (p : PollState) : Type 0 where
  pub at : World
  pub is : at.store ≡ store_before line party old drawn
  pub kept : Keeps merge at
  pub fits : CommitFits party at p.steps (record at.store.manifest { trees = p.trees; horizon = p.horizon })

-- The jobs that a poll put which reached this state: they are what its change makes of the stored ones. A
-- freed job waits for a worker again and keeps its context, and a job that the change does not name stays
-- as it was.
pub record JobsPut (old : Store) (p : PollState) : Type 0 where
  pub unrecorded : Unrecorded
  pub made : trimmed_jobs p.jobs ≡ jobs_after unrecorded (Polled (change_of p)) (stored_jobs old)
