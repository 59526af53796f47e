-- What a history says of parties, draws, jobs, tables, flushes, epochs and attempts.
use Rattle.std.specs.Prelude.{ℕ, Bool, true, false, ◌&&◌, ◌==◌, nat_lt, max, if◌then◌else◌, List, [], ◌∷◌, ◌++◌, map, flat_map, Option, None, Some, option_map}
use Rattle.std.specs.List.{list_any, concat}
use Rattle.fleet_model.specs.Jobs.{contains, drawn_base}
use Rattle.fleet_model.specs.Trees.{job_of}
use Rattle.fleet_model.specs.Work.Records.{firsts}
use Rattle.fleet_model.specs.Past.Replay.{named_specs}
use Rattle.fleet_model.specs.History.{Party, Writer, Submitter, Coordinator, Worker, Sweeper, Event, PutTable, PutManifest, PutRecords, DrawJob, DrawTable, Plan, ManifestEpoch, Flush, Commit, Claim, Beat, Finish, Release, Answer, Done, Entry, stood}

-- Two parties are equal if they have the same kind and the same number.
abbrev pub party_eq : (party other : Party) → Bool
party_eq Writer Writer = true
party_eq Submitter Submitter = true
party_eq Sweeper Sweeper = true
party_eq (Coordinator n) (Coordinator m) = n == m
party_eq (Worker n) (Worker m) = n == m
party_eq _ _ = false

-- The party's last entry in the list, or `last` if the list has none of that party.
abbrev pub last_from : Option Entry → Party → List Entry → Option Entry
last_from last party [] = last
last_from last party (entry ∷ history) =
    last_from (if party_eq party entry.party then Some entry else last) party history

-- The party's last entry in the history.
abbrev pub last_entry : Party → List Entry → Option Entry
last_entry party history = last_from None party history

-- The event of the party's last entry in the history.
abbrev pub last_event : Party → List Entry → Option Event
last_event party history = option_map (λ entry. entry.event) (last_entry party history)

-- The name of the flush whose table the event puts, or 0 if the event puts no flushed table.
abbrev pub name_in : Event → ℕ
name_in (PutTable table rows) = if nat_lt table drawn_base then table else 0
name_in _ = 0

-- The greatest name of a flush whose table was put, whatever the answers to these puts were. It is
-- 0 if there is none.
abbrev pub last_name : List Entry → ℕ
last_name [] = 0
last_name (entry ∷ history) = max (name_in entry.event) (last_name history)

-- ---- kinds of entries

-- True if the party made an entry whose event is of this kind, whatever its answer was.
abbrev pub made_event : (Event → Bool) → Party → List Entry → Bool
made_event is party history = list_any (λ entry. party_eq party entry.party && is entry.event) history

-- True if the party made a put of this kind that took effect.
abbrev pub did_event : (Event → Bool) → Party → List Entry → Bool
did_event is party history =
    list_any (λ entry. party_eq party entry.party && is entry.event && stood entry.answer) history

-- True if a put of this kind took effect, whoever made it.
abbrev pub was_done : (Event → Bool) → List Entry → Bool
was_done is history = list_any (λ entry. is entry.event && stood entry.answer) history

-- ---- draws

-- True if the event draws this id for a job.
abbrev pub is_draw_of : ℕ → Event → Bool
is_draw_of id (DrawJob other) = id == other
is_draw_of id _ = false

-- True if the party drew this id for a job.
abbrev pub drew_job : Party → List Entry → ℕ → Bool
drew_job party history id = made_event (is_draw_of id) party history

-- The id that the event draws for a job, if it draws one.
abbrev pub job_drawn_in : Event → List ℕ
job_drawn_in (DrawJob id) = id ∷ []
job_drawn_in _ = []

-- The ids drawn for jobs, in the order of their draws.
abbrev pub drawn_jobs : List Entry → List ℕ
drawn_jobs history = flat_map (λ entry. job_drawn_in entry.event) history

-- The id that the event draws for a table, if it draws one.
abbrev pub table_drawn_in : Event → List ℕ
table_drawn_in (DrawTable id) = id ∷ []
table_drawn_in _ = []

-- The ids drawn for tables, in the order of their draws.
abbrev pub drawn_tables : List Entry → List ℕ
drawn_tables history = flat_map (λ entry. table_drawn_in entry.event) history

-- ---- names of jobs

-- The jobs whose steps a commit takes.
abbrev pub steps_in : Event → List ℕ
steps_in (PutManifest (Commit steps)) = map job_of steps
steps_in _ = []

-- The jobs that an entry mentions: those that it submits or adds, whatever its answer is, and those
-- whose steps a commit takes, if the commit took effect.
abbrev pub mentioned_in : Entry → List ℕ
mentioned_in entry = firsts (named_specs entry.event) ++ (if stood entry.answer then steps_in entry.event else [])

-- True if an entry mentions this job.
abbrev pub is_mentioned : List Entry → ℕ → Bool
is_mentioned history id = list_any (λ entry. contains (mentioned_in entry) id) history

-- True if a put that submits or adds this job took effect.
abbrev pub was_named : List Entry → ℕ → Bool
was_named history id = was_done (λ event. contains (firsts (named_specs event)) id) history

-- ---- tables and flushes

-- True if the event puts this table.
abbrev pub is_put_of : ℕ → Event → Bool
is_put_of table (PutTable other rows) = table == other
is_put_of table _ = false

-- True if the entry puts this table and no fault struck it.
abbrev pub is_pending_in : ℕ → Option Entry → Bool
is_pending_in table None = false
is_pending_in table (Some entry) = is_put_of table entry.event && is_done entry.answer
  where
    is_done : Answer → Bool
    is_done (Done version) = true
    is_done _ = false

-- True if the writer's last entry is the put of this table. The writer has then still to bring the
-- table to a tree.
abbrev pub is_pending : List Entry → ℕ → Bool
is_pending history table = is_pending_in table (last_entry Writer history)

-- The table that the event puts, if the flag says that the event took effect.
abbrev pub table_put_in : Bool → Event → List ℕ
table_put_in true (PutTable table rows) = table ∷ []
table_put_in _ _ = []

-- The tables whose puts took effect, in the order of these puts.
abbrev pub put_tables : List Entry → List ℕ
put_tables history = flat_map (λ entry. table_put_in (stood entry.answer) entry.event) history

-- The tables that the event brings to the stored objects: the table of a flush, and the outputs of a
-- finish. The flag says that the event took effect.
abbrev pub tables_brought_in : Bool → Event → List ℕ
tables_brought_in true (PutManifest (Flush name segment floor tick)) = name ∷ []
tables_brought_in true (PutRecords (Finish worker job attempt outputs)) = concat outputs
tables_brought_in _ _ = []

-- True if the event flushes this table into a tree.
abbrev pub is_flush_of : ℕ → Event → Bool
is_flush_of name (PutManifest (Flush other segment floor tick)) = name == other
is_flush_of name _ = false

-- True if a flush of this name took effect.
abbrev pub was_flushed : List Entry → ℕ → Bool
was_flushed history name = was_done (is_flush_of name) history

-- ---- epochs

-- True if the event puts this epoch into the manifest.
abbrev pub is_epoch_put : ℕ → Event → Bool
is_epoch_put epoch (PutManifest (ManifestEpoch other)) = epoch == other
is_epoch_put epoch _ = false

-- True if the party put this epoch into the manifest.
abbrev pub did_put_epoch : Party → List Entry → ℕ → Bool
did_put_epoch party history epoch = did_event (is_epoch_put epoch) party history

-- The epoch that the event puts into the manifest, if the flag says that the event took effect.
abbrev pub epoch_in : Bool → Event → List ℕ
epoch_in true (PutManifest (ManifestEpoch epoch)) = epoch ∷ []
epoch_in _ _ = []

-- The epochs that were put into the manifest, in the order of their puts.
abbrev pub put_epochs : List Entry → List ℕ
put_epochs history = flat_map (λ entry. epoch_in (stood entry.answer) entry.event) history

-- ---- attempts

-- The attempts that a worker's change of the records names, each by its job and its number.
abbrev pub attempts_in : Event → List (ℕ × ℕ)
attempts_in (PutRecords (Claim worker attempts)) = attempts
attempts_in (PutRecords (Beat worker attempts)) = attempts
attempts_in (PutRecords (Release worker attempts)) = attempts
attempts_in (PutRecords (Finish worker job attempt outputs)) = (job, attempt) ∷ []
attempts_in _ = []

-- True if the attempt is in the list.
abbrev pub is_in : (job attempt : ℕ) (attempts : List (ℕ × ℕ)) → Bool
is_in job attempt attempts = list_any (λ a. (job == a.0) && (attempt == a.1)) attempts

-- True if the event is a claim of this attempt by this worker.
abbrev pub is_claim_of : (worker job attempt : ℕ) (event : Event) → Bool
is_claim_of worker job attempt (PutRecords (Claim other attempts)) = (worker == other) && is_in job attempt attempts
is_claim_of worker job attempt _ = false

-- True if a claim of this attempt by this worker took effect.
abbrev pub was_claimed : (history : List Entry) (worker job attempt : ℕ) → Bool
was_claimed history worker job attempt = was_done (is_claim_of worker job attempt) history

-- The attempts that the event claims, if the flag says that the event took effect.
abbrev pub attempts_claimed_in : Bool → Event → List (ℕ × ℕ)
attempts_claimed_in true (PutRecords (Claim worker attempts)) = attempts
attempts_claimed_in _ _ = []

-- The attempts whose claims took effect, in the order of these claims.
abbrev pub claimed_attempts : List Entry → List (ℕ × ℕ)
claimed_attempts history = flat_map (λ entry. attempts_claimed_in (stood entry.answer) entry.event) history

-- The attempt whose ranges the event notes, if it notes any.
abbrev pub planned_attempts : Event → List (ℕ × ℕ)
planned_attempts (Plan job attempt ranges) = (job, attempt) ∷ []
planned_attempts _ = []
