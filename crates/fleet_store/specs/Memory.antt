-- What a store in memory keeps, and how its calls end.
use Rattle.std.specs.Prelude.{◌≡◌, ◌≢◌, ℕ, ◌+◌, ◌≤◌, ◌==◌, ◌&&◌, if◌then◌else◌, Bool, true, false, IsTrue, List, [], fold, Option, Some, None, Result, Ok, Err, ⊤}
use Rattle.std.specs.BTreeMap.{insert_entry}
use Rattle.std.specs.List.{AllByRecursion}
use Rattle.std.specs.Ordering.{nat_cmp}
use Rattle.std.specs.declared.alloc.AllocError.{AllocError}
use Rattle.row_model.specs.Lists.{Pairs}
use Rattle.fleet_model.specs.Nodes.{Tables, is_among}
use Rattle.fleet_model.specs.Exchanges.{Exchange, Fault, PutsRecords, event_of, records_version}
use Rattle.fleet_model.specs.Store.{Store, held_tables}
use Rattle.step_model.specs.Past.{World}
use Rattle.step_model.specs.Rivals.{Strike, after_call}
use Rattle.step_model.specs.Courses.CourseRuns.{HasRoom}
use Rattle.fleet_rows.specs.declared.errors.SlateDBError.{SlateDBError}
use Rattle.fleet_rows.specs.declared.errors.SlateDBError.TheVariants.{StoreFault, Conflict, Memory}
use Rattle.fleet_tree.specs.declared.manifest.VersionedManifest.{VersionedManifest}
use Rattle.fleet_book.specs.VersionedRecords.{VersionedRecords}
use Rattle.fleet_history.specs.Parties.{party_of}
use Rattle.fleet_history.specs.declared.entry.HistoryEntry.{HistoryEntry}
use Rattle.fleet_history.specs.declared.party.Party.{Party}
use Rattle.fleet_store.specs.Log.{LogParts}
use Rattle.fleet_store.specs.Manifests.{IsManifest}
use Rattle.fleet_store.specs.Records.{AreRecords, jobs_or_none, processed_by}
use Rattle.fleet_store.specs.Strikes.{is_performed, strike_by, waits_after, faults_after}

-- The tables by rising id. A later table replaces an earlier one with its id.
abbrev pub by_id : Tables → Tables
by_id tables = fold (λ held table. insert_entry nat_cmp held table.0 table.1) [] tables

-- What a store in memory shows: what its calls left, the line and the party of later entries, how many faults struck
-- calls, the fault that waits, if one does, and the bytes that its records say each job has processed.
pub record StoreParts : Type 0 where
  pub world : World
  pub history : List HistoryEntry
  pub line : ℕ
  pub party : Party
  pub faults : ℕ
  pub waits : Option Fault
  pub processed : List ℕ

-- What a store in memory shows, given what its calls left and its records.
abbrev pub parts_of : LogParts → Option VersionedRecords → StoreParts
parts_of log records = record {
  world = log.world;
  history = log.history;
  line = log.line;
  party = log.party;
  faults = log.faults;
  waits = log.waits;
  processed = processed_by (jobs_or_none records);
}

-- What a store in memory keeps is what its world has. `many` is the length of its history, which bounds its
-- numbers.
pub record IsMemory (store : Store) (many : ℕ) (manifest : VersionedManifest)
    (records : Option VersionedRecords) (held : Tables) (jobs_drawn tables_drawn : ℕ) : Type 0 where
  pub manifest_is : IsManifest manifest store
  pub records_are : AreRecords records store
  pub held_are : held ≡ by_id (held_tables store)
  pub once : Pairs (λ a b. a.0 ≢ b.0) store.tables
  pub gone : AllByRecursion (λ id. IsTrue (is_among store.tables id)) store.deleted
  pub jobs_are : jobs_drawn ≡ store.jobs_drawn
  pub tables_are : tables_drawn ≡ store.tables_drawn
  pub manifest_low : manifest.id ≤ many + 1
  pub records_low : records_version store.records ≤ many
  pub jobs_low : jobs_drawn ≤ many
  pub tables_low : tables_drawn ≤ many

-- The end of a call, given the fault that struck it, if one did, and its answer without a fault.
abbrev pub ended_of : {A : Type 0} → Result (Strike × Result A SlateDBError) AllocError → Result A SlateDBError
ended_of (Err refusal) = Err Memory
ended_of (Ok (None, answer)) = answer
ended_of (Ok (Some stands, answer)) = Err StoreFault

-- True if the call was made and is performed.
abbrev pub is_done : Result Strike AllocError → Bool
is_done (Ok strike) = is_performed strike
is_done (Err refusal) = false

-- An answer without a fault.
abbrev pub Fits : {A : Type 0} → (A → Type 0) → (ℕ → Type 0) → Result A SlateDBError → Type 0
Fits Gives Refuses (Ok answer) = Gives answer
Fits Gives Refuses (Err (Conflict seen)) = Refuses seen
Fits Gives Refuses (Err _) = ⊥

-- The bytes that the records say after a call. `written` are those of a put of records.
abbrev pub processed_after : Exchange → Strike → Store → (written processed : List ℕ) → List ℕ
processed_after (PutsRecords version change epoch jobs) strike store written processed =
    if is_performed strike && (version == records_version store.records) then written else processed
processed_after _ strike store written processed = processed

-- The call was made, with this fault and this answer without a fault.
pub record IsOutcome {A : Type 0} (x : Exchange) (written : List ℕ) (Gives : A → Type 0)
    (Refuses : ℕ → Type 0) (old new : StoreParts) (made : Strike × Result A SlateDBError) : Type 0 where
  pub strike_is : made.0 ≡ strike_by (event_of x old.world.store) old.waits
  pub world_is : new.world ≡ after_call old.line (party_of old.party) x made.0 old.world
  pub line_is : new.line ≡ old.line
  pub party_is : new.party ≡ old.party
  pub faults_are : new.faults ≡ faults_after made.0 old.faults
  pub waits_is : new.waits ≡ waits_after (event_of x old.world.store) old.waits
  pub processed_is : new.processed ≡ processed_after x made.0 old.world.store written old.processed
  pub room : HasRoom old.world x
  pub fits : Fits Gives Refuses made.1

-- The call was made, or memory ran out and nothing changed.
abbrev pub Makes : {A : Type 0} → (x : Exchange) → (written : List ℕ) → (Gives : A → Type 0) (Refuses : ℕ → Type 0)
    → (old new : StoreParts) → (result : Result (Strike × Result A SlateDBError) AllocError) → Type 0
Makes x written Gives Refuses old new (Err refusal) = new ≡ old
Makes x written Gives Refuses old new (Ok made) = IsOutcome x written Gives Refuses old new made

-- The answer without a fault, if there is one, is so.
abbrev pub Answers : {A : Type 0} → (A → Type 0) → Result (Strike × Result A SlateDBError) AllocError → Type 0
Answers P (Ok (strike, Ok answer)) = P answer
Answers P _ = ⊤
