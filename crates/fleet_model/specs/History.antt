-- The history of a store records each call, which party made it and how it was answered.
use Rattle.std.specs.Prelude.{ℕ, ℤ, Bool, true, false, List}
use Rattle.fleet_model.specs.Jobs.{JobSpec}
use Rattle.row_model.specs.Ranges.{Range}

-- A party that calls the store: a writer that flushes, a submitter of jobs, a coordinator, a worker, or a
-- sweeper.
pub data Party : Type 0 where
  Writer : Party
  Submitter : Party
  Coordinator : (number : ℕ) → Party
  Worker : (number : ℕ) → Party
  Sweeper : Party

-- A step that a commit takes on the trees, for the job with this id.
pub data Step : Type 0 where
  Join : (job : ℕ) → Step
  Move : (job : ℕ) → Step
  Drain : (job : ℕ) → Step

-- A change of the manifest, which is put for a new epoch, for a flush, or for a commit.
pub data ManifestChange : Type 0 where
  ManifestEpoch : (epoch : ℕ) → ManifestChange
  Flush : (name : ℕ) → (segment : List ℕ) → (floor : ℕ) → (tick : ℤ) → ManifestChange
  Commit : (steps : List Step) → ManifestChange

-- The jobs whose records a poll changes, each by its id.
pub record PollChange : Type 0 where
  pub freed : List ℕ  -- Running jobs that wait for a worker again
  pub completed : List ℕ  -- jobs that were committed, moved or drained
  pub failed : List ℕ  -- jobs that a gate refused
  pub added : List (ℕ × JobSpec)  -- jobs that the scheduler proposed, under new ids
  pub scheduled : List ℕ  -- jobs that were opened and wait for a worker

-- A change of the job records, which are put for a new epoch, for new jobs, or for jobs that a worker or a
-- poll changes. An attempt is named by its job and its number.
pub data RecordChange : Type 0 where
  RecordsEpoch : (epoch : ℕ) → RecordChange
  Submit : (specs : List (ℕ × JobSpec)) → RecordChange
  Claim : (worker : ℕ) → (attempts : List (ℕ × ℕ)) → RecordChange
  Beat : (worker : ℕ) → (attempts : List (ℕ × ℕ)) → RecordChange
  Finish : (worker job attempt : ℕ) → (outputs : List (List ℕ)) → RecordChange
  Release : (worker : ℕ) → (attempts : List (ℕ × ℕ)) → RecordChange
  Polled : (change : PollChange) → RecordChange

-- An event is a call of the store. PutTable has the number of the table's rows, and ListTables the number
-- of the held tables. Plan, Start and Kill are notes. Plan notes the ranges that an attempt begins with,
-- Start a party that comes, and Kill a party that goes.
pub data Event : Type 0 where
  GetManifest : Event
  GetRecords : Event
  GetTable : (table : ℕ) → Event
  PutTable : (table rows : ℕ) → Event
  PutManifest : (change : ManifestChange) → Event
  PutRecords : (change : RecordChange) → Event
  DrawJob : (job : ℕ) → Event
  DrawTable : (table : ℕ) → Event
  Plan : (job attempt : ℕ) → (ranges : List Range) → Event
  Start : (party : Party) → Event
  Kill : (party : Party) → Event
  ListTables : (count : ℕ) → Event
  DeleteTable : (table : ℕ) → Event

-- The answer to a call. Done has the version that was got or put, or 0 if there is none. Absent says that
-- there are no records, or that a table is not held. Conflict has the stored version, if it is not the
-- version of the put. Lost and Stands are faults: a put that is Lost changed nothing, and a put that Stands
-- took effect.
pub data Answer : Type 0 where
  Done : (version : ℕ) → Answer
  Absent : Answer
  Conflict : (version : ℕ) → Answer
  Lost : Answer
  Stands : Answer

-- An entry of the history has the line of the script, the party, the event and its answer.
pub record Entry : Type 0 where
  pub line : ℕ  -- the line of the script, from 1, or 0 outside a script
  pub party : Party
  pub event : Event
  pub answer : Answer

-- True if a put with this answer took effect. Only puts are asked this.
abbrev pub stood : Answer → Bool
stood (Done version) = true
stood Absent = false
stood (Conflict version) = false
stood Lost = false
stood Stands = true

-- True if a fault may strike the event, because it is a get or a put. A list counts as a get, and a
-- deletion as a put. Draws and notes are neither.
abbrev pub is_get_or_put : Event → Bool
is_get_or_put (DrawJob job) = false
is_get_or_put (DrawTable table) = false
is_get_or_put (Plan job attempt ranges) = false
is_get_or_put (Start party) = false
is_get_or_put (Kill party) = false
is_get_or_put _ = true
