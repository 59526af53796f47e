-- The calls of the store, with their answers and the stores that they leave. A fault may strike a call.
use Rattle.std.specs.Prelude.{ℕ, ◌+◌, ◌-◌, Bool, true, false, ◌&&◌, ◌==◌, if◌then◌else◌, List, [], ◌∷◌, ◌++◌, length, Option, Some, None}
use Rattle.row_model.specs.Rows.{Row}
use Rattle.fleet_model.specs.Jobs.{Jobs, id_of, table_id_of}
use Rattle.fleet_model.specs.History.{Party, Event, GetManifest, GetRecords, PutTable, PutManifest, PutRecords, DrawJob, DrawTable, ListTables, DeleteTable, ManifestChange, RecordChange, Answer, Done, Absent, Conflict, Lost, Stands, is_get_or_put, GetTable}
use Rattle.fleet_model.specs.Store.{Manifest, Records, Store, held_tables, is_held}

-- A call of the store. `Plain` is a get or a note, which its event describes completely. The other calls
-- draw the next number for an id with this moment, put a value, list the held tables, or delete a table.
pub data Exchange : Type 0 where
  Plain : (event : Event) → Exchange
  DrawsJob : (moment : ℕ) → Exchange
  DrawsTable : (moment : ℕ) → Exchange
  PutsTable : (table : ℕ) → (rows : List Row) → Exchange
  PutsManifest : (version : ℕ) → (change : ManifestChange) → (value : Manifest) → Exchange
  PutsRecords : (version : ℕ) → (change : RecordChange) → (epoch : ℕ) → (jobs : Jobs) → Exchange
  ListsTables : Exchange
  DeletesTable : (table : ℕ) → Exchange

-- The id that the next draw for a job gives at this moment.
abbrev pub next_job_id : ℕ → Store → ℕ
next_job_id moment store = id_of moment (store.jobs_drawn + 1)

-- The id that the next draw for a table gives at this moment.
abbrev pub next_table_id : ℕ → Store → ℕ
next_table_id moment store = table_id_of moment (store.tables_drawn + 1)

-- The event that the history has for a call.
abbrev pub event_of : Exchange → Store → Event
event_of (Plain event) store = event
event_of (DrawsJob moment) store = DrawJob (next_job_id moment store)
event_of (DrawsTable moment) store = DrawTable (next_table_id moment store)
event_of (PutsTable table rows) store = PutTable table (length rows)
event_of (PutsManifest version change value) store = PutManifest change
event_of (PutsRecords version change epoch jobs) store = PutRecords change
event_of ListsTables store = ListTables (length (held_tables store))
event_of (DeletesTable table) store = DeleteTable table

-- The version of the records, or 0 if there are none.
abbrev pub records_version : Option Records → ℕ
records_version None = 0
records_version (Some records) = records.version

-- The answer to a get of the records: their version, or Absent if there are none.
abbrev pub records_answer : Option Records → Answer
records_answer None = Absent
records_answer (Some records) = Done records.version

-- The answer to a put. If its version is the stored one, the put is done and raises that version by one.
-- Otherwise it is in conflict with the stored version.
abbrev pub put_answer : (version there : ℕ) → Answer
put_answer version there = if version == there then Done (there + 1) else Conflict there

-- The answer to a call that no fault strikes. A get of the manifest or the records answers the stored
-- version. A get of a table that is not held answers Absent.
abbrev pub answer_of : Exchange → Store → Answer
answer_of (Plain GetManifest) store = Done store.manifest.version
answer_of (Plain GetRecords) store = records_answer store.records
answer_of (Plain (GetTable table)) store = if is_held store table then Done 0 else Absent
answer_of (Plain _) store = Done 0
answer_of (DrawsJob moment) store = Done 0
answer_of (DrawsTable moment) store = Done 0
answer_of (PutsTable table rows) store = Done 0
answer_of (PutsManifest version change value) store = put_answer version store.manifest.version
answer_of (PutsRecords version change epoch jobs) store = put_answer version (records_version store.records)
answer_of ListsTables store = Done 0
answer_of (DeletesTable table) store = Done 0

-- The store after a call that no fault strikes, without the call's entry in the history.
abbrev pub after_exchange : Exchange → Store → Store
after_exchange (Plain event) store = store
after_exchange (DrawsJob moment) store = record store { jobs_drawn = store.jobs_drawn + 1 }
after_exchange (DrawsTable moment) store = record store { tables_drawn = store.tables_drawn + 1 }
after_exchange (PutsTable table rows) store = record store { tables = store.tables ++ (table, rows) ∷ [] }
after_exchange (PutsManifest version change value) store =
    if version == store.manifest.version then record store { manifest = record value { version = version + 1 } }
    else store
after_exchange (PutsRecords version change epoch jobs) store =
    if version == records_version store.records
    then record store { records = Some (record { version = version + 1; epoch = epoch; jobs = jobs }) }
    else store
after_exchange ListsTables store = store
after_exchange (DeletesTable table) store = record store { deleted = store.deleted ++ table ∷ [] }

-- Adds an entry to the end of the history.
abbrev pub with_entry : (line : ℕ) (party : Party) (event : Event) (answer : Answer) (store : Store) → Store
with_entry line party event answer store = record store {
  history = store.history ++ record { line = line; party = party; event = event; answer = answer } ∷ [];
}

-- The store after a call that no fault strikes, with the call's entry in the history.
abbrev pub after_answered : (line : ℕ) (party : Party) (x : Exchange) (store : Store) → Store
after_answered line party x store =
    with_entry line party (event_of x store) (answer_of x store) (after_exchange x store)

-- A fault waits for the k-th get or put from now on. A put that it strikes stands, which means that it
-- takes effect, or is lost.
pub record Fault : Type 0 where
  pub k : ℕ  -- 1 if the next get or put is struck
  pub stands : Bool

-- True if the fault strikes this event: it is the get or put that the fault waits for.
abbrev pub strikes : Event → Option Fault → Bool
strikes event None = false
strikes event (Some fault) = is_get_or_put event && (fault.k == 1)

-- Brings the fault nearer by one, if the event counts as a get or a put.
abbrev pub one_less : Bool → Fault → Fault
one_less counts fault = record fault { k = if counts then fault.k - 1 else fault.k }

-- The fault after an event that it does not strike, if there is a fault.
abbrev pub waiting_after : Event → Option Fault → Option Fault
waiting_after event None = None
waiting_after event (Some fault) = Some (one_less (is_get_or_put event) fault)

-- True if there is a fault, and a put that it strikes stands.
abbrev pub does_stand : Option Fault → Bool
does_stand None = false
does_stand (Some fault) = fault.stands

-- The answer to a struck call, given its answer without a fault, if the fault lets calls stand. A put that
-- would be in conflict is lost, since it changes nothing.
abbrev pub stands_or_lost : Answer → Answer
stands_or_lost (Conflict version) = Lost
stands_or_lost _ = Stands

-- The store after a struck call. If the flag is true, the call is performed and stands, except that a put
-- in conflict is lost. If the flag is false, the call is lost. In both cases the history has an entry for
-- the call.
abbrev pub struck_by : (stands : Bool) (line : ℕ) (party : Party) (x : Exchange) (store : Store) → Store
struck_by true line party x store =
    with_entry line party (event_of x store) (stands_or_lost (answer_of x store)) (after_exchange x store)
struck_by false line party x store = with_entry line party (event_of x store) Lost store
