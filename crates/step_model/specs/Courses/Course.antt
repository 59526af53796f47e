-- A step of a party is a course of calls of the store. The calls are made in order. The stores that
-- earlier calls met decide which call comes next.
use Rattle.std.specs.Prelude.{ℕ, ◌==◌, if◌then◌else◌, List, [], ◌∷◌, Option}
use Rattle.row_model.specs.Rows.{Row}
use Rattle.fleet_model.specs.Jobs.{Jobs}
use Rattle.fleet_model.specs.History.{ManifestChange, RecordChange, Event, GetManifest, GetRecords}
use Rattle.fleet_model.specs.Store.{Manifest, Records, Store}
use Rattle.fleet_model.specs.Exchanges.{Exchange, Plain, DrawsJob, DrawsTable, PutsTable, PutsManifest, PutsRecords, next_job_id, next_table_id, records_version}

-- A course ends with an answer, or it makes a call. The store that the call meets decides how the
-- course goes on.
pub data Course (A : Type 0) : Type 0 where
  Ends : (answer : A) → Course A
  Calls : (exchange : Exchange) → (next : Store → Course A) → Course A

-- Two courses, one after the other. The answer of the first one decides which course comes second.
abbrev pub then_course : {A B : Type 0} → Course A → (A → Course B) → Course B
then_course (Ends answer) rest = rest answer
then_course (Calls x next) rest = Calls x (λ met. then_course (next met) rest)

-- ---- calls

-- A course that gets the manifest and goes on with it.
abbrev pub gets_manifest : {A : Type 0} → (Manifest → Course A) → Course A
gets_manifest next = Calls (Plain GetManifest) (λ met. next met.manifest)

-- A course that gets the records and goes on with them. They are None if the store has none.
abbrev pub gets_records : {A : Type 0} → (Option Records → Course A) → Course A
gets_records next = Calls (Plain GetRecords) (λ met. next met.records)

-- A course that makes these calls in order. Each is a get or a note, so its event says all of it.
abbrev pub calls_each : {A : Type 0} → List Event → Course A → Course A
calls_each [] next = next
calls_each (event ∷ events) next = Calls (Plain event) (λ met. calls_each events next)

-- A course that draws an id for a job and goes on with it.
abbrev pub draws_job : {A : Type 0} → ℕ → (ℕ → Course A) → Course A
draws_job moment next = Calls (DrawsJob moment) (λ met. next (next_job_id moment met))

-- A course that draws an id for each element, in order, and goes on with the pairs.
abbrev pub draws_jobs : {A B : Type 0} → ℕ → List B → (List (ℕ × B) → Course A) → Course A
draws_jobs moment [] next = next []
draws_jobs moment (x ∷ xs) next = draws_job moment (λ id. draws_jobs moment xs (λ drawn. next ((id, x) ∷ drawn)))

-- A course that draws an id for a table, puts the table under it, and goes on with the id.
abbrev pub puts_table : {A : Type 0} → ℕ → List Row → (ℕ → Course A) → Course A
puts_table moment rows next =
    Calls (DrawsTable moment)
    (λ met. let table = next_table_id moment met in Calls (PutsTable table rows) (λ after. next table))

-- A course that puts tables in order and goes on with their ids.
abbrev pub puts_tables : {A : Type 0} → ℕ → List (List Row) → (List ℕ → Course A) → Course A
puts_tables moment [] next = next []
puts_tables moment (rows ∷ tables) next =
    puts_table moment rows (λ table. puts_tables moment tables (λ ids. next (table ∷ ids)))

-- A course that puts the tables of each range, range after range, and goes on with the ids of each
-- range.
abbrev pub puts_ranges : {A : Type 0} → ℕ → List (List (List Row)) → (List (List ℕ) → Course A) → Course A
puts_ranges moment [] next = next []
puts_ranges moment (tables ∷ ranges) next =
    puts_tables moment tables (λ ids. puts_ranges moment ranges (λ others. next (ids ∷ others)))

-- A course that puts the manifest for a version. If the stored manifest has this version, the
-- course goes on with `next`. Otherwise it goes on with `refused`, given the stored version.
abbrev pub puts_manifest : {A : Type 0} → (version : ℕ) (change : ManifestChange) (value : Manifest) (next : Course A)
    (refused : ℕ → Course A) → Course A
puts_manifest version change value next refused =
    Calls (PutsManifest version change value)
    (λ met. if version == met.manifest.version then next else refused met.manifest.version)

-- A course that puts the records for the version that was got. If the stored records have this
-- version, the course goes on with `next`. Otherwise it goes on with `refused`, given the stored
-- version.
abbrev pub puts_records : {A : Type 0} → (got : Records) (change : RecordChange) (epoch : ℕ) (jobs : Jobs)
    (next : Course A) (refused : ℕ → Course A) → Course A
puts_records got change epoch jobs next refused =
    Calls (PutsRecords got.version change epoch jobs)
    (λ met. if got.version == records_version met.records then next else refused (records_version met.records))
