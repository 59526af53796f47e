-- What a lawful call leaves: an entry alone, a deletion, a table, a manifest or records.
use Rattle.std.proofs.Common.{◌≡◌, refl, ℕ, ◌+◌, List, [], ◌∷◌, ◌++◌, cond, Bool, true, false, Some, None, length}
use Rattle.std.specs.Prelude.{◌==◌}
use Rattle.std.proofs.lemmas.Bool.Decides.{Decides-eqb}
use Rattle.row_model.specs.Rows.{Row}
use Rattle.row_model.specs.Fold.{Operator}
use Rattle.fleet_model.specs.Jobs.{Jobs}
use Rattle.fleet_model.specs.History.{Party, Event, GetManifest, GetRecords, GetTable, Plan, Start, Kill, PutTable, PutManifest, PutRecords, ManifestChange, RecordChange, Answer, Done, Conflict, Lost, Stands, Entry, stood, DeleteTable, DrawJob, DrawTable}
use Rattle.fleet_model.specs.Past.Replay.{named_specs}
use Rattle.fleet_model.specs.Store.{Manifest, Records}
use Rattle.fleet_model.specs.Exchanges.{Exchange, Plain, DrawsJob, DrawsTable, PutsTable, PutsManifest, PutsRecords, ListsTables, DeletesTable, with_entry, event_of, answer_of, stands_or_lost, records_version, next_job_id, next_table_id}
use Rattle.step_model.specs.Past.{World, world_after}
use Rattle.step_model.specs.LawfulTables.{PlainFits, TableFits, DeletionFits}
use Rattle.step_model.specs.LawfulManifests.{ManifestFits}
use Rattle.step_model.specs.LawfulRecords.{NamesFit, RecordsFit}
use Rattle.step_model.specs.Lawful.{Lawful}
use Rattle.step_model.specs.Rivals.{Strike, MayStrike, after_call}
use Rattle.step_laws.proofs.Mute.{IsMute, mute_event, mute_refused}
use Rattle.step_laws.proofs.MuteBodies.{entered}
use Rattle.step_laws.proofs.Quiet.{world_entered}
use Rattle.step_laws.proofs.TableBodies.{with_table}
use Rattle.step_laws.proofs.ManifestBodies.{with_manifest, world_with_manifest}
use Rattle.step_laws.proofs.RecordsBodies.{with_records, world_with_records}

-- The stored manifest after a put.
abbrev pub put_manifest : World → Manifest → Manifest
put_manifest world value = record value { version = world.store.manifest.version + 1 }

-- The stored records after a put.
abbrev pub put_records : World → ℕ → Jobs → Records
put_records world epoch jobs = record { version = records_version world.store.records + 1; epoch = epoch; jobs = jobs }

-- What a call leaves, and why it might.
pub data Outcome (merge : Operator) (party : Party) (world : World) (x : Exchange) (new : World) : Type 0 where
  Notes : (jobs_drawn tables_drawn : ℕ) (entry : Entry) → IsMute (stood entry.answer) entry.event → new ≡ entered world world.store.deleted jobs_drawn tables_drawn entry → Outcome merge party world x new
  Deletes : (table : ℕ) (entry : Entry) → x ≡ DeletesTable table → IsMute (stood entry.answer) entry.event → DeletionFits party world.store table
      → new ≡ entered world (world.store.deleted ++ table ∷ []) world.store.jobs_drawn world.store.tables_drawn entry → Outcome merge party world x new
  NewTable : (table : ℕ) (rows : List Row) (entry : Entry) → IsMute (stood entry.answer) entry.event → TableFits party world.store table rows
      → new ≡ entered (with_table world (table, rows)) world.store.deleted world.store.jobs_drawn world.store.tables_drawn entry → Outcome merge party world x new
  NewManifest : (version : ℕ) (change : ManifestChange) (value : Manifest) (line : ℕ) (answer : Answer) → stood answer ≡ true → x ≡ PutsManifest version change value → ManifestFits party world change value
      → new ≡ with_manifest world (put_manifest world value) (record { line = line; party = party; event = PutManifest change; answer = answer }) → Outcome merge party world x new
  NewRecords : (change : RecordChange) (epoch : ℕ) (jobs : Jobs) (line : ℕ) (answer : Answer) → stood answer ≡ true → NamesFit party world (named_specs (PutRecords change)) → RecordsFit merge party world change epoch jobs
      → new ≡ with_records world (put_records world epoch jobs) (record { line = line; party = party; event = PutRecords change; answer = answer }) → Outcome merge party world x new

-- ---- an entry alone

noted : (merge : Operator) (party : Party) (world : World) (x : Exchange) (entry : Entry) → IsMute (stood entry.answer) entry.event
    → Outcome merge party world x (world_after world (record world.store { history = world.store.history ++ entry ∷ [] }))
noted merge party world x entry mute = Notes world.store.jobs_drawn world.store.tables_drawn entry mute (world_entered world world.store.deleted world.store.jobs_drawn world.store.tables_drawn entry)

plain : (merge : Operator) (party : Party) (world : World) (event : Event) (line : ℕ) (answer : Answer) → PlainFits party world.store event → Outcome merge party world (Plain event) (world_after world (with_entry line party event answer world.store))
plain merge party world GetManifest line answer fits = noted merge party world _ (record { line = line; party = party; event = GetManifest; answer = answer }) (mute_event (stood answer) GetManifest refl)
plain merge party world GetRecords line answer fits = noted merge party world _ (record { line = line; party = party; event = GetRecords; answer = answer }) (mute_event (stood answer) GetRecords refl)
plain merge party world (GetTable table) line answer fits = noted merge party world _ (record { line = line; party = party; event = GetTable table; answer = answer }) (mute_event (stood answer) (GetTable table) refl)
plain merge party world (Plan job attempt ranges) line answer fits = noted merge party world _ (record { line = line; party = party; event = Plan job attempt ranges; answer = answer }) (mute_event (stood answer) (Plan job attempt ranges) refl)
plain merge party world (Start other) line answer fits = noted merge party world _ (record { line = line; party = party; event = Start other; answer = answer }) (mute_event (stood answer) (Start other) refl)
plain merge party world (Kill other) line answer fits = noted merge party world _ (record { line = line; party = party; event = Kill other; answer = answer }) (mute_event (stood answer) (Kill other) refl)
plain merge party world event line answer fits = absurd fits

-- ---- puts of versions

manifest_put : (world : World) (line : ℕ) (party : Party) (change : ManifestChange) (answer : Answer) (version : ℕ) (value : Manifest) → version ≡ world.store.manifest.version
    → world_after world (with_entry line party (PutManifest change) answer (record world.store { manifest = record value { version = version + 1 } }))
    ≡ with_manifest world (put_manifest world value) (record { line = line; party = party; event = PutManifest change; answer = answer })
manifest_put world line party change answer version value same =
    rw same (world_with_manifest world (put_manifest world value) (record { line = line; party = party; event = PutManifest change; answer = answer }) refl)

manifests : (merge : Operator) (party : Party) (world : World) (line version : ℕ) (change : ManifestChange) (value : Manifest) (seen : Answer → Answer) → ((n : ℕ) → stood (seen (Done n)) ≡ true) → ((n : ℕ) → stood (seen (Conflict n)) ≡ false)
    → Lawful merge party world (PutsManifest version change value) → (b : Bool) → (version == world.store.manifest.version) ≡ b
    → Outcome merge party world (PutsManifest version change value)
    (world_after world (with_entry line party (PutManifest change) (seen (cond b (Done (world.store.manifest.version + 1)) (Conflict world.store.manifest.version))) (cond b (record world.store { manifest = record value { version = version + 1 } }) world.store)))
manifests merge party world line version change value seen done conflict lawful true e =
    let same = (Decides-eqb version world.store.manifest.version).0 e in
    NewManifest version change value line (seen (Done (world.store.manifest.version + 1))) (done _) refl (lawful same) (manifest_put world line party change _ version value same)
manifests merge party world line version change value seen done conflict lawful false e =
    noted merge party world _ (record { line = line; party = party; event = PutManifest change; answer = seen (Conflict world.store.manifest.version) }) (rw (conflict world.store.manifest.version) (mute_refused (PutManifest change)))

records_put : (world : World) (line : ℕ) (party : Party) (change : RecordChange) (answer : Answer) (version epoch : ℕ) (jobs : Jobs) → version ≡ records_version world.store.records
    → world_after world (with_entry line party (PutRecords change) answer (record world.store { records = Some (record { version = version + 1; epoch = epoch; jobs = jobs }) }))
    ≡ with_records world (put_records world epoch jobs) (record { line = line; party = party; event = PutRecords change; answer = answer })
records_put world line party change answer version epoch jobs same =
    rw same (world_with_records world (put_records world epoch jobs) (record { line = line; party = party; event = PutRecords change; answer = answer }))

recordings : (merge : Operator) (party : Party) (world : World) (line version : ℕ) (change : RecordChange) (epoch : ℕ) (jobs : Jobs) (seen : Answer → Answer) → ((n : ℕ) → stood (seen (Done n)) ≡ true) → ((n : ℕ) → stood (seen (Conflict n)) ≡ false)
    → Lawful merge party world (PutsRecords version change epoch jobs) → (b : Bool) → (version == records_version world.store.records) ≡ b
    → Outcome merge party world (PutsRecords version change epoch jobs)
    (world_after world (with_entry line party (PutRecords change) (seen (cond b (Done (records_version world.store.records + 1)) (Conflict (records_version world.store.records))))
    (cond b (record world.store { records = Some (record { version = version + 1; epoch = epoch; jobs = jobs }) }) world.store)))
recordings merge party world line version change epoch jobs seen done conflict lawful true e =
    let same = (Decides-eqb version (records_version world.store.records)).0 e in
    NewRecords change epoch jobs line (seen (Done (records_version world.store.records + 1))) (done _) lawful.0 (lawful.1 same) (records_put world line party change _ version epoch jobs same)
recordings merge party world line version change epoch jobs seen done conflict lawful false e =
    noted merge party world _ (record { line = line; party = party; event = PutRecords change; answer = seen (Conflict (records_version world.store.records)) }) (rw (conflict (records_version world.store.records)) (mute_refused (PutRecords change)))

-- ---- all calls

-- A lawful call, struck or not, has one of five outcomes: a mute entry, a deletion, a table, a manifest, or records.
pub outcome : (merge : Operator) (x : Exchange) (line : ℕ) (party : Party) (strike : Strike) (world : World) → Lawful merge party world x → MayStrike x world strike → Outcome merge party world x (after_call line party x strike world)
outcome merge (Plain event) line party None world lawful may = plain merge party world event line (answer_of (Plain event) world.store) lawful
outcome merge (Plain event) line party (Some true) world lawful may = plain merge party world event line (stands_or_lost (answer_of (Plain event) world.store)) lawful
outcome merge (Plain event) line party (Some false) world lawful may = plain merge party world event line Lost lawful
outcome merge (DrawsJob moment) line party None world lawful may =
    let entry : Entry = record { line = line; party = party; event = DrawJob (next_job_id moment world.store); answer = Done 0 } in
    Notes (world.store.jobs_drawn + 1) world.store.tables_drawn entry (mute_event true entry.event refl) (world_entered world world.store.deleted (world.store.jobs_drawn + 1) world.store.tables_drawn entry)
outcome merge (DrawsJob moment) line party (Some stands) world lawful may = absurd (cc may)
outcome merge (DrawsTable moment) line party None world lawful may =
    let entry : Entry = record { line = line; party = party; event = DrawTable (next_table_id moment world.store); answer = Done 0 } in
    Notes world.store.jobs_drawn (world.store.tables_drawn + 1) entry (mute_event true entry.event refl) (world_entered world world.store.deleted world.store.jobs_drawn (world.store.tables_drawn + 1) entry)
outcome merge (DrawsTable moment) line party (Some stands) world lawful may = absurd (cc may)
outcome merge (PutsTable table rows) line party None world lawful may =
    let entry : Entry = record { line = line; party = party; event = PutTable table (length rows); answer = Done 0 } in
    NewTable table rows entry (mute_event true entry.event refl) lawful (world_entered (with_table world (table, rows)) world.store.deleted world.store.jobs_drawn world.store.tables_drawn entry)
outcome merge (PutsTable table rows) line party (Some true) world lawful may =
    let entry : Entry = record { line = line; party = party; event = PutTable table (length rows); answer = Stands } in
    NewTable table rows entry (mute_event true entry.event refl) lawful (world_entered (with_table world (table, rows)) world.store.deleted world.store.jobs_drawn world.store.tables_drawn entry)
outcome merge (PutsTable table rows) line party (Some false) world lawful may = noted merge party world _ (record { line = line; party = party; event = PutTable table (length rows); answer = Lost }) (mute_refused (PutTable table (length rows)))
outcome merge (PutsManifest version change value) line party None world lawful may = manifests merge party world line version change value (λ answer. answer) (λ n. refl) (λ n. refl) lawful (version == world.store.manifest.version) refl
outcome merge (PutsManifest version change value) line party (Some true) world lawful may = manifests merge party world line version change value stands_or_lost (λ n. refl) (λ n. refl) lawful (version == world.store.manifest.version) refl
outcome merge (PutsManifest version change value) line party (Some false) world lawful may = noted merge party world _ (record { line = line; party = party; event = PutManifest change; answer = Lost }) (mute_refused (PutManifest change))
outcome merge (PutsRecords version change epoch jobs) line party None world lawful may = recordings merge party world line version change epoch jobs (λ answer. answer) (λ n. refl) (λ n. refl) lawful (version == records_version world.store.records) refl
outcome merge (PutsRecords version change epoch jobs) line party (Some true) world lawful may = recordings merge party world line version change epoch jobs stands_or_lost (λ n. refl) (λ n. refl) lawful (version == records_version world.store.records) refl
outcome merge (PutsRecords version change epoch jobs) line party (Some false) world lawful may = noted merge party world _ (record { line = line; party = party; event = PutRecords change; answer = Lost }) (mute_refused (PutRecords change))
outcome merge ListsTables line party None world lawful may =
    let entry : Entry = record { line = line; party = party; event = event_of ListsTables world.store; answer = Done 0 } in noted merge party world _ entry (mute_event true entry.event refl)
outcome merge ListsTables line party (Some true) world lawful may =
    let entry : Entry = record { line = line; party = party; event = event_of ListsTables world.store; answer = Stands } in noted merge party world _ entry (mute_event true entry.event refl)
outcome merge ListsTables line party (Some false) world lawful may =
    let entry : Entry = record { line = line; party = party; event = event_of ListsTables world.store; answer = Lost } in noted merge party world _ entry (mute_event false entry.event refl)
outcome merge (DeletesTable table) line party None world lawful may =
    let entry : Entry = record { line = line; party = party; event = DeleteTable table; answer = Done 0 } in
    Deletes table entry refl (mute_event true entry.event refl) lawful (world_entered world (world.store.deleted ++ table ∷ []) world.store.jobs_drawn world.store.tables_drawn entry)
outcome merge (DeletesTable table) line party (Some true) world lawful may =
    let entry : Entry = record { line = line; party = party; event = DeleteTable table; answer = Stands } in
    Deletes table entry refl (mute_event true entry.event refl) lawful (world_entered world (world.store.deleted ++ table ∷ []) world.store.jobs_drawn world.store.tables_drawn entry)
outcome merge (DeletesTable table) line party (Some false) world lawful may = noted merge party world _ (record { line = line; party = party; event = DeleteTable table; answer = Lost }) (mute_refused (DeleteTable table))
