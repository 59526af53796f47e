-- The entries of a history as the model has them.
use Rattle.std.specs.Prelude.{List, map}
use Rattle.fleet_model.specs.History as model
use Rattle.fleet_range.specs.Keys.{range_of}
use Rattle.fleet_history.specs.Parties.{party_of}
use Rattle.fleet_history.specs.Changes.{manifest_change_of, record_change_of}
use Rattle.fleet_history.specs.declared.answer.Answer.{Answer}
use Rattle.fleet_history.specs.declared.answer.Answer.TheVariants.{Done, Absent, Conflict, Lost, Stands}
use Rattle.fleet_history.specs.declared.entry.HistoryEntry.{HistoryEntry}
use Rattle.fleet_history.specs.declared.event.Event.{Event}
use Rattle.fleet_history.specs.declared.event.Event.TheVariants.{GetManifest, GetRecords, GetTable, PutTable, PutManifest, PutRecords, DrawJob, DrawTable, Plan, Start, Kill, ListTables, DeleteTable}

-- The model's event.
abbrev pub event_of : Event → model.Event
event_of GetManifest = model.GetManifest
event_of GetRecords = model.GetRecords
event_of (GetTable table) = model.GetTable table
event_of (PutTable table rows) = model.PutTable table rows
event_of (PutManifest change) = model.PutManifest (manifest_change_of change)
event_of (PutRecords change) = model.PutRecords (record_change_of change)
event_of (DrawJob job) = model.DrawJob job
event_of (DrawTable table) = model.DrawTable table
event_of (Plan job attempt ranges) = model.Plan job attempt (map range_of ranges)
event_of (Start party) = model.Start (party_of party)
event_of (Kill party) = model.Kill (party_of party)
event_of (ListTables count) = model.ListTables count
event_of (DeleteTable table) = model.DeleteTable table

-- The model's answer.
abbrev pub answer_of : Answer → model.Answer
answer_of (Done version) = model.Done version
answer_of Absent = model.Absent
answer_of (Conflict version) = model.Conflict version
answer_of Lost = model.Lost
answer_of Stands = model.Stands

-- The model's entry.
abbrev pub entry_of : HistoryEntry → model.Entry
entry_of entry = record {
  line = entry.line;
  party = party_of entry.party;
  event = event_of entry.event;
  answer = answer_of entry.answer;
}

-- The model's history.
abbrev pub history_of : List HistoryEntry → List model.Entry
history_of entries = map entry_of entries
