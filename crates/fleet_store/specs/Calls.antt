-- The calls that a store in memory remembers, and what they made of a fresh store.
use Rattle.std.specs.Prelude.{List, fold}
use Rattle.fleet_model.specs.Exchanges as model
use Rattle.fleet_model.specs.Store as model_store
use Rattle.step_model.specs.Past.{World, fresh_world}
use Rattle.step_model.specs.Rivals.{after_call}
use Rattle.fleet_history.specs.Entries.{event_of}
use Rattle.fleet_history.specs.Parties.{party_of}
use Rattle.fleet_store.specs.Exchanges.{manifest_put, records_put}
use Rattle.fleet_store.specs.Manifests.{jobs_shown}
use Rattle.fleet_store.specs.declared.call.Call.{Call}
use Rattle.fleet_store.specs.declared.call.Made.{Made}
use Rattle.fleet_store.specs.declared.call.Made.TheVariants.{Plain, DrawsJob, DrawsTable, PutsTable, PutsManifest, PutsRecords, ListsTables, DeletesTable}

-- The model's exchange of a call over this store.
abbrev pub exchange_of : Made → model_store.Store → model.Exchange
exchange_of (Plain event) store = model.Plain (event_of event.value)
exchange_of (DrawsJob moment) store = model.DrawsJob moment
exchange_of (DrawsTable moment) store = model.DrawsTable moment
exchange_of (PutsTable id table) store = model.PutsTable id table.value
exchange_of (PutsManifest version value why jobs) store =
    manifest_put version value.value why.value (jobs_shown jobs) store
exchange_of (PutsRecords version value why) store = records_put version value.value why.value
exchange_of ListsTables store = model.ListsTables
exchange_of (DeletesTable id) store = model.DeletesTable id

-- The world after a call.
abbrev pub after_kept_call : World → Call → World
after_kept_call world call =
    after_call call.line (party_of call.party) (exchange_of call.made world.store) call.strike world

-- The world after these calls of a fresh store.
abbrev pub world_of : List Call → World
world_of calls = fold after_kept_call fresh_world calls
