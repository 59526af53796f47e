-- When a call of the store is lawful: what the party that makes it has to see to, so that the
-- invariant stays.
use Rattle.std.specs.Prelude.{◌≡◌, ⊤}
use Rattle.row_model.specs.Fold.{Operator}
use Rattle.fleet_model.specs.History.{Party, PutRecords}
use Rattle.fleet_model.specs.Past.Replay.{named_specs}
use Rattle.fleet_model.specs.Exchanges.{Exchange, Plain, DrawsJob, DrawsTable, PutsTable, PutsManifest, PutsRecords, ListsTables, DeletesTable, records_version}
use Rattle.step_model.specs.Past.{World}
use Rattle.step_model.specs.LawfulTables.{PlainFits, DrawFits, TableFits, DeletionFits}
use Rattle.step_model.specs.LawfulManifests.{ManifestFits}
use Rattle.step_model.specs.LawfulRecords.{NamesFit, RecordsFit}

-- A call of the party is lawful by its kind. A put of a version that is no longer stored is refused,
-- so nothing is asked of its value. But its entry names jobs, and these must be fit to be named.
abbrev pub Lawful : (merge : Operator) (party : Party) (world : World) (x : Exchange) → Type 0
Lawful merge party world (Plain event) = PlainFits party world.store event
Lawful merge party world (DrawsJob moment) = DrawFits world.store
Lawful merge party world (DrawsTable moment) = DrawFits world.store
Lawful merge party world (PutsTable table rows) = TableFits party world.store table rows
Lawful merge party world (PutsManifest version change value) = version ≡ world.store.manifest.version
    → ManifestFits party world change value
Lawful merge party world (PutsRecords version change epoch jobs) =
    NamesFit party world (named_specs (PutRecords change))
    × (version ≡ records_version world.store.records → RecordsFit merge party world change epoch jobs)
Lawful merge party world ListsTables = ⊤
Lawful merge party world (DeletesTable table) = DeletionFits party world.store table
