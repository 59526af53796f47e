-- What the start of a coordinator leaves where there are no records yet.
use Rattle.std.specs.Prelude.{ℕ, ◌+◌, [], None}
use Rattle.fleet_model.specs.Exchanges.{PutsManifest, PutsRecords}
use Rattle.fleet_model.specs.History.{Coordinator, ManifestEpoch, RecordsEpoch}
use Rattle.step_model.specs.Past.{World}
use Rattle.step_model.specs.Rivals.{after_call}

-- The next epoch of the manifest.
abbrev pub next_epoch : World → ℕ
next_epoch world = world.store.manifest.epoch + 1

-- The world after the coordinator 1 put the next epoch into the manifest.
abbrev pub epoch_world : World → World
epoch_world world =
    after_call 0 (Coordinator 1)
    (PutsManifest world.store.manifest.version (ManifestEpoch (next_epoch world))
    (record world.store.manifest { epoch = next_epoch world })) None world

-- The world after it then put the first records, which have that epoch and no jobs.
abbrev pub records_world : World → World
records_world world = after_call 0 (Coordinator 1)
    (PutsRecords 0 (RecordsEpoch (next_epoch world)) (next_epoch world) []) None (epoch_world world)
