-- The laws on what a coordinator merges as its poll begins.
use Rattle.std.specs.Prelude.{◌≡◌, ℕ, ◌<◌, ◌≤◌, Option, Some, None}
use Rattle.std.specs.Option.{option_or}
use Rattle.row_model.specs.Lists.{Pairs}
use Rattle.fleet_model.specs.Jobs.{Jobs, job_with}
use Rattle.fleet_model.specs.History.{Party, Coordinator, GetManifest}
use Rattle.fleet_model.specs.Store.{stored_jobs, records_epoch}
use Rattle.fleet_model.specs.Work.Parties.{LiveCoordinator}
use Rattle.fleet_model.specs.Exchanges.{Exchange, Plain}
use Rattle.step_model.specs.Past.{World}
use Rattle.step_model.specs.Steps.Merging.{Local, merged_trees, merged_jobs}
use Rattle.step_model.specs.Rivals.{Caller, Rivals, Strike, after_call}
use Rattle.step_model.specs.Kept.Keeps.{Keeps}
use Rattle.step_model.specs.Fits.{JobsMerge, CoordinatorHolds}
use Rattle.step_laws.specs.Runs.{CallsKeep}

-- A coordinator that fits gets the manifest and then the records, and neither has a later epoch.
-- Merging what it got into its local state gives what it got, but for finished local jobs. This is
-- so even if the epoch of the manifest rose between the two gets.
abbrev pub GotObjectsMerge : Type 0
GotObjectsMerge = (who : Caller) (old m r : World) (number epoch : ℕ) (local : Local)
    → CallsKeep who.merge → who.party ≡ Coordinator number → Keeps who.merge old
    → CoordinatorHolds old (record { number = number; epoch = epoch }) (Some local)
    → Rivals who old m → m.store.manifest.epoch ≤ epoch
    → Rivals who (after_call who.line who.party (Plain GetManifest) None m) r
    → records_epoch r.store.records ≤ epoch
    → (merged_trees local.manifest.trees m.store.manifest.trees ≡ m.store.manifest.trees)
    × JobsMerge local.records.jobs (stored_jobs r.store)

-- If the stored jobs merge into the local ones in this way, the merged jobs have the stored job of
-- each id or, if none is stored, the local one.
abbrev pub MergedJobsAreStored : Type 0
MergedJobsAreStored = (local stored : Jobs) (id : ℕ) → Pairs (λ a b. a.id < b.id) stored
    → JobsMerge local stored
    → job_with id (merged_jobs local stored) ≡ option_or (job_with id stored) (job_with id local)

-- A call that leaves both objects keeps what a coordinator holds, whoever makes it.
abbrev pub LooksKeepFit : Type 0
LooksKeepFit = (line : ℕ) (party : Party) (x : Exchange) (strike : Strike) (world : World)
    (c : LiveCoordinator) (local : Option Local)
    → (after_call line party x strike world).store.manifest ≡ world.store.manifest
    → (after_call line party x strike world).store.records ≡ world.store.records
    → CoordinatorHolds world c local → CoordinatorHolds (after_call line party x strike world) c local
