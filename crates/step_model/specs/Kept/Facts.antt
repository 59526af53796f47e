-- What lawful calls keep besides the invariant of the stored objects, and need in order to keep it.
use Rattle.std.specs.Prelude.{◌≡◌, ◌<◌, ◌≤◌, ℕ, List, Some}
use Rattle.std.specs.List.{AllByRecursion}
use Rattle.row_model.specs.Lists.{Pairs}
use Rattle.fleet_model.specs.History.{Entry}
use Rattle.fleet_model.specs.Store.{Manifest, stored_jobs}
use Rattle.step_model.specs.Past.{World, manifest_with}
use Rattle.step_model.specs.Entries.{put_epochs}
use Rattle.step_model.specs.Kept.NamesKept.{DrawsKept, NamesKept, AttemptsKept}
use Rattle.step_model.specs.Kept.TablesKept.{PutsKept, PiecesKept, JobTablesKept}
use Rattle.step_model.specs.Kept.JoinsKept.{JoinsKept}

-- The epochs that were put into the manifest rise, up to the stored epoch at most. So each epoch was
-- put by one coordinator.
pub record EpochsKept (epoch : ℕ) (history : List Entry) : Type 0 where
  pub up_to : AllByRecursion (λ put. put ≤ epoch) (put_epochs history)
  pub rise : Pairs (λ a b. a < b) (put_epochs history)

-- The past has the manifests by rising version, and the stored manifest has the greatest version.
pub record PastKept (manifest : Manifest) (past : List Manifest) : Type 0 where
  pub last : manifest_with manifest.version past ≡ Some manifest
  pub up_to : AllByRecursion (λ other. other.version ≤ manifest.version) past
  pub rise : Pairs (λ a b. a.version < b.version) past

-- All facts, each over the parts of the store that it reads.
pub record StoreFacts (world : World) : Type 0 where
  pub draws : DrawsKept world.store.jobs_drawn world.store.tables_drawn world.store.history
  pub names : NamesKept world
  pub attempts : AttemptsKept world.store.history (stored_jobs world.store)
  pub puts : PutsKept world.store.history world.store.tables
  pub pieces : PiecesKept world.store.history world.past world.store.manifest.trees
  pub tables : JobTablesKept world.store.history world.past (stored_jobs world.store)
  pub joins : JoinsKept world.store.history world.past world.store.manifest.trees (stored_jobs world.store)
  pub epochs : EpochsKept world.store.manifest.epoch world.store.history
  pub past : PastKept world.store.manifest world.past
