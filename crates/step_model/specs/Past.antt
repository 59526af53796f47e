-- A store together with its past, as laws see it. The past has each manifest that was ever
-- stored in it.
use Rattle.std.specs.Prelude.{ℕ, ◌==◌, if◌then◌else◌, List, [], ◌∷◌, ◌++◌, find, Option}
use Rattle.fleet_model.specs.Store.{Manifest, Store, fresh_store}

-- A store together with its past manifests, by rising version. The past stands beside the store
-- because the history keeps no manifest: of a commit it has the ids of the jobs alone.
pub record World : Type 0 where
  pub store : Store
  pub past : List Manifest

-- A fresh store has stored one manifest.
abbrev pub fresh_world : World
fresh_world = record { store = fresh_store; past = fresh_store.manifest ∷ [] }

-- The past after a call, given the store before and after it. It grows by the manifest that is
-- stored now, if that manifest has another version than the one before.
abbrev pub past_after : (old new : Store) (past : List Manifest) → List Manifest
past_after old new past = if old.manifest.version == new.manifest.version then past else past ++ new.manifest ∷ []

-- The world after a call that left this store.
abbrev pub world_after : World → Store → World
world_after world store = record { store = store; past = past_after world.store store world.past }

-- The manifest of the past with this version, if there is one.
abbrev pub manifest_with : ℕ → List Manifest → Option Manifest
manifest_with version past = find (λ manifest. version == manifest.version) past
