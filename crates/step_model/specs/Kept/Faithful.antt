-- The specs by which the history of a store may be replayed.
use Rattle.std.specs.Prelude.{◌≡◌, ℕ, ◌==◌, List, ◌++◌, find, Option, Some, None, option_map}
use Rattle.std.specs.List.{AllByRecursion}
use Rattle.fleet_model.specs.Jobs.{JobSpec}
use Rattle.fleet_model.specs.History.{Entry, Event}
use Rattle.fleet_model.specs.Store.{fresh_store}
use Rattle.fleet_model.specs.Past.Replay.{named_specs, plain_objects, plain_manifest, replayed_objects, Objects}
use Rattle.step_model.specs.Past.{World, manifest_with}

-- Each job that the event submits or adds has this spec.
abbrev pub AgreesWith : (ℕ → JobSpec) → Event → Type 0
AgreesWith specs event = AllByRecursion (λ p. specs p.0 ≡ p.1) (named_specs event)

-- Specs are faithful if the entries that submit or add jobs name these specs, and if the replay by
-- them gives a manifest of the past after each part of the history. Any two faithful specs give the
-- same replay, so it does not matter by which of them something is said of an attempt.
pub record Faithful (world : World) (specs : ℕ → JobSpec) : Type 0 where
  pub agrees : AllByRecursion (λ entry. AgreesWith specs entry.event) world.store.history
  pub manifests : (front back : List Entry) → front ++ back ≡ world.store.history
      → let objects : Objects = replayed_objects world.store.tables specs front (plain_objects fresh_store) in
      option_map plain_manifest (manifest_with objects.manifest.version world.past) ≡ Some objects.manifest

-- The named spec if there is one, and otherwise the given one.
abbrev pub spec_or : JobSpec → Option (ℕ × JobSpec) → JobSpec
spec_or spec None = spec
spec_or spec (Some named) = named.1

-- The specs, with these named ones in place of the others of their jobs.
abbrev pub with_specs : List (ℕ × JobSpec) → (ℕ → JobSpec) → ℕ → JobSpec
with_specs named specs id = spec_or (specs id) (find (λ p. id == p.0) named)
