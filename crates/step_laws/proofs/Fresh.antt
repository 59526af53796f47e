-- A fresh store meets the invariant and the facts.
use Rattle.std.proofs.Common.{◌≡◌, refl, ℕ, List, [], ◌∷◌, ◌++◌, lit≤, Some, None}
use Rattle.std.specs.Prelude.{option_map}
use Rattle.row_model.specs.Fold.{Operator}
use Rattle.fleet_model.specs.History.{Entry}
use Rattle.fleet_model.specs.Store.{fresh_store}
use Rattle.fleet_model.specs.Past.Replay.{Objects, replayed_objects, plain_objects, plain_manifest}
use Rattle.fleet_model.specs.Jobs.{JobSpec}
use Rattle.fleet_model.specs.Invariants.Invariant.{StoreInvariant}
use Rattle.fleet_model.proofs.Begins.{fresh_stored}
use Rattle.step_model.specs.Past.{fresh_world, manifest_with}
use Rattle.step_model.specs.Kept.Keeps.{Keeps}

no_specs : ℕ → JobSpec
no_specs job = record { segment = []; sources = []; destination = None }

manifests : (front back : List Entry) → front ++ back ≡ []
    → let objects : Objects = replayed_objects [] no_specs front (plain_objects fresh_store) in option_map plain_manifest (manifest_with objects.manifest.version (fresh_store.manifest ∷ [])) ≡ Some objects.manifest
manifests [] back none = refl
manifests (x ∷ front) back none = absurd (cc none)

-- A fresh store meets the invariant.
stored : (merge : Operator) → StoreInvariant merge fresh_store
stored merge = record {
  sound = (fresh_stored merge).sound;
  replay = record { specs = no_specs; agrees = tt; objects = refl };
  trees = (fresh_stored merge).trees;
  held_once = tt;
  sources = tt;
  contexts = tt;
  outputs = tt;
  tables = (fresh_stored merge).tables;
  reads = (fresh_stored merge).reads;
}

-- A fresh store with its past meets the invariant and the facts.
pub fresh_keeps : (merge : Operator) → Keeps merge fresh_world
unfolding stored
fresh_keeps merge = record {
  stored = stored merge;
  faithful = record { agrees = tt; manifests = λ front back none. manifests front back none };
  facts = record {
    draws = record { jobs_rise = tt; jobs_counted = tt; tables_rise = tt; tables_counted = tt; few = lit≤ tt };
    names = record { drawn = tt; named = tt; specs = λ specs faithful. tt; trimmed_already = refl };
    attempts = record { up_to = tt; planned = tt; once = tt; unbeaten = tt; unleased = tt };
    puts = record { known = tt; put = tt; once = tt; brought = tt };
    pieces = record { pieces = (tt, tt); flushes = (tt, tt); watermarks = (tt, tt); apart = (tt, tt) };
    tables = record { sources = tt; apart = tt; drawn = tt; unused = tt };
    joins = record { named = tt; late = tt; stand = tt };
    epochs = record { up_to = tt; rise = tt };
    past = record { last = refl; up_to = (lit≤ tt, tt); rise = (tt, tt) };
  };
}
