-- The law on replays: all faithful ones are the same.
use Rattle.std.specs.Prelude.{◌≡◌, ℕ, List, ◌++◌}
use Rattle.fleet_model.specs.Jobs.{JobSpec}
use Rattle.fleet_model.specs.History.{Entry}
use Rattle.fleet_model.specs.Store.{fresh_store}
use Rattle.fleet_model.specs.Past.Replay.{replayed_objects, plain_objects}
use Rattle.step_model.specs.Past.{World}
use Rattle.step_model.specs.Kept.Faithful.{Faithful}

-- Two faithful choices of specs give the same objects after each part of the history.
abbrev pub FaithfulAlike : Type 0
FaithfulAlike = (world : World) (one other : ℕ → JobSpec) → Faithful world one → Faithful world other
    → (front back : List Entry) → front ++ back ≡ world.store.history
    → replayed_objects world.store.tables one front (plain_objects fresh_store)
    ≡ replayed_objects world.store.tables other front (plain_objects fresh_store)
