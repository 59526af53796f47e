use Rattle.std.proofs.Common.{◌≡◌, ℕ, ◌+◌, ◌-◌, ◌≤◌, ◌∷◌, List, length}
use Rattle.fleet_model.specs.Handles.{Handle}
use Rattle.sched_model.specs.Levels as model
use Rattle.fleet_level.specs.Picks.{SamePicks}
use Rattle.fleet_level.specs.Sizes.{HasSizes}
use Rattle.fleet_level.proofs.RunsLeft.{picks_from}
use Rattle.fleet_level.proofs.picking.Picking.pick_runs.Given as goal

-- The run and those after it are left, and the limit is that of the run's place.
abbrev pub invariant-runs : goal.invariant-runs
invariant-runs l =
    let place = length l.fn.runs - (1 + length l.next-iterator) in
    (1 + length l.next-iterator ≤ length l.fn.runs)
    × (l.limit ≡ model.limit l.options place)
    × ((handles : List Handle) (flushes : ℕ → List ℕ) → HasSizes l.sizes handles
    → SamePicks (picks_from l.options handles flushes l.segment place (l.run ∷ l.next-iterator) l.self) (picks_from l.options handles flushes l.segment 0 l.fn.runs l.initial.self))
