-- The law on sweeps.
use Rattle.std.specs.Prelude.{◌≡◌, ℕ, List, true, false}
use Rattle.fleet_model.specs.History.{Sweeper}
use Rattle.step_model.specs.Past.{World}
use Rattle.step_model.specs.Entries.{is_pending}
use Rattle.step_model.specs.Rivals.{Caller}
use Rattle.step_model.specs.Kept.Keeps.{Keeps}
use Rattle.step_model.specs.Courses.CourseRuns.{IsLawfulCourse}
use Rattle.step_model.specs.Steps.SweepSteps.{sweep}

-- A sweep is a lawful course over a store that meets the invariant, if nobody else calls the store
-- and no flush is about to bring a table to a tree.
abbrev pub SweepsAreLawful : Type 0
SweepsAreLawful = (who : Caller) (world : World) (pins : List ℕ) → who.alone ≡ true → who.party ≡ Sweeper
    → Keeps who.merge world → ((table : ℕ) → is_pending world.store.history table ≡ false)
    → IsLawfulCourse who world (sweep pins)
