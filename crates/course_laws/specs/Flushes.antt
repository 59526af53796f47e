-- The law on flushes.
use Rattle.std.specs.Prelude.{◌≡◌, ◌≢◌, ◌<◌, ◌≤◌, ℕ, []}
use Rattle.std.specs.List.{AllByRecursion}
use Rattle.row_model.specs.Bounds.{IsInBounds}
use Rattle.fleet_model.specs.Jobs.{drawn_base}
use Rattle.fleet_model.specs.History.{Writer}
use Rattle.step_model.specs.Past.{World}
use Rattle.step_model.specs.Entries.{last_name}
use Rattle.step_model.specs.Rivals.{Caller}
use Rattle.step_model.specs.Kept.Keeps.{Keeps}
use Rattle.step_model.specs.Courses.CourseRuns.{IsLawfulCourse}
use Rattle.step_model.specs.Steps.FlushSteps.{FlushAsk, flush}
use Rattle.step_laws.specs.Runs.{CallsKeep}

-- A flush may be asked for if its name is one of flushes, it has rows, and these are in bounds.
pub record MayAsk (ask : FlushAsk) : Type 0 where
  pub is_name : ask.name < drawn_base
  pub some : ask.rows ≢ []
  pub bounds : AllByRecursion IsInBounds ask.rows

-- A flush is a lawful course over any store that meets the invariant, if every lawful call keeps the
-- invariant. `last` is at least the greatest name that flushes have used.
abbrev pub FlushesAreLawful : Type 0
FlushesAreLawful = (who : Caller) (world : World) (moment retention last : ℕ) (ask : FlushAsk) → CallsKeep who.merge
    → Keeps who.merge world → who.party ≡ Writer → MayAsk ask → last_name world.store.history ≤ last
    → IsLawfulCourse who world (flush moment retention last ask)
