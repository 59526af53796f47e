-- The contexts with which attempts begin.
use Rattle.std.specs.Prelude.{◌≡◌, ℕ, List, [], map, Option, Some, None}
use Rattle.row_model.specs.Written.Plan.{planned_ranges}
use Rattle.row_model.specs.Rows.{Row}
use Rattle.fleet_range.specs.Ranges.{Ends}
use Rattle.fleet_rows.specs.declared.settings.Settings.{Settings}
use Rattle.fleet_tree.specs.Views.{View}
use Rattle.fleet_plan.specs.Boundaries.{ranges_of}
use Rattle.fleet_plan.specs.Parts.{Part}
use Rattle.fleet_plan.specs.Plans.{AreOfRows}
use Rattle.fleet_jobs.specs.Parts.ContextParts.{ContextParts}
use Rattle.fleet_jobs.specs.Contexts.{context_with, settings_in}
use Rattle.fleet_jobs.specs.declared.release.Release.{Release}

-- These ranges of keys, without tables.
abbrev pub fresh_parts : List (Ends (List ℕ)) → List Part
fresh_parts ranges = map (λ range. record { range = range; output_ssts = [] }) ranges

-- The context has these settings, and ranges without tables. If the rows of the views are known, these are the ranges
-- that the model plans for them.
pub record IsFresh (views : List View) (most : ℕ) (settings : Settings) (release : Release)
    (context : ContextParts) : Type 0 where
  pub keys : List (Ends (List ℕ))
  pub is : context ≡ context_with (fresh_parts keys) settings release
  pub planned : (rows : View → List Row) → AreOfRows rows views → ranges_of keys ≡ planned_ranges most (map rows views)

-- The context is the published one, as this release keeps it, or a fresh one if none is published.
abbrev pub IsContext : (views : List View) (most : ℕ) (settings : Settings) (release : Release)
    (published : Option ContextParts) (context : ContextParts) → Type 0
IsContext views most settings release None context = IsFresh views most settings release context
IsContext views most settings release (Some published) context =
    context ≡ context_with published.ranges (settings_in published) release
