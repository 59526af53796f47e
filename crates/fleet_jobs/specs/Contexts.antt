-- Contexts of attempts, and how they are seen in the model.
use Rattle.std.specs.Prelude.{◌≡◌, ℕ, List, map, option_map, Option, Some, None, [], ⊤, IfSome}
use Rattle.std.specs.List.{AllZip}
use Rattle.std.specs.Option.{unwrap_or}
use Rattle.row_model.specs.Lists.{IsPrefixOf}
use Rattle.row_model.specs.Ranges.{Range}
use Rattle.fleet_model.specs.Invariants.AttemptsFit.{ContextExtends}
use Rattle.fleet_model.specs.Jobs.{Context, knows_cut}
use Rattle.fleet_range.specs.Keys.{range_of}
use Rattle.fleet_rows.specs.Settings.{settings_of}
use Rattle.fleet_rows.specs.declared.settings.Settings.{Settings}
use Rattle.fleet_plan.specs.Parts.{Part}
use Rattle.fleet_tree.specs.declared.handle.SsTableHandle.{SsTableHandle}
use Rattle.fleet_jobs.specs.Parts.ContextParts.{ContextParts}
use Rattle.fleet_jobs.specs.Workers.{release_of}
use Rattle.fleet_jobs.specs.declared.release.Release.{Release}
use Rattle.fleet_jobs.specs.declared.release.Release.TheVariants.{One, Two}

-- The cut that a context keeps. A worker of release 1 keeps none.
abbrev pub kept_cut : Release → ℕ → Option ℕ
kept_cut One cut = None
kept_cut Two cut = Some cut

-- The release of the worker that made a context with this cut.
abbrev pub release_in : Option ℕ → Release
release_in None = One
release_in (Some cut) = Two

-- The context with these ranges and settings that a worker of this release makes.
abbrev pub context_with : List Part → Settings → Release → ContextParts
context_with ranges settings release = record {
  ranges = ranges;
  floor = settings.floor;
  tick = settings.tick;
  last_run = settings.last_run;
  cut = kept_cut release settings.cut;
}

-- The settings of a context. If it has no cut, the cut is the floor.
abbrev pub settings_in : ContextParts → Settings
settings_in context = record {
  floor = context.floor;
  tick = context.tick;
  last_run = context.last_run;
  cut = unwrap_or context.cut context.floor;
}

-- The ids of the tables with these descriptions.
abbrev pub table_ids : List SsTableHandle → List ℕ
table_ids tables = map (λ table. table.id) tables

-- A range of the model with the ids of its tables.
abbrev pub noted_range : Part → Range × List ℕ
noted_range part = (range_of part.range, table_ids part.output_ssts)

-- The model's context with the contents of a program's context.
abbrev pub context_of : ContextParts → Context
context_of context = record {
  settings = settings_of (settings_in context);
  has_cut = knows_cut (release_of (release_in context.cut));
  ranges = map noted_range context.ranges;
}

-- The ranges of a context, or no ranges if there is no context.
abbrev pub ranges_in : Option ContextParts → List Part
ranges_in None = []
ranges_in (Some context) = context.ranges

-- The later range is the earlier one, and its tables begin with the earlier ones.
pub record IsExtended (earlier later : Part) : Type 0 where
  pub range : later.range ≡ earlier.range
  pub tables : IsPrefixOf earlier.output_ssts later.output_ssts

-- The later context has the settings and the ranges of the earlier one, and each range's tables begin with
-- the earlier ones.
pub record IsContinued (earlier later : ContextParts) : Type 0 where
  pub settings : settings_in later ≡ settings_in earlier
  pub ranges : AllZip IsExtended earlier.ranges later.ranges

-- If there was a context and a new one is given, the new one extends it, as the model says.
abbrev pub FollowsContext : (earlier later : Option ContextParts) → Type 0
FollowsContext earlier None = ⊤
FollowsContext earlier (Some later) =
    IfSome (option_map context_of earlier) (λ context. ContextExtends context (context_of later))
