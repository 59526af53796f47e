-- Ranges that are resumed after the tables that were noted for them.
use Rattle.std.specs.Prelude.{◌-◌, List, length, Option, option_map, slice_get}
use Rattle.row_laws.specs.Resume.{Cursor}
use Rattle.fleet_rows.specs.declared.settings.Settings.{Settings}
use Rattle.fleet_tree.specs.declared.handle.SsTableHandle.{SsTableHandle}
use Rattle.fleet_plan.specs.Parts.{Part}
use Rattle.fleet_exec.specs.declared.range_job.RangeJob.{RangeJob}

-- The place of the last row of the table.
abbrev pub place_of : SsTableHandle → Cursor
place_of table = (table.last_key, table.last_seq)

-- The place of the last row of these tables, or None if there is no table.
abbrev pub cursor_of : List SsTableHandle → Option Cursor
cursor_of tables = option_map place_of (slice_get tables (length tables - 1))

-- The range is resumed after the tables that are noted for it.
abbrev pub resumed_range : Settings → Part → RangeJob
resumed_range settings part = record { range = part.range; cursor = cursor_of part.output_ssts; settings = settings }
