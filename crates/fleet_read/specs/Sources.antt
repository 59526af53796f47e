-- The sources of a scan over a tree of a program.
use Rattle.std.specs.Prelude.{◌≡◌, ◌&&◌, ◌++◌, ◌∷◌, [], ℕ, ℤ, Bool, if◌then◌else◌, List, flat_map, map}
use Rattle.std.specs.Option.{option_to_list}
use Rattle.row_model.specs.Fold.{Operator}
use Rattle.row_model.specs.Ranges.{Range, is_after_start, is_before_end}
use Rattle.row_model.specs.Scans.{scanned_pairs}
use Rattle.fleet_model.specs.Store.{Store}
use Rattle.fleet_model.specs.TreeScans.{stored_scan}
use Rattle.fleet_exec.specs.Ranges.{AreSources, Sources, Tables}
use Rattle.fleet_scan.specs.Sources.{all_rows}
use Rattle.fleet_store.specs.Tables.{held_rows}
use Rattle.fleet_tree.specs.Views.{View}
use Rattle.fleet_tree.specs.declared.run.SortedRun.{SortedRun}
use Rattle.fleet_tree.specs.declared.tree.LsmTreeState.{LsmTreeState}

-- True if the keys of the table, from its first to its last one, meet the range.
abbrev pub meets_range : Range → View → Bool
meets_range range view = is_before_end range.to view.sst.first_key && is_after_start range.from view.sst.last_key

-- The rows of the table that the view names, if it is held and meets the range.
abbrev pub met_tables : Store → Range → View → Tables
met_tables store range view = if meets_range range view then option_to_list (held_rows view.sst.id store) else []

-- The tables that these views name, without those that do not meet the range.
abbrev pub view_tables : Store → Range → List View → Tables
view_tables store range views = flat_map (met_tables store range) views

-- Each flush is a source of its own.
abbrev pub flush_sources : Store → Range → List View → Sources
flush_sources store range views = map (λ view. view_tables store range (view ∷ [])) views

-- The tables of each run are one source.
abbrev pub run_sources : Store → Range → List SortedRun → Sources
run_sources store range runs = map (λ run. view_tables store range run.views) runs

abbrev pub tree_sources : Store → Range → LsmTreeState → Sources
tree_sources store range tree = flush_sources store range tree.l0 ++ run_sources store range tree.compacted

-- A scan of the range may be made over these sources, and answers as one of all rows that the nodes of the
-- segment's tree hold.
pub record AreScanSources (store : Store) (segment : List ℕ) (range : Range) (sources : Sources) : Type 0 where
  pub are : AreSources sources
  pub scans : (merge : Operator) (seq : ℕ) (now : ℤ)
      → scanned_pairs merge range seq now (all_rows sources) ≡ stored_scan merge store segment range seq now
