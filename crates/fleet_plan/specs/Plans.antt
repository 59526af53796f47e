-- The ranges that are planned for tables, given their descriptions.
use Rattle.std.specs.Prelude.{◌≡◌, ℕ, ◌++◌, List, [], ◌∷◌, flat_map, max}
use Rattle.std.specs.List.{AllByRecursion}
use Rattle.row_model.specs.Rows.{Row, IsStrictlyOrdered}
use Rattle.row_model.specs.Ranges.{Range}
use Rattle.row_model.specs.Written.Plan.{max_anchors, sample_anchors, select_boundaries}
use Rattle.row_model.specs.Written.Plan as model
use Rattle.fleet_model.specs.Handles.{describe}
use Rattle.fleet_range.specs.Keys.{range_of}
use Rattle.fleet_tree.specs.Handles.{blocks_of, handle_of}
use Rattle.fleet_tree.specs.Views.{View, key_range}
use Rattle.fleet_tree.specs.declared.run.SortedRun.{SortedRun}

-- The tables of a job: the flushes first, and then the runs, table by table.
abbrev pub views_of : List View → List SortedRun → List View
views_of l0 runs = l0 ++ flat_map (λ run. run.views) runs

-- The anchors of a table, sampled from its description.
abbrev pub view_anchors : View → List model.Anchor
view_anchors view = sample_anchors (blocks_of view.sst.blocks) view.sst.size max_anchors (range_of (key_range view.sst))

abbrev pub greatest_view_size : List View → ℕ
greatest_view_size [] = 0
greatest_view_size (view ∷ views) = max view.sst.size (greatest_view_size views)

-- The ranges for a job over these tables, planned from their anchors and the size of the greatest table.
-- `most` is the greatest number of ranges.
abbrev pub planned_of : ℕ → List View → List Range
planned_of most views = select_boundaries (flat_map view_anchors views) most (greatest_view_size views)

-- The rows are strictly ordered, and the view describes a table of these rows.
pub record IsOfRows (view : View) (rows : List Row) : Type 0 where
  pub ordered : IsStrictlyOrdered rows
  pub described : handle_of view.sst ≡ describe view.sst.id rows

-- Each view describes a table of the rows that are given for it.
abbrev pub AreOfRows : (View → List Row) → List View → Type 0
AreOfRows rows views = AllByRecursion (λ view. IsOfRows view (rows view)) views
