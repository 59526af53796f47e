-- The tables of the sources of a job, of the trees of a program.
use Rattle.std.specs.Prelude.{ℕ, List, [], flat_map, option_map, Option, Some, None}
use Rattle.std.specs.Option.{option_to_list}
use Rattle.fleet_tree.specs.Views.{View}
use Rattle.fleet_tree.specs.declared.tree.LsmTreeState.{LsmTreeState}
use Rattle.fleet_jobs.specs.Laws.{view_tables}
use Rattle.fleet_jobs.specs.Taken.{run_with, view_with}
use Rattle.fleet_jobs.specs.declared.source_id.SourceId.{SourceId}
use Rattle.fleet_jobs.specs.declared.source_id.SourceId.TheVariants.{SortedRun as OfRun, SstView}

-- The ids of the tables of these views, or none if there are no views.
abbrev pub tables_if_there : Option (List View) → List ℕ
tables_if_there None = []
tables_if_there (Some views) = view_tables views

-- The id of the table of the flush with this id, if there is such a flush.
abbrev pub flush_table : ℕ → List View → Option ℕ
flush_table id views = option_map (λ view. view.sst.id) (view_with (Some id) views)

-- The views of the run with this id, if there is such a run.
abbrev pub run_views : ℕ → LsmTreeState → Option (List View)
run_views id tree = option_map (λ run. run.views) (run_with (Some id) tree.compacted)

-- The ids of the tables that a source has in the tree. A source that the tree does not have has none.
abbrev pub tables_of : LsmTreeState → SourceId → List ℕ
tables_of tree (SstView id) = option_to_list (flush_table id tree.l0)
tables_of tree (OfRun id) = tables_if_there (run_views id tree)

-- The ids of the tables that the sources have in the tree, source by source.
abbrev pub tables_in : LsmTreeState → List SourceId → List ℕ
tables_in tree sources = flat_map (tables_of tree) sources
