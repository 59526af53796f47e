-- The tables that a job takes from its tree.
use Rattle.std.proofs.Common.{sym, ap, ℕ, List, [], ◌∷◌, Bool, true, false, ◌&&◌, cond}
use Rattle.std.specs.Prelude.{◌==◌, bytes_eq, find, flat_map, option_map, Option, Some, None}
use Rattle.std.specs.List.{AllByRecursion}
use Rattle.std.specs.Option.{option_to_list}
use Rattle.std.specs.Ordering.{is_lt}
use Rattle.row_model.specs.Rows.{key_cmp}
use Rattle.fleet_model.specs.Handles.{Handle}
use Rattle.fleet_model.specs.Nodes.{Tables}
use Rattle.fleet_model.specs.Work.Gates.{is_nonempty}
use Rattle.fleet_tree.specs.Trees.{trees_with_prefix}
use Rattle.fleet_tree.specs.Views.{View}
use Rattle.fleet_tree.specs.declared.manifest.ManifestCore.{ManifestCore}
use Rattle.fleet_tree.specs.declared.run.SortedRun.{SortedRun}
use Rattle.fleet_tree.specs.declared.tree.LsmTreeState.{LsmTreeState}
use Rattle.fleet_jobs.specs.Laws.{EndsFit}
use Rattle.fleet_jobs.specs.Moves.{are_disjoint, by_start, moved_run, put_view}
use Rattle.fleet_jobs.specs.Sources.{run_id_of, view_id_of}
use Rattle.fleet_jobs.specs.Specs.{segment_of, sources_of}
use Rattle.fleet_jobs.specs.Taken.{l0_in, named_runs, named_views, run_with, runs_in, taken_tables, taken_views, taken_runs, view_with}
use Rattle.fleet_jobs.specs.declared.source_id.SourceId.{SourceId}
use Rattle.fleet_jobs.specs.declared.spec.CompactionSpec.{CompactionSpec}
use Rattle.fleet_poll.specs.Seen.{TreesMatch, ViewMatches, ViewsMatch, views_of}
use Rattle.fleet_poll.proofs.MatchedTables.{all_back, all_both, all_front, output_views}

module _ (tables : Tables) where
  abbrev RunsMatch : List SortedRun → Type 0
  RunsMatch runs = AllByRecursion (λ run. ViewsMatch tables run.views) runs

  runs_matched : (runs : List SortedRun) → ViewsMatch tables (flat_map (λ run. run.views) runs) → RunsMatch runs
  runs_matched [] matched = tt
  runs_matched (run ∷ runs) matched =
      (all_front (ViewMatches tables) run.views (flat_map (λ r. r.views) runs) matched, runs_matched runs (all_back (ViewMatches tables) run.views (flat_map (λ r. r.views) runs) matched))

  -- ---- what is found

  -- If the tables of the trees match those that were put, so do those of the tree that is found.
  tree_found : (p : List ℕ × LsmTreeState → Bool) (trees : List (List ℕ × LsmTreeState)) → AllByRecursion (λ s. ViewsMatch tables (views_of s.1)) trees
      → ViewsMatch tables (l0_in (option_map (λ s. s.1) (find p trees))) × RunsMatch (runs_in (option_map (λ s. s.1) (find p trees)))
  tree_found p [] matched = (tt, tt)
  tree_found p (s ∷ trees) matched = by (p s) (tree_found p trees matched.1)
    where
      by : (b : Bool) → ViewsMatch tables (l0_in (option_map (λ s. s.1) (find p trees))) × RunsMatch (runs_in (option_map (λ s. s.1) (find p trees)))
          → ViewsMatch tables (l0_in (option_map (λ s. s.1) (cond b (Some s) (find p trees)))) × RunsMatch (runs_in (option_map (λ s. s.1) (cond b (Some s) (find p trees))))
      by true rest = (
        all_front (ViewMatches tables) s.1.l0 (flat_map (λ run. run.views) s.1.compacted) matched.0,
        runs_matched s.1.compacted (all_back (ViewMatches tables) s.1.l0 (flat_map (λ run. run.views) s.1.compacted) matched.0),
      )
      by false rest = rest

  view_found : (id : Option ℕ) (views : List View) → ViewsMatch tables views → ViewsMatch tables (option_to_list (view_with id views))
  view_found None views matched = tt
  view_found (Some id) [] matched = tt
  view_found (Some id) (view ∷ views) matched = by (view.id == id) (view_found (Some id) views matched.1)
    where
      by : (b : Bool) → ViewsMatch tables (option_to_list (view_with (Some id) views)) → ViewsMatch tables (option_to_list (cond b (Some view) (view_with (Some id) views)))
      by true rest = (matched.0, tt)
      by false rest = rest

  run_found : (id : Option ℕ) (runs : List SortedRun) → RunsMatch runs → RunsMatch (option_to_list (run_with id runs))
  run_found None runs matched = tt
  run_found (Some id) [] matched = tt
  run_found (Some id) (run ∷ runs) matched = by (run.id == id) (run_found (Some id) runs matched.1)
    where
      by : (b : Bool) → RunsMatch (option_to_list (run_with (Some id) runs)) → RunsMatch (option_to_list (cond b (Some run) (run_with (Some id) runs)))
      by true rest = (matched.0, tt)
      by false rest = rest

  views_named : (sources : List SourceId) (views : List View) → ViewsMatch tables views → ViewsMatch tables (named_views sources views)
  views_named [] views matched = tt
  views_named (source ∷ sources) views matched = all_both (ViewMatches tables) (option_to_list (view_with (view_id_of source) views)) (named_views sources views) (view_found (view_id_of source) views matched) (views_named sources views matched)

  runs_named : (sources : List SourceId) (runs : List SortedRun) → RunsMatch runs → RunsMatch (named_runs sources runs)
  runs_named [] runs matched = tt
  runs_named (source ∷ sources) runs matched =
      all_both (λ run. ViewsMatch tables run.views) (option_to_list (run_with (run_id_of source) runs)) (named_runs sources runs) (run_found (run_id_of source) runs matched) (runs_named sources runs matched)

  run_views : (runs : List SortedRun) → RunsMatch runs → ViewsMatch tables (flat_map (λ run. run.views) runs)
  run_views [] matched = tt
  run_views (run ∷ runs) matched = all_both (ViewMatches tables) run.views (flat_map (λ r. r.views) runs) matched.0 (run_views runs matched.1)

  -- If the tables of the trees match the tables that were put, so do those that a job takes of the trees.
  pub taken_matched : (spec : CompactionSpec) (core : ManifestCore) → TreesMatch tables core → ViewsMatch tables (taken_tables spec core)
  taken_matched spec core matched =
      let found = tree_found (λ s. bytes_eq (segment_of spec) s.0) (trees_with_prefix core) matched in
      all_both (ViewMatches tables) (taken_views spec core) (flat_map (λ run. run.views) (taken_runs spec core)) (views_named (sources_of spec) _ found.0) (run_views (taken_runs spec core) (runs_named (sources_of spec) _ found.1))

  -- ---- moves

  put_start : (view : View) (views : List View) → ViewMatches tables view → ViewsMatch tables views → ViewsMatch tables (put_view view views)
  put_start view [] one matched = (one, tt)
  put_start view (other ∷ others) one matched = by (is_lt (key_cmp other.sst.first_key view.sst.first_key)) (put_start view others one matched.1)
    where
      by : (b : Bool) → ViewsMatch tables (put_view view others) → ViewsMatch tables (cond b (other ∷ put_view view others) (view ∷ other ∷ others))
      by true rest = (matched.0, rest)
      by false rest = (one, matched)

  start_matched : (views : List View) → ViewsMatch tables views → ViewsMatch tables (by_start views)
  start_matched [] matched = tt
  start_matched (view ∷ views) matched = put_start view (by_start views) matched.0 (start_matched views matched.1)

  pub moved_matched : (destination : Option ℕ) (views : List View) → ViewsMatch tables views → ViewsMatch tables (output_views (moved_run destination views))
  moved_matched None views matched = tt
  moved_matched (Some id) views matched = by (is_nonempty (by_start views) && are_disjoint (by_start views))
    where
      by : (b : Bool) → ViewsMatch tables (output_views (cond b (Some (record { id = id; views = by_start views })) None))
      by true = start_matched views matched
      by false = tt

  -- ---- ends

  pub ends_fit : (views : List View) → ViewsMatch tables views → AllByRecursion (EndsFit tables) views
  ends_fit [] matched = tt
  ends_fit (view ∷ views) matched = (
    record { first = sym (ap (λ (h : Handle). h.first_key) matched.0.handle.describes); last = sym (ap (λ (h : Handle). h.last_key) matched.0.handle.describes); rising = matched.0.handle.rising },
    ends_fit views matched.1,
  )
