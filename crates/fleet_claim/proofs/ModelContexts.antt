-- The contexts with which attempts begin are the model's.
use Rattle.std.proofs.Common.{◌≡◌, refl, sym, ◌∙◌, ap, subst, ℕ, ◌==◌, List, [], ◌∷◌, ◌++◌, map, Bool, true, false, cond, not, ◌||◌}
use Rattle.std.specs.Prelude.{IsTrue, ℤ, find, Option, Some, None}
use Rattle.std.specs.List.{AllByRecursion}
use Rattle.std.proofs.lemmas.List.{append-nil}
use Rattle.row_model.specs.Written.Plan.{planned_ranges}
use Rattle.row_model.specs.Ranges.{Range}
use Rattle.row_model.specs.Rows.{Row, IsStrictlyOrdered}
use Rattle.fleet_model.specs.Work.Attempts.{ClaimInput, fresh_context, is_last, is_last_run}
use Rattle.fleet_model.specs.Jobs.{Context, knows_cut}
use Rattle.fleet_model.specs.Nodes.{NodeName, Tables, Tree, is_among, names, rows_or_none, table_rows, tree_at}
use Rattle.fleet_model.specs.Sources.{run_ids}
use Rattle.fleet_model.specs.Store.{Store}
use Rattle.fleet_model.specs.Store as model_store
use Rattle.fleet_model.specs.Invariants.TreesFit.{IsTable}
use Rattle.fleet_range.specs.Keys.{range_of}
use Rattle.fleet_range.specs.Ranges.{Ends}
use Rattle.fleet_rows.specs.declared.settings.Settings.{Settings}
use Rattle.fleet_tree.specs.Trees.{trees_with_prefix}
use Rattle.fleet_tree.specs.Views.{View}
use Rattle.fleet_tree.specs.declared.manifest.VersionedManifest.{VersionedManifest}
use Rattle.fleet_plan.specs.Boundaries.{ranges_of}
use Rattle.fleet_plan.specs.Parts.{Part}
use Rattle.fleet_plan.specs.Plans.{AreOfRows}
use Rattle.fleet_jobs.specs.Parts.ContextParts.{ContextParts}
use Rattle.fleet_jobs.specs.Contexts.{context_of, context_with, noted_range, settings_in}
use Rattle.fleet_jobs.specs.Parts.JobParts.{JobParts}
use Rattle.fleet_jobs.specs.Jobs.{job_of}
use Rattle.fleet_jobs.specs.Laws.{view_tables}
use Rattle.fleet_jobs.specs.Places.{nodes_at}
use Rattle.fleet_jobs.specs.Specs.{destination_of, segment_of, sources_of}
use Rattle.fleet_jobs.specs.Workers.{release_of}
use Rattle.fleet_jobs.specs.declared.release.Release.{Release}
use Rattle.fleet_jobs.specs.declared.release.Release.TheVariants.{One, Two}
use Rattle.fleet_store.specs.Handles.{NamesTable}
use Rattle.fleet_store.specs.Manifests.{IsManifest}
use Rattle.fleet_claim.specs.Beginnings.{input_of, settings_at}
use Rattle.fleet_claim.specs.Contexts.{IsFresh, fresh_parts}
use Rattle.fleet_claim.specs.Sources.{is_last_in, source_views}
use Rattle.fleet_claim.specs.declared.options.CompactionWorkerOptions.{CompactionWorkerOptions}
use Rattle.fleet_claim.proofs.Bare.{names_are, of_sources}

-- ---- fresh contexts as the program makes them

-- The ranges of a plan without further runs are those of the views.
pub is_fresh : (views : List View) (most : ℕ) (settings : Settings) (release : Release) (keys : List (Ends (List ℕ))) (parts : List Part) (context : ContextParts)
    → ((rows : View → List Row) → AreOfRows rows (views ++ []) → ranges_of keys ≡ planned_ranges most (map rows (views ++ []))) → parts ≡ fresh_parts keys → context ≡ context_with parts settings release
    → IsFresh views most settings release context
is_fresh views most settings release keys parts context planned are made = record {
  keys = keys;
  is = made ∙ ap (λ ps. context_with ps settings release) are;
  planned = subst (λ vs. (rows : View → List Row) → AreOfRows rows vs → ranges_of keys ≡ planned_ranges most (map rows vs)) (append-nil views) planned;
}

-- ---- settings

last_is : (destination : Option ℕ) (tree : Tree) (nodes : List NodeName) → names tree ≡ nodes → is_last_run destination tree ≡ is_last_in destination nodes
last_is None tree nodes are = refl
last_is (Some run) tree nodes are = ap (λ ns. is_last run (run_ids ns)) are

-- ---- contexts

keys_noted : (keys : List (Ends (List ℕ))) → map noted_range (fresh_parts keys) ≡ map (λ (range : Range). (range, [])) (ranges_of keys)
keys_noted [] = refl
keys_noted (range ∷ keys) = ap (λ rs. (range_of range, []) ∷ rs) (keys_noted keys)

-- A context that is taken over is the published one, as the release keeps it.
pub taken_is : (release : Release) (cut : Option ℕ) (context : ContextParts) → context.cut ≡ cut → (knows_cut (release_of release) || not (context_of context).has_cut) ≡ true
    → context_of (context_with context.ranges (settings_in context) release) ≡ record (context_of context) { has_cut = knows_cut (release_of release) }
taken_is Two cut context is may = refl
taken_is One None context is may = rw is refl
taken_is One (Some cut) context is may = absurd (clash is may)
  where
    clash : {X : Type 0} → context.cut ≡ Some cut → (not (context_of context).has_cut) ≡ true → X
    clash e h = absurd (cc (sym (rw e at h)))

-- Contexts are equal if their parts are.
abbrev context_parts : Bool → ℕ → ℤ → Bool → ℕ → List (Range × List ℕ) → Context
context_parts has f t l c r = record { settings = record { floor = f; tick = t; last_run = l; cut = c }; has_cut = has; ranges = r }

context_made : (has : Bool) (f f' : ℕ) (t t' : ℤ) (l l' : Bool) (c c' : ℕ) (r r' : List (Range × List ℕ)) → f ≡ f' → t ≡ t' → l ≡ l' → c ≡ c' → r ≡ r'
    → context_parts has f t l c r ≡ context_parts has f' t' l' c' r'
context_made has f f' t t' l l' c c' r r' a b d e g = rw (a, b, d, e, g) refl

-- A table that was put is strictly ordered.
ordered_at : (tables : Tables) (id : ℕ) → AllByRecursion (λ table. IsTable table.1) tables → IsTrue (is_among tables id) → IsStrictlyOrdered (table_rows tables id)
ordered_at [] id all put = absurd (cc put)
ordered_at (table ∷ tables) id all put = by (table.0 == id) put (λ later. ordered_at tables id all.1 later)
  where
    by : (b : Bool) → IsTrue (b || is_among tables id) → (IsTrue (is_among tables id) → IsStrictlyOrdered (table_rows tables id)) → IsStrictlyOrdered (rows_or_none (cond b (Some table) (find (λ held. held.0 == id) tables)))
    by true put rest = all.0.ordered
    by false put rest = rest put

module _ (manifest : VersionedManifest) (store : Store) (is : IsManifest manifest store) (tables : AllByRecursion (λ table. IsTable table.1) store.tables) where
  of_rows : (views : List View) → AllByRecursion (NamesTable store.tables) views → AreOfRows (λ view. table_rows store.tables view.sst.id) views
  of_rows [] all = tt
  of_rows (view ∷ views) all = (record { ordered = ordered_at store.tables view.sst.id tables all.0.described.put; described = all.0.described.describes }, of_rows views all.1)

  rows_are : (views : List View) → map (λ view. table_rows store.tables view.sst.id) views ≡ map (table_rows store.tables) (view_tables views)
  rows_are [] = refl
  rows_are (view ∷ views) = ap (λ rs. table_rows store.tables view.sst.id ∷ rs) (rows_are views)

  floor_is : manifest.manifest.core.recent_snapshot_min_seq ≡ store.manifest.floor
  floor_is = ap (λ (m : model_store.Manifest). m.floor) is.same

  module _ (release : Release) (options : CompactionWorkerOptions) (moment : ℕ) (job : JobParts) where
    abbrev settings : Settings
    settings = settings_at manifest.manifest.core options moment job.spec (nodes_at (segment_of job.spec) manifest.manifest.core)

    abbrev input : ClaimInput
    input = input_of release options moment store

    tick_is : settings.tick ≡ store.manifest.tick
    tick_is = ap (λ (m : model_store.Manifest). m.tick) is.same

    cut_is : settings.cut ≡ model_store.cut_at store.manifest moment options.retention_ms
    cut_is = ap (λ (m : model_store.Manifest). model_store.cut_at m moment options.retention_ms) is.same

    pub fresh_is : (context : ContextParts) → view_tables (source_views job.spec manifest.manifest.core) ≡ job.source_tables → IsFresh (source_views job.spec manifest.manifest.core) options.max_subcompactions settings release context
        → context_of context ≡ fresh_context input (job_of job)
    fresh_is context are fresh = ap context_of fresh.is ∙ by release ranges
      where
        views : List View
        views = source_views job.spec manifest.manifest.core

        ranges : map noted_range (fresh_parts fresh.keys) ≡ map (λ (range : Range). (range, [])) (planned_ranges options.max_subcompactions (map (table_rows store.tables) job.source_tables))
        ranges =
            keys_noted fresh.keys
            ∙ ap (map (λ (range : Range). (range, [])))
            (fresh.planned (λ view. table_rows store.tables view.sst.id) (of_rows views (of_sources (NamesTable store.tables) (segment_of job.spec) (trees_with_prefix manifest.manifest.core) (sources_of job.spec) is.views))
            ∙ ap (planned_ranges options.max_subcompactions) (rows_are views ∙ ap (map (table_rows store.tables)) are))

        last : settings.last_run ≡ is_last_run (destination_of job.spec) (tree_at (segment_of job.spec) store.manifest.trees)
        last = sym (last_is (destination_of job.spec) (tree_at (segment_of job.spec) store.manifest.trees) _ (names_are manifest store is (segment_of job.spec)))

        by : (release : Release) → map noted_range (fresh_parts fresh.keys) ≡ map (λ (range : Range). (range, [])) (planned_ranges options.max_subcompactions (map (table_rows store.tables) job.source_tables))
            → context_of (context_with (fresh_parts fresh.keys) settings release) ≡ fresh_context (input_of release options moment store) (job_of job)
        by One same = context_made false _ _ _ _ _ _ _ _ _ _ floor_is tick_is last floor_is same
        by Two same = context_made true _ _ _ _ _ _ _ _ _ _ floor_is tick_is last cut_is same
