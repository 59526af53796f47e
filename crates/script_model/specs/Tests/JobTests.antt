-- Tests of the jobs of a store and of its live workers: the parts of the fleet's invariant that can be
-- computed.
use Rattle.std.specs.Prelude.{ℕ, Bool, true, false, not, nat_le, int_le, ◌&&◌, ◌||◌, ◌==◌, List, [], ◌∷◌, map, Option, Some, None, bytes_eq, is_some}
use Rattle.std.specs.List.{list_any, list_all, concat}
use Rattle.std.specs.Cmp.Lexicographic.{pointwise}
use Rattle.row_model.specs.Rows.{Row, Content, Value, Merge, Tombstone}
use Rattle.row_model.specs.Fold.{Operator}
use Rattle.row_model.specs.FoldedRows.{same_stamp}
use Rattle.row_model.specs.Ranges.{Bound, Unbounded, Included, Excluded, Range}
use Rattle.row_model.specs.Settings.{Settings}
use Rattle.row_model.specs.JobRows.{JobRows, job_rows}
use Rattle.fleet_model.specs.Nodes.{NodeName, Tree, names, Trees, tree_at}
use Rattle.fleet_model.specs.Jobs.{JobSpec, ids_eq, nodes_of, Context, Job, Scheduled, Running, Compacted, has_status, job_with, knows_cut}
use Rattle.fleet_model.specs.Trees.{source_pieces}
use Rattle.fleet_model.specs.Sources.{run_ids, all_run_ids, older_nodes, is_whole_stretch, is_apart, is_lowest_or_above}
use Rattle.fleet_model.specs.Work.Gates.{reserves_nodes, is_nonempty}
use Rattle.fleet_model.specs.Work.Attempts.{source_rows, noted_rows, range_rows}
use Rattle.fleet_model.specs.Work.Parties.{Attempt, LiveWorker, live_attempts}
use Rattle.fleet_model.specs.Store.{Manifest, Store, stored_jobs, is_held}
use Rattle.fleet_model.specs.Invariants.JobsFit.{was_joined, cut_or}
use Rattle.fleet_model.specs.Invariants.AttemptsFit.{was_beaten}
use Rattle.fleet_model.specs.Past.Claimed.{settings_of, ranges_of}
use Rattle.fleet_model.specs.Sweeps.{attempt_tables}

-- ---- equal values

abbrev same_content : (a b : Content) → Bool
same_content (Value a) (Value b) = bytes_eq a b
same_content (Merge a) (Merge b) = bytes_eq a b
same_content Tombstone Tombstone = true
same_content _ _ = false

abbrev same_row : (a b : Row) → Bool
same_row a b =
    bytes_eq a.key b.key && same_content a.content b.content && (a.seq == b.seq) && same_stamp a.created b.created
    && same_stamp a.expires b.expires

-- The first rows are a prefix of the second ones.
abbrev pub begin_rows : (front rows : List Row) → Bool
begin_rows [] rows = true
begin_rows (q ∷ front) [] = false
begin_rows (q ∷ front) (r ∷ rows) = same_row q r && begin_rows front rows

abbrev same_bound : (a b : Bound) → Bool
same_bound Unbounded Unbounded = true
same_bound (Included a) (Included b) = bytes_eq a b
same_bound (Excluded a) (Excluded b) = bytes_eq a b
same_bound _ _ = false

abbrev same_range : (a b : Range) → Bool
same_range a b = same_bound a.from b.from && same_bound a.to b.to

abbrev same_flag : (a b : Bool) → Bool
same_flag true b = b
same_flag false b = not b

-- Settings are equal, but for the cut, which the history does not give.
abbrev same_but_cut : Settings → Option Settings → Bool
same_but_cut a None = false
same_but_cut a (Some b) =
    (a.floor == b.floor) && int_le a.tick b.tick && int_le b.tick a.tick && same_flag a.last_run b.last_run

abbrev are_ranges : List Range → Option (List Range) → Bool
are_ranges ranges None = false
are_ranges ranges (Some others) = pointwise same_range ranges others

-- ---- sources

-- No two jobs hold the same node.
abbrev pub hold_apart : (a b : Job) → Bool
hold_apart a b = not (reserves_nodes a && reserves_nodes b) || is_apart (nodes_of a.spec) (nodes_of b.spec)

abbrev destination_stands : (trees : Trees) (tree : Tree) (sources : List NodeName) (destination : Option ℕ) → Bool
destination_stands trees tree sources None = false
destination_stands trees tree sources (Some id) =
    is_lowest_or_above id (run_ids sources) (run_ids (names tree))
    && (is_nonempty (run_ids sources) || not (list_any (λ run. run == id) (all_run_ids trees)))

-- The job has sources, which are in its tree one after the other with the tables that they had, and the
-- destination fits.
abbrev pub stands : Trees → Job → Bool
stands trees job =
    is_nonempty job.spec.sources
    && is_whole_stretch (tree_at job.spec.segment trees) job.spec.sources
    && ids_eq (source_pieces job.spec.sources (tree_at job.spec.segment trees)) job.source_tables
    && destination_stands trees (tree_at job.spec.segment trees) job.spec.sources job.spec.destination

-- The sources of a Scheduled or Running job stand, and so do those of a Compacted job that was not
-- joined.
abbrev pub opened_stands : Store → Job → Bool
opened_stands store job =
    not (has_status Scheduled job || has_status Running job
    || (has_status Compacted job && not (was_joined store.history job.id)))
    || stands store.manifest.trees job

-- ---- settings, contexts and outputs

abbrev none_left : Option (List NodeName) → Bool
none_left None = false
none_left (Some older) = not (is_nonempty older)

-- The floor and the tick are at most the stored ones, the cut is at most the floor, and only a job of
-- the oldest nodes makes a last run.
abbrev pub settings_fit : Manifest → JobSpec → Settings → Bool
settings_fit manifest spec settings =
    nat_le settings.floor manifest.floor
    && nat_le settings.cut settings.floor
    && int_le settings.tick manifest.tick
    && (not settings.last_run || none_left (older_nodes spec.sources (names (tree_at spec.segment manifest.trees))))

-- The settings and ranges are those of the claim, and the tables of each range begin its rows.
abbrev pub context_stands : (merge : Operator) (store : Store) (specs : ℕ → JobSpec) → (job attempt : ℕ)
    → (sources : List ℕ) (context : Context) → Bool
context_stands merge store specs job attempt sources context =
    same_but_cut context.settings (settings_of store.tables specs store.history job attempt)
    && are_ranges (map (λ range. range.0) context.ranges) (ranges_of store.history job attempt)
    && (context.has_cut || (context.settings.cut == context.settings.floor))
    && list_all
    (λ range. begin_rows (noted_rows store.tables range.1)
    (range_rows merge store.tables context.settings sources range.0).rows) context.ranges

abbrev context_fits : (merge : Operator) (store : Store) (specs : ℕ → JobSpec) (job : Job) (context : Option Context)
    → Bool
context_fits merge store specs job None = true
context_fits merge store specs job (Some context) =
    context_stands merge store specs job.id job.attempt job.source_tables context
    && settings_fit store.manifest job.spec context.settings

-- A job has a context exactly if it waits or runs and was beaten, and the context fits.
abbrev pub has_context : (merge : Operator) (store : Store) (specs : ℕ → JobSpec) (job : Job) → Bool
has_context merge store specs job =
    same_flag (is_some job.context)
    ((has_status Scheduled job || has_status Running job) && was_beaten store.history job.id)
    && context_fits merge store specs job job.context

abbrev makes_all : JobRows → List Row → Bool
makes_all made rows = made.whole && begin_rows made.rows rows && begin_rows rows made.rows

-- The settings with the cut that the job kept.
abbrev with_kept_cut : Option ℕ → Settings → Settings
with_kept_cut kept settings = record settings { cut = cut_or settings.floor kept }

abbrev outputs_fit_by : (merge : Operator) (store : Store) (job : Job) (found : Option Settings) → Bool
outputs_fit_by merge store job None = false
outputs_fit_by merge store job (Some found) =
    let settings = with_kept_cut job.kept_cut found in
    nat_le settings.cut store.manifest.floor
    && (was_joined store.history job.id || settings_fit store.manifest job.spec settings)
    && (not (list_all (is_held store) job.source_tables)
    || makes_all (job_rows merge settings (source_rows store.tables job.source_tables))
    (noted_rows store.tables (concat job.outputs)))

-- The outputs of a Compacted job hold all rows that the settings of its last claim make of its sources.
abbrev pub outputs_fit : (merge : Operator) (store : Store) (specs : ℕ → JobSpec) (job : Job) → Bool
outputs_fit merge store specs job =
    not (has_status Compacted job)
    || outputs_fit_by merge store job (settings_of store.tables specs store.history job.id job.attempt)

-- ---- workers

abbrev lives : Job → Attempt → Bool
lives job a = ids_eq a.sources job.source_tables

abbrev lives_if_stored : Option Job → Attempt → Bool
lives_if_stored None a = true
lives_if_stored (Some job) a = lives job a

-- Each attempt has the context of its claim, and its tables are held. Each live attempt has the source
-- tables of its job.
abbrev pub worker_fits : (merge : Operator) (store : Store) (specs : ℕ → JobSpec) (w : LiveWorker) → Bool
worker_fits merge store specs w =
    list_all
    (λ a. context_stands merge store specs a.job a.number a.sources a.context
    && list_all (is_held store) (attempt_tables a) && same_flag a.context.has_cut (knows_cut w.release)) w.attempts
    && list_all (λ a. lives_if_stored (job_with a.job (stored_jobs store)) a) (live_attempts (stored_jobs store) w)
