-- An attempt at a job takes its settings and ranges with its claim. It writes the rows that its ranges
-- make.
use Rattle.std.specs.Prelude.{ℕ, Bool, true, false, ◌==◌, List, [], ◌∷◌, map, flat_map, drop, length, Option, Some, None}
use Rattle.row_model.specs.Rows.{Row, sorted_rows}
use Rattle.row_model.specs.Fold.{Operator}
use Rattle.row_model.specs.Settings.{Settings}
use Rattle.row_model.specs.JobRows.{JobRows, job_rows}
use Rattle.fleet_model.specs.Nodes.{Tables, table_rows, Tree, names, tree_at}
use Rattle.fleet_model.specs.Jobs.{JobSpec, Release, One, Two, knows_cut, Context, Job}
use Rattle.row_model.specs.Ranges.{Range, rows_in}
use Rattle.fleet_model.specs.Sources.{run_ids}
use Rattle.fleet_model.specs.Store.{Manifest, cut_at}
use Rattle.row_model.specs.Written.Plan.{planned_ranges}

-- True if this run id is the last of the list, or the list is empty.
abbrev pub is_last : ℕ → List ℕ → Bool
is_last id [] = true
is_last id (run ∷ []) = run == id
is_last id (run ∷ other ∷ runs) = is_last id (other ∷ runs)

-- True if a job makes the last run of a tree: its destination is the last run, or the tree has no run. A
-- drain makes no run.
abbrev pub is_last_run : Option ℕ → Tree → Bool
is_last_run None tree = false
is_last_run (Some id) tree = is_last id (run_ids (names tree))

-- What a claim depends on: the release of its worker, the manifest that it got, the moment, the options and
-- the tables.
pub record ClaimInput : Type 0 where
  pub release : Release
  pub manifest : Manifest
  pub moment : ℕ  -- the moment of the claim, in milliseconds
  pub retention : ℕ  -- in milliseconds
  pub most : ℕ  -- the greatest number of ranges
  pub tables : Tables  -- all tables that were put

-- The cut of a claim. A worker of release 2 takes the manifest's cut at the moment of its claim, and a
-- worker of release 1 takes the floor.
abbrev pub claim_cut : Release → Manifest → (moment retention : ℕ) → ℕ
claim_cut One manifest moment retention = manifest.floor
claim_cut Two manifest moment retention = cut_at manifest moment retention

-- The settings of a claim. It takes floor and tick from the manifest, and `last_run` is true if the job
-- makes the last run of its tree.
abbrev pub claim_settings : Manifest → ℕ → JobSpec → Settings
claim_settings manifest cut spec =
    record {
      floor = manifest.floor;
      tick = manifest.tick;
      last_run = is_last_run spec.destination (tree_at spec.segment manifest.trees);
      cut = cut;
    }

-- The context of a claim that takes over no published context. It plans the ranges of the job's source
-- tables, and no range has a table yet.
abbrev pub fresh_context : ClaimInput → Job → Context
fresh_context input job = record {
  settings =
      claim_settings input.manifest (claim_cut input.release input.manifest input.moment input.retention) job.spec;
  has_cut = knows_cut input.release;
  ranges = map (λ range. (range, [])) (planned_ranges input.most (map (table_rows input.tables) job.source_tables));
}

-- The published context, or the fresh one if none is published. The published context keeps its settings
-- and tables. Its `has_cut` then says whether the new worker knows cuts.
abbrev pub context_or : Bool → Option Context → Context → Context
context_or knows None fresh = fresh
context_or knows (Some context) fresh = record context { has_cut = knows }

-- The context of an attempt: the published context of its job, or a fresh one if none is published.
abbrev pub attempt_context : ClaimInput → Job → Context
attempt_context input job = context_or (knows_cut input.release) job.context (fresh_context input job)

-- The cut that a worker keeps of the attempt that it finishes. A worker of release 1 keeps none.
abbrev pub finish_cut : Release → Context → Option ℕ
finish_cut One context = None
finish_cut Two context = Some context.settings.cut

-- The rows of all source tables, merged in order.
abbrev pub source_rows : Tables → List ℕ → List Row
source_rows tables sources = sorted_rows (flat_map (table_rows tables) sources)

-- The rows that a range makes of the source tables under the settings.
abbrev pub range_rows : (merge : Operator) (tables : Tables) (settings : Settings) (sources : List ℕ) (range : Range)
    → JobRows
range_rows merge tables settings sources range = job_rows merge settings (rows_in range (source_rows tables sources))

-- The rows in the tables that are noted for a range.
abbrev pub noted_rows : Tables → List ℕ → List Row
noted_rows tables noted = flat_map (table_rows tables) noted

-- The rows of a range that an attempt has still to write. They follow as many rows as its noted tables
-- have.
abbrev pub rows_left : (merge : Operator) (tables : Tables) (settings : Settings) (sources : List ℕ)
    (range : Range × List ℕ) → JobRows
rows_left merge tables settings sources range =
    let all = range_rows merge tables settings sources range.0 in
    record { rows = drop (length (noted_rows tables range.1)) all.rows; whole = all.whole }
