-- A scheduler is shown a view. It proposes jobs, accepts or refuses them, and generates jobs for requests.
use Rattle.std.specs.Prelude.{ℕ, min, Bool, List, not, [], ◌∷◌, filter, filter_map, fold, Option, Some, None}
use Rattle.fleet_model.specs.Nodes.{Tables, is_l0, names, Segment, segment_at}
use Rattle.fleet_model.specs.Jobs.{Jobs, JobSpec, is_active}
use Rattle.fleet_model.specs.Store.{Manifest, Records}
use Rattle.fleet_model.specs.Sources.{run_ids}
use Rattle.fleet_model.specs.Handles.{Handle, handles_of, named_tables}

-- What the scheduler is shown: the manifest, the version and epoch of the job records, the active jobs, and
-- handles of tables. The handles are of all tables that the trees name, and then of all that these jobs
-- name.
pub record View : Type 0 where
  pub manifest : Manifest
  pub records_version : ℕ
  pub records_epoch : ℕ
  pub jobs : Jobs
  pub handles : List Handle

-- The view of a manifest, records and jobs. It shows only the active jobs.
abbrev pub shown_view : (tables : Tables) (manifest : Manifest) (records : Records) (jobs : Jobs) → View
shown_view tables manifest records jobs =
    let active = filter is_active jobs in
    record {
      manifest = manifest;
      records_version = records.version;
      records_epoch = records.epoch;
      jobs = active;
      handles = handles_of tables (named_tables manifest.trees active);
    }

-- A request of a user: to compact every tree whole, one tree whole, or by one spec.
pub data Request : Type 0 where
  Full : Request
  FullSegment : (segment : List ℕ) → Request
  OneSpec : (spec : JobSpec) → Request

-- The answer to a request: specs of jobs, or a refusal with or without a message.
pub data Generated : Type 0 where
  Specs : (specs : List JobSpec) → Generated
  Invalid : Generated
  Declined : (message : List ℕ) → Generated

-- A scheduler. Its answers are functions of what it is shown.
pub record Scheduler : Type 0 where
  pub propose : View → List JobSpec
  pub validate : View → JobSpec → Bool  -- the job is accepted
  pub generate : View → Request → Generated

-- The lower of an id, if there is one, and another id.
abbrev pub lower : Option ℕ → ℕ → Option ℕ
lower None id = Some id
lower (Some lowest) id = Some (min lowest id)

-- The lowest of these ids, or None if there are none.
abbrev pub lowest_of : List ℕ → Option ℕ
lowest_of ids = fold lower None ids

-- The spec that merges all runs of the tree into the given run, if one is given.
abbrev pub into_lowest : Segment → Option ℕ → Option JobSpec
into_lowest s None = None
into_lowest s (Some lowest) =
    Some
    (record {
      segment = s.prefix;
      sources = filter (λ name. not (is_l0 name)) (names s.tree);
      destination = Some lowest;
    })

-- The spec that merges all runs of a tree into the lowest one. It is None if the tree has no runs.
abbrev pub full_spec : Segment → Option JobSpec
full_spec s = into_lowest s (lowest_of (run_ids (names s.tree)))

-- The answer with one spec, or Invalid if there is no spec.
abbrev pub one_or_invalid : Option JobSpec → Generated
one_or_invalid None = Invalid
one_or_invalid (Some spec) = Specs (spec ∷ [])

-- The spec that merges all runs of a segment's tree. It is None if there is no segment or no run.
abbrev pub full_spec_at : Option Segment → Option JobSpec
full_spec_at None = None
full_spec_at (Some s) = full_spec s

-- The answer of a scheduler that has no answer of its own to requests.
abbrev pub default_generate : View → Request → Generated
default_generate view Full = Specs (filter_map full_spec view.manifest.trees)
default_generate view (FullSegment segment) = one_or_invalid (full_spec_at (segment_at segment view.manifest.trees))
default_generate view (OneSpec spec) = Specs (spec ∷ [])
