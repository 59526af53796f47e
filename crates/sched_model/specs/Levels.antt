-- The level scheduler keeps each run of a tree within a size. This limit grows from the newest run to the
-- oldest.
use Rattle.std.specs.Prelude.{ℕ, ◌+◌, ◌*◌, ◌-◌, ◌^◌, Bool, true, not, ◌&&◌, ◌||◌, ◌==◌, nat_le, nat_lt, if◌then◌else◌, List, [], ◌∷◌, ◌++◌, flat_map, find, take, length, sum_by, count_by, Option, Some, None}
use Rattle.std.specs.List.{list_any}
use Rattle.row_model.specs.Written.Sizes.{saturated_sum}
use Rattle.fleet_model.specs.Nodes.{NodeName, L0, Run, names_contain, Node, Tree, names, Segment, Trees, flushes_of, runs_of}
use Rattle.fleet_model.specs.Jobs.{JobSpec, nodes_of}
use Rattle.fleet_model.specs.Handles.{Handle}
use Rattle.fleet_model.specs.Work.Scheduler.{View, Scheduler, default_generate}
use Rattle.sched_model.specs.FreshRuns.{capped_id, fresh_run_id, is_under_way}

-- The options of the level scheduler. A tree with at least `l0_trigger` flushes is compacted. The limit of
-- its newest run is `base`, and the limit of each older run is `ratio` times the limit of the run before
-- it.
pub record LevelOptions : Type 0 where
  pub l0_trigger : ℕ
  pub base : ℕ  -- in bytes
  pub ratio : ℕ

-- True if the trigger and the base are at least 1 and the ratio is at least 2.
abbrev pub are_allowed : LevelOptions → Bool
are_allowed o = nat_lt 0 o.l0_trigger && nat_lt 0 o.base && nat_lt 1 o.ratio

-- The greatest size in bytes that a run at this place may have. The newest run is at place 0.
abbrev pub limit : LevelOptions → ℕ → ℕ
limit o place = saturated_sum (o.base * o.ratio ^ place)

-- The size in bytes that a handle gives, or 0 if there is no handle.
abbrev pub size_or_none : Option Handle → ℕ
size_or_none None = 0
size_or_none (Some h) = h.size

-- The size of a table in bytes, from its handle. It is 0 if the table has no handle here.
abbrev pub size_of_table : List Handle → ℕ → ℕ
size_of_table handles table = size_or_none (find (λ h. h.id == table) handles)

-- The size of a node in bytes: the sum of the sizes of its tables.
abbrev pub node_size : List Handle → Node → ℕ
node_size handles node = saturated_sum (sum_by (size_of_table handles) node.pieces)

-- True if each run except the last one is at most as large as the limit of its place.
abbrev pub are_runs_within : (o : LevelOptions) (handles : List Handle) (place : ℕ) (runs : List Node) → Bool
are_runs_within o handles place [] = true
are_runs_within o handles place (run ∷ []) = true
are_runs_within o handles place (run ∷ next ∷ runs) =
    nat_le (node_size handles run) (limit o place) && are_runs_within o handles (place + 1) (next ∷ runs)

-- True if a tree has fewer flushes than the trigger and each of its runs, except the oldest, is within its
-- limit.
abbrev pub is_within : LevelOptions → List Handle → Tree → Bool
is_within o handles tree = nat_lt (length (flushes_of tree)) o.l0_trigger && are_runs_within o handles 0 (runs_of tree)

-- The state of the scheduler while it picks: the nodes that may not be picked again, the id of the next
-- fresh run, and the picks so far, in order.
pub record LevelPicking : Type 0 where
  pub used : List NodeName
  pub fresh : ℕ
  pub picks : List JobSpec

-- Adds a pick, whose nodes are used from then on.
abbrev pub with_level_pick : JobSpec → LevelPicking → LevelPicking
with_level_pick spec p = record p { used = nodes_of spec ++ p.used; picks = p.picks ++ spec ∷ [] }

-- Adds a pick into the fresh run, and raises the id of the next fresh run.
abbrev pub with_fresh_pick : List ℕ → List NodeName → LevelPicking → LevelPicking
with_fresh_pick segment sources p =
    let q = with_level_pick (record { segment = segment; sources = sources; destination = Some p.fresh }) p in
    record q { fresh = capped_id (p.fresh + 1) }

-- The id of a node that is a run, or None for a flush.
abbrev pub run_id : NodeName → Option ℕ
run_id (L0 name) = None
run_id (Run id) = Some id

-- Picks all flushes into the newest run, unless that run is used.
abbrev pub pick_into_run : (segment : List ℕ) (flushes : List NodeName) (run : NodeName) (p : LevelPicking)
    → LevelPicking
pick_into_run segment flushes run p =
    if names_contain p.used run then p
    else with_level_pick (record { segment = segment; sources = flushes ++ run ∷ []; destination = run_id run }) p

-- Picks all flushes into the newest run if its size is at most the base, and otherwise into a fresh run.
abbrev pub pick_flushes_into : (o : LevelOptions) (handles : List Handle) (segment : List ℕ) (flushes : List NodeName)
    (runs : List Node) (p : LevelPicking) → LevelPicking
pick_flushes_into o handles segment flushes [] p = with_fresh_pick segment flushes p
pick_flushes_into o handles segment flushes (run ∷ runs) p =
    if nat_le (node_size handles run) o.base then pick_into_run segment flushes run.name p
    else with_fresh_pick segment flushes p

-- Picks the flushes of a tree if they reach the trigger and none of them is used.
abbrev pub pick_flushes : (o : LevelOptions) (handles : List Handle) (s : Segment) (p : LevelPicking) → LevelPicking
pick_flushes o handles s p =
    let flushes = names (flushes_of s.tree) in
    if nat_le o.l0_trigger (length flushes) && not (list_any (names_contain p.used) flushes)
    then pick_flushes_into o handles s.prefix flushes (runs_of s.tree) p
    else p

-- Picks a run into the next older one if the run is above its limit and neither of them is used.
abbrev pub pick_pair : (o : LevelOptions) (handles : List Handle) (segment : List ℕ) (place : ℕ) (run next : Node)
    (p : LevelPicking) → LevelPicking
pick_pair o handles segment place run next p =
    if nat_lt (limit o place) (node_size handles run)
    && not (names_contain p.used run.name || names_contain p.used next.name)
    then with_level_pick
    (record { segment = segment; sources = run.name ∷ next.name ∷ []; destination = run_id next.name }) p
    else p

-- Looks at each run of a tree except the oldest, from the newest on, and picks it if it is above its limit.
abbrev pub pick_runs : (o : LevelOptions) (handles : List Handle) (segment : List ℕ) (place : ℕ) (runs : List Node)
    (p : LevelPicking) → LevelPicking
pick_runs o handles segment place [] p = p
pick_runs o handles segment place (run ∷ []) p = p
pick_runs o handles segment place (run ∷ next ∷ runs) p =
    pick_runs o handles segment (place + 1) (next ∷ runs) (pick_pair o handles segment place run next p)

-- Looks at the trees in their order, and in each tree at the flushes first and then at the runs.
abbrev pub pick_trees : (o : LevelOptions) (handles : List Handle) (trees : Trees) (p : LevelPicking) → LevelPicking
pick_trees o handles [] p = p
pick_trees o handles (s ∷ trees) p =
    pick_trees o handles trees (pick_runs o handles s.prefix 0 (runs_of s.tree) (pick_flushes o handles s p))

-- The picks that the scheduler makes on a view, at most as many as there are free places for jobs under
-- way.
unfoldable pub level_picks : LevelOptions → ℕ → View → List JobSpec
level_picks o most view =
    let begun : LevelPicking =
    record { used = flat_map (λ job. nodes_of job.spec) view.jobs; fresh = fresh_run_id view; picks = [] } in
    take (most - count_by is_under_way view.jobs) (pick_trees o view.handles view.manifest.trees begun).picks

-- The level scheduler. It proposes its picks and accepts each job. It answers a request with
-- `default_generate`.
abbrev pub level_scheduler : LevelOptions → ℕ → Scheduler
level_scheduler o most = record {
  propose = level_picks o most;
  validate = λ view spec. true;
  generate = default_generate;
}
