-- The laws on flushes: which flushes count in a tree, by the history.
use Rattle.std.specs.Prelude.{◌≡◌, ℕ, Bool, true, false, not, if◌then◌else◌, List, [], ◌∷◌, filter, flat_map, bytes_eq}
use Rattle.std.specs.List.{list_any}
use Rattle.fleet_model.specs.Nodes.{Tables, Tree, Trees, tree_at}
use Rattle.fleet_model.specs.Jobs.{JobSpec, contains}
use Rattle.fleet_model.specs.History.{Step, Join, Move, Drain, ManifestChange, ManifestEpoch, Flush, Commit, Event, PutManifest, Entry, stood}
use Rattle.fleet_model.specs.Store.{fresh_store}
use Rattle.fleet_model.specs.Trees.{source_nodes, stepped_in, job_of}
use Rattle.fleet_model.specs.Past.Replay.{Objects, after_entry, plain_objects}
use Rattle.step_model.specs.Past.{World}
use Rattle.step_model.specs.Kept.Faithful.{Faithful}

-- The flushes that went into the nodes of a tree, in the order of the nodes.
abbrev pub flushes_in : Tree → List ℕ
flushes_in tree = flat_map (λ node. node.flushes) tree

-- ---- the steps of a commit

-- The flushes that a step takes out of the segment with this prefix. A drain takes those of its sources, and
-- a join and a move take none.
abbrev pub taken_by : (prefix : List ℕ) (trees : Trees) (step : Step) (spec : JobSpec) → List ℕ
taken_by prefix trees (Join job) spec = []
taken_by prefix trees (Move job) spec = []
taken_by prefix trees (Drain job) spec =
    if bytes_eq prefix spec.segment then flushes_in (source_nodes spec.sources (tree_at prefix trees)) else []

-- These flushes, but for the taken ones.
abbrev pub without_flushes : (taken flushes : List ℕ) → List ℕ
without_flushes taken flushes = filter (λ flush. not (contains taken flush)) flushes

-- What the steps of a commit leave of these flushes of a segment, one step after the other.
abbrev pub left_by : (tables : Tables) (jobs : ℕ → JobSpec × List ℕ) (prefix : List ℕ) (steps : List Step)
    (trees : Trees) (flushes : List ℕ) → List ℕ
left_by tables jobs prefix [] trees flushes = flushes
left_by tables jobs prefix (step ∷ steps) trees flushes =
    left_by tables jobs prefix steps (stepped_in tables step (jobs (job_of step)).0 (jobs (job_of step)).1 trees)
    (without_flushes (taken_by prefix trees step (jobs (job_of step)).0) flushes)

-- ---- the history

-- True if the step is a drain.
abbrev pub is_drain_step : Step → Bool
is_drain_step (Drain job) = true
is_drain_step step = false

-- The flushes that count in a segment after a put of the manifest that took effect, given the trees after
-- it. A flush counts from its put on. Where a commit drains, those count no more that no node names then.
abbrev pub counted_after : (prefix : List ℕ) (change : ManifestChange) (trees : Trees) (flushes : List ℕ) → List ℕ
counted_after prefix (ManifestEpoch epoch) trees flushes = flushes
counted_after prefix (Flush name segment floor tick) trees flushes =
    if bytes_eq prefix segment then name ∷ flushes else flushes
counted_after prefix (Commit steps) trees flushes =
    if list_any is_drain_step steps then filter (contains (flushes_in (tree_at prefix trees))) flushes else flushes

-- Only puts of the manifest change what counts.
abbrev pub counted_in : (prefix : List ℕ) (event : Event) (trees : Trees) (flushes : List ℕ) → List ℕ
counted_in prefix (PutManifest change) trees flushes = counted_after prefix change trees flushes
counted_in prefix event trees flushes = flushes

-- The flushes that count after these entries, taken one after the other.
abbrev pub counted_from : (tables : Tables) (specs : ℕ → JobSpec) (prefix : List ℕ) (o : Objects) (flushes : List ℕ)
    (history : List Entry) → List ℕ
counted_from tables specs prefix o flushes [] = flushes
counted_from tables specs prefix o flushes (entry ∷ history) =
    let after = after_entry tables specs entry o in
    counted_from tables specs prefix after
    (if stood entry.answer then counted_in prefix entry.event after.manifest.trees flushes else flushes) history

-- The flushes of a segment whose puts stood, but for those that a drain took, the last one first.
abbrev pub undrained_flushes : (tables : Tables) (specs : ℕ → JobSpec) (prefix : List ℕ) (history : List Entry) → List ℕ
undrained_flushes tables specs prefix history = counted_from tables specs prefix (plain_objects fresh_store) [] history

-- The nodes of each tree name exactly the undrained flushes of its segment, by any faithful specs.
abbrev pub FlushesCount : World → Type 0
FlushesCount world = (specs : ℕ → JobSpec) → Faithful world specs → (prefix : List ℕ)
    → flushes_in (tree_at prefix world.store.manifest.trees)
    ≡ undrained_flushes world.store.tables specs prefix world.store.history
