-- A flush in a tree of a store has its own table, so that no flush is twice in a tree.
use Rattle.std.proofs.Common.{◌≡◌, ◌≢◌, refl, sym, ◌∙◌, ap, subst, subst₂, ℕ, ◌<◌, List, [], ◌∷◌, ◌++◌, append-nil, cond, Bool, true, false, not, ◌||◌, arith, ◌⊎◌, inl, inr}
use Rattle.std.specs.Prelude.{Option, Some, None, ⊤, filter, find, flat_map, bytes_eq, ◌==◌}
use Rattle.std.specs.Ordering.{is_lt}
use Rattle.std.specs.List.{AllByRecursion, list_all}
use Rattle.row_model.specs.Lists.{Pairs}
use Rattle.row_model.specs.Rows.{Row, key_cmp}
use Rattle.fleet_model.specs.Work.Gates.{are_distinct}
use Rattle.fleet_model.specs.History.{Entry, Event, PutManifest, PutRecords, ManifestChange, ManifestEpoch, Flush, Commit, Step, Join, Move, Drain, stood}
use Rattle.fleet_model.specs.Jobs.{JobSpec}
use Rattle.fleet_model.specs.Nodes.{Node, NodeName, L0, Run, Tables, Tree, Trees, flushed_node_rows, is_among, names, names_contain, node_rows, rows_or_none, table_rows}
use Rattle.fleet_model.specs.Past.Replay.{IsReplayed, Objects, after_entry, after_event, after_manifest_change, outputs_in, plain_objects, replayed_objects}
use Rattle.fleet_model.specs.Store.{Store, WerePut, fresh_store}
use Rattle.fleet_model.specs.Trees.{empty_segment, flushed_trees, flushed_on, is_run_below, job_of, put_run, stepped_tree, stepped_all, stepped_in, to_run, watermark_after, with_run_for, without_nodes}
use Rattle.fleet_model.specs.Invariants.TreesFit.{IsNewer, IsTable, StandsBefore, node_and_flushed_rows}
use Rattle.sched_laws.proofs.Lists.{all_back, all_weaken, both_true}
use Rattle.sched_laws.proofs.Names.{In, distinct_from, in_cases}

-- ---- flushes through the replay

-- A flush went into itself alone.
abbrev OwnFlush : NodeName → List ℕ → Type 0
OwnFlush (L0 name) flushes = flushes ≡ name ∷ []
OwnFlush (Run id) flushes = ⊤

abbrev pub IsOwn : Node → Type 0
IsOwn node = OwnFlush node.name node.flushes

abbrev pub AreOwn : Trees → Type 0
AreOwn trees = AllByRecursion (λ s. AllByRecursion IsOwn s.tree) trees

own_filtered : (test : Node → Bool) (tree : Tree) → AllByRecursion IsOwn tree → AllByRecursion IsOwn (filter test tree)
own_filtered test [] own = tt
own_filtered test (node ∷ tree) own = by (test node) (own_filtered test tree own.1)
  where
    by : (b : Bool) → AllByRecursion IsOwn (filter test tree) → AllByRecursion IsOwn (cond b (node ∷ filter test tree) (filter test tree))
    by true later = (own.0, later)
    by false later = later

own_with_run : (id : ℕ) (run : Node) (tree : Tree) → IsOwn run → AllByRecursion IsOwn tree → AllByRecursion IsOwn (put_run id run tree)
own_with_run id run [] first own = (first, tt)
own_with_run id run (node ∷ tree) first own = by (is_run_below id node.name) (own_with_run id run tree first own.1)
  where
    by : (b : Bool) → AllByRecursion IsOwn (put_run id run tree) → AllByRecursion IsOwn (cond b (run ∷ node ∷ tree) (node ∷ put_run id run tree))
    by true later = (first, own)
    by false later = (own.0, later)

own_joined : (sources : List NodeName) (destination : Option ℕ) (pieces : List ℕ) (tree : Tree) → AllByRecursion IsOwn tree → AllByRecursion IsOwn (to_run (λ id. with_run_for sources id pieces) destination tree)
own_joined sources None pieces tree own = own
own_joined sources (Some id) pieces tree own = own_with_run id _ (without_nodes sources tree) tt (own_filtered (λ node. not (names_contain sources node.name)) tree own)

own_stepped : (tables : Tables) (step : Step) (spec : JobSpec) (outputs : List ℕ) (tree : Tree) → AllByRecursion IsOwn tree → AllByRecursion IsOwn (stepped_tree tables step spec outputs tree)
own_stepped tables (Join job) spec outputs tree own = own_joined spec.sources spec.destination outputs tree own
own_stepped tables (Move job) spec outputs tree own = own_joined spec.sources spec.destination _ tree own
own_stepped tables (Drain job) spec outputs tree own = own_filtered (λ node. not (names_contain spec.sources node.name)) tree own

own_stepped_in : (tables : Tables) (step : Step) (spec : JobSpec) (outputs : List ℕ) (trees : Trees) → AreOwn trees → AreOwn (stepped_in tables step spec outputs trees)
own_stepped_in tables step spec outputs [] own = tt
own_stepped_in tables step spec outputs (s ∷ trees) own = (by (bytes_eq spec.segment s.prefix), own_stepped_in tables step spec outputs trees own.1)
  where
    by : (b : Bool) → AllByRecursion IsOwn (cond b (record s { tree = stepped_tree tables step spec outputs s.tree; watermark = watermark_after spec.sources s.tree s.watermark }) s).tree
    by true = own_stepped tables step spec outputs s.tree own.0
    by false = own.0

own_stepped_all : (tables : Tables) (jobs : ℕ → JobSpec × List ℕ) (steps : List Step) (trees : Trees) → AreOwn trees → AreOwn (stepped_all tables jobs steps trees)
own_stepped_all tables jobs [] trees own = own
own_stepped_all tables jobs (step ∷ steps) trees own =
    own_stepped_all tables jobs steps _ (own_stepped_in tables step (jobs (job_of step)).0 (jobs (job_of step)).1 trees own)

own_flushed : (prefix : List ℕ) (name : ℕ) (rows : List Row) (trees : Trees) → AreOwn trees → AreOwn (flushed_trees prefix name rows trees)
own_flushed prefix name rows [] own = ((refl, tt), tt)
own_flushed prefix name rows (s ∷ trees) own = by (bytes_eq prefix s.prefix) (is_lt (key_cmp prefix s.prefix)) (own_flushed prefix name rows trees own.1)
  where
    by : (a b : Bool) → AreOwn (flushed_trees prefix name rows trees)
        → AreOwn (cond a (flushed_on name rows s ∷ trees) (cond b (flushed_on name rows (empty_segment prefix) ∷ s ∷ trees) (s ∷ flushed_trees prefix name rows trees)))
    by true b later = ((refl, own.0), own.1)
    by false true later = ((refl, tt), own)
    by false false later = (own.0, later)

own_changed : (tables : Tables) (specs : ℕ → JobSpec) (change : ManifestChange) (objects : Objects) → AreOwn objects.manifest.trees → AreOwn (after_manifest_change tables specs change objects).manifest.trees
own_changed tables specs (ManifestEpoch epoch) objects own = own
own_changed tables specs (Flush name segment floor tick) objects own = own_flushed segment name (table_rows tables name) objects.manifest.trees own
own_changed tables specs (Commit steps) objects own = own_stepped_all tables (λ job. (specs job, outputs_in objects.records job)) steps objects.manifest.trees own

own_after : (tables : Tables) (specs : ℕ → JobSpec) (event : Event) (objects : Objects) → AreOwn objects.manifest.trees → AreOwn (after_event tables specs event objects).manifest.trees
own_after tables specs (PutManifest change) objects own = own_changed tables specs change objects own
own_after tables specs (PutRecords change) objects own = own
own_after tables specs _ objects own = own

own_replayed : (tables : Tables) (specs : ℕ → JobSpec) (history : List Entry) (objects : Objects) → AreOwn objects.manifest.trees → AreOwn (replayed_objects tables specs history objects).manifest.trees
own_replayed tables specs [] objects own = own
own_replayed tables specs (entry ∷ history) objects own = own_replayed tables specs history (after_entry tables specs entry objects) (by (stood entry.answer))
  where
    by : (b : Bool) → AreOwn (cond b (after_event tables specs entry.event objects) objects).manifest.trees
    by true = own_after tables specs entry.event objects own
    by false = own

-- Each flush in the trees of a store went into itself alone.
pub stored_are_own : (store : Store) → IsReplayed store → AreOwn store.manifest.trees
stored_are_own store replay =
    subst (λ (objects : Objects). AreOwn objects.manifest.trees) (sym replay.objects) (own_replayed store.tables replay.specs store.history (plain_objects fresh_store) (tt, tt))

-- ---- rows of flushes

rows_of_put : (tables : Tables) (name : ℕ) → AllByRecursion (λ table. IsTable table.1) tables → is_among tables name ≡ true → table_rows tables name ≢ []
rows_of_put [] name all there none = cc there
rows_of_put (table ∷ tables) name all there none = by (table.0 == name) there none (rows_of_put tables name all.1)
  where
    by : (b : Bool) → (b || is_among tables name) ≡ true → rows_or_none (cond b (Some table) (find (λ held. held.0 == name) tables)) ≡ []
        → (is_among tables name ≡ true → table_rows tables name ≢ []) → ⊥
    by true there none later = all.0.some none
    by false there none later = later there none

-- Rows that are newer than themselves are none.
never_newer : (rows : List Row) → AllByRecursion (λ r. AllByRecursion (λ q. q.seq < r.seq) rows) rows → rows ≢ [] → ⊥
never_newer [] newer some = some refl
never_newer (r ∷ rows) newer some = let below : r.seq < r.seq = newer.0.0 in omega (arith, below)

module _ (store : Store) (sound : AllByRecursion (λ table. IsTable table.1) store.tables) where
  flushed_alike : (newer older : Node) → IsNewer store.tables newer older → flushed_node_rows store.tables newer ≡ flushed_node_rows store.tables older → flushed_node_rows store.tables newer ≢ [] → ⊥
  flushed_alike newer older above same some =
      let tables = store.tables in
      let rows : List Row = flushed_node_rows store.tables newer in
      let all = all_back (λ r. AllByRecursion (λ q. q.seq < r.seq) (node_and_flushed_rows tables older)) (node_rows tables newer) rows above in
      let apart = all_weaken (λ r. AllByRecursion (λ q. q.seq < r.seq) (node_and_flushed_rows tables older)) (λ r. AllByRecursion (λ q. q.seq < r.seq) (flushed_node_rows tables older))
      (λ r below. all_back (λ q. q.seq < r.seq) (node_rows tables older) (flushed_node_rows tables older) below) rows all in
      never_newer rows (subst (λ l. AllByRecursion (λ r. AllByRecursion (λ q. q.seq < r.seq) l) rows) (sym same) apart) some

  flush_has_rows : (name : ℕ) (node : Node) → node.flushes ≡ name ∷ [] → WerePut store node.flushes → flushed_node_rows store.tables node ≢ []
  flush_has_rows name node own put none =
      let there : list_all (is_among store.tables) (name ∷ []) ≡ true = subst (WerePut store) own put in
      let rows : flushed_node_rows store.tables node ≡ table_rows store.tables name ++ [] = ap (λ l. flat_map (table_rows store.tables) l) own in
      rows_of_put store.tables name sound (both_true (is_among store.tables name) true there).0 (sym (append-nil (table_rows store.tables name)) ∙ sym rows ∙ none)

  -- Two nodes of a tree, one newer than the other, do not have the same name.
  never_same : (newer older : Node) → StandsBefore newer.name older.name → IsNewer store.tables newer older → IsOwn newer → IsOwn older → WerePut store newer.flushes → newer.name ≡ older.name → ⊥
  never_same newer older before above own own_too put same = by newer.name refl
    where
      by : (name : NodeName) → newer.name ≡ name → ⊥
      by (Run id) e =
          let both : StandsBefore (Run id) (Run id) = subst₂ StandsBefore e (sym same ∙ e) before in
          omega (arith, both)
      by (L0 name) e =
          let mine : newer.flushes ≡ name ∷ [] = subst (λ n. OwnFlush n newer.flushes) e own in
          let theirs : older.flushes ≡ name ∷ [] = subst (λ n. OwnFlush n older.flushes) (sym same ∙ e) own_too in
          flushed_alike newer older above (ap (λ l. flat_map (table_rows store.tables) l) (mine ∙ sym theirs)) (flush_has_rows name newer mine put)

  not_later : (newer : Node) (tree : Tree) → AllByRecursion (StandsBefore newer.name) (names tree) → AllByRecursion (IsNewer store.tables newer) tree → IsOwn newer → AllByRecursion IsOwn tree → WerePut store newer.flushes
      → In newer.name (names tree) → ⊥
  not_later newer [] before above own owns put there = cc there
  not_later newer (node ∷ tree) before above own owns put there =
      by (in_cases newer.name node.name (names tree) there) (not_later newer tree before.1 above.1 own owns.1 put)
    where
      by : (node.name ≡ newer.name) ⊎ In newer.name (names tree) → (In newer.name (names tree) → ⊥) → ⊥
      by (inl same) later = never_same newer node before.0 above.0 own owns.0 put (sym same)
      by (inr rest) later = later rest

  -- No node is named twice in a tree.
  pub tree_named_once : (tree : Tree) → Pairs StandsBefore (names tree) → Pairs (IsNewer store.tables) tree → AllByRecursion IsOwn tree → AllByRecursion (λ node. WerePut store node.flushes) tree
      → are_distinct (names tree) ≡ true
  tree_named_once [] before above own put = refl
  tree_named_once (node ∷ tree) before above own put =
      distinct_from node.name (names tree) (not_later node tree before.0 above.0 own.0 own.1 put.0) (tree_named_once tree before.1 above.1 own.1 put.1)
