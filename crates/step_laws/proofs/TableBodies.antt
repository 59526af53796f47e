-- A table that is put under a new id leaves what the other tables are.
use Rattle.std.proofs.Common.{◌≡◌, ◌≢◌, refl, sym, ◌∙◌, ap, subst, ℕ, List, [], ◌∷◌, ◌++◌, cond, Bool, true, false, inl, inr, Option, Some, None}
use Rattle.std.specs.Prelude.{IsTrue, IfSome, is_some, ◌==◌, ◌||◌, map}
use Rattle.std.specs.List.{AllByRecursion, list_all, concat}
use Rattle.std.proofs.lemmas.List.{append-nil}
use Rattle.std.proofs.lemmas.Bool.Decides.{Decides-eqb}
use Rattle.row_model.specs.Lists.{Pairs, IsPrefixOf}
use Rattle.row_model.specs.Rows.{Row, IsStrictlyOrdered, sorted_rows}
use Rattle.row_model.specs.Ranges.{Range}
use Rattle.row_model.specs.Written.Plan.{planned_ranges}
use Rattle.row_model.specs.Fold.{Operator}
use Rattle.fleet_model.specs.Nodes.{Tables, is_among, table_rows, Node, Tree, Segment, node_rows, flushed_node_rows}
use Rattle.fleet_model.specs.Jobs.{JobSpec, Job, Context, Status, Submitted, Scheduled, Running, Compacted, Completed, Failed, status_eq, is_finished, has_status, is_active}
use Rattle.fleet_model.specs.History.{Entry, stood}
use Rattle.fleet_model.specs.Store.{Store, stored_jobs, fresh_store, is_held}
use Rattle.fleet_model.specs.Past.Replay.{plain_objects}
use Rattle.fleet_model.specs.Handles.{context_tables, job_tables}
use Rattle.fleet_model.specs.Work.Attempts.{source_rows, range_rows, noted_rows}
use Rattle.fleet_model.specs.Invariants.TreesFit.{IsTable, IsTree, IsNewer, IsAtMost, node_and_flushed_rows}
use Rattle.fleet_model.specs.Invariants.JobsFit.{OutputsFit}
use Rattle.fleet_model.specs.Invariants.AttemptsFit.{ContextFits}
use Rattle.fleet_model.specs.Invariants.ReadsFit.{TreeKeepsReads}
use Rattle.fleet_model.specs.Past.Claimed.{settings_of}
use Rattle.step_model.specs.Past.{World}
use Rattle.step_model.specs.Entries.{tables_brought_in}
use Rattle.step_model.specs.Kept.Faithful.{Faithful}
use Rattle.step_model.specs.Kept.TablesKept.{PutsKept}
use Rattle.step_laws.proofs.Elements.{IsIn, all_at, all_from, all_to, all_push, all_front, all_back, all_unflat, pairs_push, all_true_front, all_true_from, any_of}
use Rattle.step_laws.proofs.Alike.{SameReplays, settings_same}
use Rattle.step_laws.proofs.Bodies.{JobFits, JobKept, Body}
use Rattle.step_laws.proofs.Held.{are_put, among_grows, held_grows, held_shrinks, rows_stay, flat_rows_stay}
use Rattle.step_laws.proofs.MuteBodies.{Matches}
use Rattle.step_laws.proofs.TableReplays.{IsPut, replay_same}

-- The world of a store with one table more, before the entry of its put.
abbrev pub with_table : World → ℕ × List Row → World
with_table world new = record { store = record world.store { tables = world.store.tables ++ new ∷ [] }; past = world.past }

-- ---- replays

pub same_with_table : (world : World) (new : ℕ × List Row) (specs : ℕ → JobSpec) → PutsKept world.store.history world.store.tables
    → SameReplays (world.store.tables ++ new ∷ []) specs world.store.tables specs world.store.history (plain_objects fresh_store) (plain_objects fresh_store)
same_with_table world new specs puts front back e =
    replay_same world.store.tables new specs front (plain_objects fresh_store)
    (all_front _ front back (subst (λ h. AllByRecursion (λ (entry : Entry). AllByRecursion (IsPut world.store.tables) (tables_brought_in (stood entry.answer) entry.event)) h) (sym e) puts.brought))
    (record { trees = (tt, tt); outputs = tt })

pub faithful_with_table : (world : World) (new : ℕ × List Row) (specs : ℕ → JobSpec) → PutsKept world.store.history world.store.tables → Faithful world specs → Faithful (with_table world new) specs
faithful_with_table world new specs puts f = record {
  agrees = f.agrees;
  manifests = λ front back e. subst (Matches world.past) (sym (same_with_table world new specs puts front back e)) (f.manifests front back e);
}

pub faithful_without_table : (world : World) (new : ℕ × List Row) (specs : ℕ → JobSpec) → PutsKept world.store.history world.store.tables → Faithful (with_table world new) specs → Faithful world specs
faithful_without_table world new specs puts f = record {
  agrees = f.agrees;
  manifests = λ front back e. subst (Matches world.past) (same_with_table world new specs puts front back e) (f.manifests front back e);
}

-- ---- rows

node_stays : (tables : Tables) (new : ℕ × List Row) (node : Node) → IsTrue (list_all (is_among tables) node.pieces) → node_rows (tables ++ new ∷ []) node ≡ node_rows tables node
node_stays tables new node put = flat_rows_stay tables new node.pieces put

flushes_stay : (tables : Tables) (new : ℕ × List Row) (node : Node) → IsTrue (list_all (is_among tables) node.flushes) → flushed_node_rows (tables ++ new ∷ []) node ≡ flushed_node_rows tables node
flushes_stay tables new node put = flat_rows_stay tables new node.flushes put

all_rows_stay : (tables : Tables) (new : ℕ × List Row) (node : Node) → IsTrue (list_all (is_among tables) node.pieces) → IsTrue (list_all (is_among tables) node.flushes) → node_and_flushed_rows (tables ++ new ∷ []) node ≡ node_and_flushed_rows tables node
all_rows_stay tables new node put flushes =
    let rows = node_stays tables new node put in
    let flushed = flushes_stay tables new node flushes in
    λ i. rows i ++ flushed i

maps_stay : (tables : Tables) (new : ℕ × List Row) (ids : List ℕ) → IsTrue (list_all (is_among tables) ids) → map (table_rows (tables ++ new ∷ [])) ids ≡ map (table_rows tables) ids
maps_stay tables new [] put = refl
maps_stay tables new (id ∷ ids) put =
    let parts = all_true_front (is_among tables) (id ∷ ids) put in
    let first = rows_stay tables new id parts.0 in
    let rest = maps_stay tables new ids (all_true_from (is_among tables) ids parts.1) in
    λ i. first i ∷ rest i

-- ---- trees

pub pairs_to : {A : Type 0} (R S : A → A → Type 0) (xs : List A) → ((x y : A) → IsIn x xs → IsIn y xs → R x y → S x y) → Pairs R xs → Pairs S xs
pairs_to R S [] f h = tt
pairs_to R S (x ∷ xs) f h = (all_to _ _ xs (λ y there one. f x y (inl refl) (inr there) one) h.0, pairs_to R S xs (λ a b one other. f a b (inr one) (inr other)) h.1)

-- The tables and the flushes of a node were put.
pub record NodePut (tables : Tables) (node : Node) : Type 0 where
  pub pieces : IsTrue (list_all (is_among tables) node.pieces)
  pub flushes : IsTrue (list_all (is_among tables) node.flushes)

-- A segment whose tables and flushes were put stays in order as another table is put.
pub tree_stays : (tables : Tables) (new : ℕ × List Row) (s : Segment) → AllByRecursion (NodePut tables) s.tree → IsTree tables s → IsTree (tables ++ new ∷ []) s
tree_stays tables new s put h = record {
  names_in_order = h.names_in_order;
  newest_first = pairs_to _ _ s.tree (λ a b one other newer. newer_stays a b (rows a one) (rows b other) newer) h.newest_first;
  at_most_last = all_to _ _ s.tree (λ node there low. subst (λ rows. AllByRecursion (λ (r : Row). IsAtMost s.last_seq r.seq) rows) (sym (rows node there)) low) h.at_most_last;
  ordered = all_to _ _ s.tree (λ node there one. subst IsStrictlyOrdered (sym (node_stays tables new node (all_at _ s.tree node put there).pieces)) one) h.ordered;
}
  where
    rows : (node : Node) → IsIn node s.tree → node_and_flushed_rows (tables ++ new ∷ []) node ≡ node_and_flushed_rows tables node
    rows node there = let all = all_at _ s.tree node put there in all_rows_stay tables new node all.pieces all.flushes

    newer_stays : (a b : Node) → node_and_flushed_rows (tables ++ new ∷ []) a ≡ node_and_flushed_rows tables a → node_and_flushed_rows (tables ++ new ∷ []) b ≡ node_and_flushed_rows tables b → IsNewer tables a b → IsNewer (tables ++ new ∷ []) a b
    newer_stays a b first second newer = rw (first, second) newer

pub reads_stay : (merge : Operator) (store : Store) (new : ℕ × List Row) (tree : Tree) → AllByRecursion (NodePut store.tables) tree → TreeKeepsReads merge store tree → TreeKeepsReads merge (record store { tables = store.tables ++ new ∷ [] }) tree
reads_stay merge store new [] put h = tt
reads_stay merge store new (node ∷ []) put h = λ key. rw (node_stays store.tables new node put.0.pieces, flushes_stay store.tables new node put.0.flushes) (h key)
reads_stay merge store new (node ∷ other ∷ tree) put h =
    ((λ key. rw (node_stays store.tables new node put.0.pieces, flushes_stay store.tables new node put.0.flushes) (h.0 key)), reads_stay merge store new (other ∷ tree) put.1 h.1)

-- ---- one job

open_is_active : (s : Status) → IsTrue (status_eq Scheduled s || status_eq Running s) → IsTrue (cond (is_finished s) false true)
open_is_active Submitted h = refl
open_is_active Scheduled h = refl
open_is_active Running h = refl
open_is_active Compacted h = refl
open_is_active Completed h = absurd (cc h)
open_is_active Failed h = absurd (cc h)

compacted_is_active : (s : Status) → IsTrue (status_eq Compacted s) → IsTrue (cond (is_finished s) false true)
compacted_is_active Compacted h = refl
compacted_is_active Completed h = absurd (cc h)
compacted_is_active Failed h = absurd (cc h)
compacted_is_active s h = refl

-- A Scheduled, Running or Compacted job is active.
pub active_if_open : (job : Job) → IsTrue (has_status Scheduled job || has_status Running job) → IsTrue (is_active job)
active_if_open job h = open_is_active job.status h

pub active_if_compacted : (job : Job) → IsTrue (has_status Compacted job) → IsTrue (is_active job)
active_if_compacted job h = compacted_is_active job.status h

all_parts_put : (tables : Tables) (xs ys : List ℕ) → IsTrue (list_all (is_among tables) (xs ++ ys)) → IsTrue (list_all (is_among tables) xs) × IsTrue (list_all (is_among tables) ys)
all_parts_put tables xs ys put =
    let all = all_true_front (is_among tables) (xs ++ ys) put in
    (all_true_from (is_among tables) xs (all_front _ xs ys all), all_true_from (is_among tables) ys (all_back _ xs ys all))

-- What the invariant says of a job holds after another table is put.
fits_with_table : (merge : Operator) (world : World) (new : ℕ × List Row) (specs : ℕ → JobSpec) (job : Job) → PutsKept world.store.history world.store.tables → JobFits merge world.store specs job → JobFits merge (with_table world new).store specs job
fits_with_table merge world new specs job puts h = record {
  sources = h.sources;
  context = record { there = h.context.there; fits = context job.context refl h.context.fits };
  outputs = λ compacted. outputs compacted (h.outputs compacted);
  tables = λ active. record {
    named = all_true_from (is_held (with_table world new).store) (job_tables job) (all_to _ _ (job_tables job) (λ id there held. held_grows world.store new id held) (all_true_front (is_held world.store) (job_tables job) (h.tables active).named));
    sources = all_true_from (is_among (world.store.tables ++ new ∷ [])) job.source_tables (all_to _ _ job.source_tables (λ id there put. among_grows world.store.tables new id put) (all_true_front (is_among world.store.tables) job.source_tables (h.tables active).sources));
  };
}
  where
    claims : (attempt : ℕ) → settings_of (world.store.tables ++ new ∷ []) specs world.store.history job.id attempt ≡ settings_of world.store.tables specs world.store.history job.id attempt
    claims attempt = settings_same (world.store.tables ++ new ∷ []) world.store.tables specs specs world.store.history job.id attempt (same_with_table world new specs puts) refl

    named_put : IsTrue (is_active job) → IsTrue (list_all (is_among world.store.tables) (job_tables job))
    named_put active = are_put world.store (job_tables job) (h.tables active).named

    sources_same : IsTrue (is_active job) → source_rows (world.store.tables ++ new ∷ []) job.source_tables ≡ source_rows world.store.tables job.source_tables
    sources_same active = ap sorted_rows (flat_rows_stay world.store.tables new job.source_tables (h.tables active).sources)

    fit : (c : Context) → job.context ≡ Some c → ContextFits merge world.store specs job c → ContextFits merge (with_table world new).store specs job c
    fit c is f = record {
      claimed = record { settings = claims job.attempt ∙ f.claimed.settings; ranges = f.claimed.ranges };
      settings = f.settings;
      cut = f.cut;
      ranges = (f.ranges.0, f.ranges.1 ∙ ap (planned_ranges f.ranges.0) (sym (maps_stay world.store.tables new job.source_tables (h.tables active).sources)));
      tables = all_to _ _ c.ranges (λ range there one. range_fits range (all_at _ c.ranges range noted there) one) f.tables;
    }
      where
        active : IsTrue (is_active job)
        active = active_if_open job (h.context.there.0 (ap is_some is)).0

        noted : AllByRecursion (λ (range : Range × List ℕ). AllByRecursion (λ id. IsTrue (is_among world.store.tables id)) range.1) c.ranges
        noted = all_unflat _ (λ (range : Range × List ℕ). range.1) c.ranges
            (all_true_front (is_among world.store.tables) _ (subst (λ o. IsTrue (list_all (is_among world.store.tables) (context_tables o))) is (all_parts_put world.store.tables (context_tables job.context) (concat job.outputs) (named_put active)).0))

        range_fits : (range : Range × List ℕ) → AllByRecursion (λ id. IsTrue (is_among world.store.tables id)) range.1
            → IsPrefixOf (noted_rows world.store.tables range.1) (range_rows merge world.store.tables c.settings job.source_tables range.0).rows
            → IsPrefixOf (noted_rows (world.store.tables ++ new ∷ []) range.1) (range_rows merge (world.store.tables ++ new ∷ []) c.settings job.source_tables range.0).rows
        range_fits range put one = rw (flat_rows_stay world.store.tables new range.1 (all_true_from (is_among world.store.tables) range.1 put), sources_same active) one

    context : (o : Option Context) → job.context ≡ o → IfSome o (ContextFits merge world.store specs job) → IfSome o (ContextFits merge (with_table world new).store specs job)
    context None is f = tt
    context (Some c) is f = fit c is f

    outputs : IsTrue (has_status Compacted job) → OutputsFit merge world.store specs job → OutputsFit merge (with_table world new).store specs job
    outputs compacted f = record {
      settings = f.settings;
      claimed = claims job.attempt ∙ f.claimed;
      cut = f.cut;
      at_most_floor = f.at_most_floor;
      fit = f.fit;
      rows = λ held. rw (sources_same active, flat_rows_stay world.store.tables new (concat job.outputs) (all_parts_put world.store.tables (context_tables job.context) (concat job.outputs) (named_put active)).1)
          (f.rows (all_true_from (is_held world.store) job.source_tables (all_from _ job.source_tables (λ id there.
          held_shrinks world.store new id (all_at _ _ id (all_true_front (is_among world.store.tables) job.source_tables (h.tables active).sources) there) (all_at _ _ id (all_true_front (is_held (with_table world new).store) job.source_tables held) there)))));
    }
      where
        active : IsTrue (is_active job)
        active = active_if_compacted job compacted

-- ---- the whole

put_nodes : (merge : Operator) (world : World) (specs : ℕ → JobSpec) → Body merge world specs → AllByRecursion (λ s. AllByRecursion (NodePut world.store.tables) s.tree) world.store.manifest.trees
put_nodes merge world specs b = all_from _ world.store.manifest.trees (λ s there. all_from _ s.tree (λ node one. record {
  pieces = are_put world.store node.pieces (all_at _ s.tree node (all_at _ world.store.manifest.trees s b.pieces there) one);
  flushes = all_at _ s.tree node (all_at _ world.store.manifest.trees s b.flushes there) one;
}))

-- `Body` holds after a table is put under an id that no table has.
pub body_with_table : (merge : Operator) (world : World) (specs : ℕ → JobSpec) (new : ℕ × List Row) → IsTable new.1 → is_among world.store.tables new.0 ≡ false → PutsKept world.store.history world.store.tables
    → Body merge world specs → Body merge (with_table world new) specs
body_with_table merge world specs new table unused puts b = record {
  sound = record {
    tables = all_push _ world.store.tables new b.sound.tables table;
    table_ids = pairs_push _ world.store.tables new b.sound.table_ids (all_from _ world.store.tables (λ other there. different other there));
    deleted = all_true_from (is_among (world.store.tables ++ new ∷ [])) world.store.deleted
        (all_to _ _ world.store.deleted (λ id there put. among_grows world.store.tables new id put) (all_true_front (is_among world.store.tables) world.store.deleted b.sound.deleted));
    root = b.sound.root;
    prefixes = b.sound.prefixes;
    job_ids = b.sound.job_ids;
  };
  trees = record { each = all_to _ _ world.store.manifest.trees (λ s there tree. tree_stays world.store.tables new s (all_at _ world.store.manifest.trees s nodes there) tree) b.trees.each; apart = b.trees.apart; epochs = b.trees.epochs };
  held_once = b.held_once;
  pieces = all_to _ _ world.store.manifest.trees (λ s there old. all_to _ _ s.tree (λ node one held. all_true_from (is_held (with_table world new).store) node.pieces
      (all_to _ _ node.pieces (λ id in_pieces it. held_grows world.store new id it) (all_true_front (is_held world.store) node.pieces held))) old) b.pieces;
  flushes = all_to _ _ world.store.manifest.trees (λ s there old. all_to _ _ s.tree (λ node one put. all_true_from (is_among (world.store.tables ++ new ∷ [])) node.flushes
      (all_to _ _ node.flushes (λ id in_flushes it. among_grows world.store.tables new id it) (all_true_front (is_among world.store.tables) node.flushes put))) old) b.flushes;
  reads = all_to _ _ world.store.manifest.trees (λ s there old. reads_stay merge world.store new s.tree (all_at _ world.store.manifest.trees s nodes there) old) b.reads;
  objects = b.objects ∙ sym (same_with_table world new specs puts world.store.history [] (append-nil world.store.history));
  faithful = faithful_with_table world new specs puts b.faithful;
  mentioned = b.mentioned;
  trimmed_already = b.trimmed_already;
  up_to = b.up_to;
  planned = b.planned;
  once = b.once;
  nodes = b.nodes;
  name_apart = b.name_apart;
  joined = b.joined;
  epochs = b.epochs;
  past = b.past;
  jobs = all_to (JobKept merge world specs) (JobKept merge (with_table world new) specs) (stored_jobs world.store) (λ job there kept. record {
    fits = fits_with_table merge world new specs job puts kept.fits;
    facts = kept.facts;
    spec = λ others f. kept.spec others (faithful_without_table world new others puts f);
  }) b.jobs;
}
  where
    nodes : AllByRecursion (λ s. AllByRecursion (NodePut world.store.tables) s.tree) world.store.manifest.trees
    nodes = put_nodes merge world specs b

    different : (other : ℕ × List Row) → IsIn other world.store.tables → other.0 ≢ new.0
    different other there same = refused (is_among world.store.tables new.0) unused (any_of (λ (table : ℕ × List Row). table.0 == new.0) world.store.tables other there ((Decides-eqb other.0 new.0).1 same))
      where
        refused : (b : Bool) → b ≡ false → b ≡ true → ⊥
        refused true e f = absurd (cc e)
        refused false e f = absurd (cc f)
