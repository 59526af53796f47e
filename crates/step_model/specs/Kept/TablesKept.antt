-- What lawful calls keep of tables and flushes: each table has one use.
use Rattle.std.specs.Prelude.{◌≡◌, ◌≢◌, ◌⊎◌, ℕ, ◌≤◌, Bool, false, not, ◌&&◌, IsTrue, List, [], ◌∷◌, flat_map, Option, Some, None, ⊤}
use Rattle.std.specs.List.{list_all, AllByRecursion}
use Rattle.row_model.specs.Lists.{Pairs}
use Rattle.fleet_model.specs.Nodes.{NodeName, L0, Run, Node, names_contain, names, is_among, Tables, Trees}
use Rattle.fleet_model.specs.Jobs.{Job, Jobs, is_active, contains}
use Rattle.fleet_model.specs.History.{Entry, stood}
use Rattle.fleet_model.specs.Store.{Manifest}
use Rattle.fleet_model.specs.Handles.{tree_tables, job_tables}
use Rattle.fleet_model.specs.Work.Gates.{reserves_nodes}
use Rattle.fleet_model.specs.Invariants.JobsFit.{was_joined}
use Rattle.step_model.specs.Entries.{drawn_tables, last_name, put_tables, tables_brought_in, was_flushed}
use Rattle.step_model.specs.LawfulTables.{was_piece}

-- ---- tables that were put

-- The id of the table was drawn, or it is at most the greatest name that a flush has used.
abbrev pub IsKnownTable : List Entry → ℕ → Type 0
IsKnownTable history table = IsTrue (contains (drawn_tables history) table) ⊎ (table ≤ last_name history)

-- Each table that was put has a known id. A put that took effect is the only one of its table, and
-- the table is there. So are the tables of flushes and the outputs of finishes that took effect.
pub record PutsKept (history : List Entry) (tables : Tables) : Type 0 where
  pub known : AllByRecursion (λ table. IsKnownTable history table.0) tables
  pub put : AllByRecursion (λ id. IsTrue (is_among tables id)) (put_tables history)
  pub once : Pairs (λ a b. a ≢ b) (put_tables history)
  pub brought : AllByRecursion
      (λ entry. AllByRecursion (λ id. IsTrue (is_among tables id))
      (tables_brought_in (stood entry.answer) entry.event)) history

-- ---- tables of nodes

-- The id of the table was drawn, or a flush of this name took effect.
abbrev pub IsKnownPiece : List Entry → ℕ → Type 0
IsKnownPiece history table = IsTrue (contains (drawn_tables history) table) ⊎ IsTrue (was_flushed history table)

-- The flushes that went into a node took effect. A node that is a flush has its table alone.
abbrev pub IsFlush : List Entry → Node → NodeName → Type 0
IsFlush history node (L0 name) =
    IsTrue (was_flushed history name) × (node.pieces ≡ name ∷ []) × (node.flushes ≡ name ∷ [])
IsFlush history node (Run id) = AllByRecursion (λ name. IsTrue (was_flushed history name)) node.flushes

-- The watermark of a tree is a flush that took effect and is no node of the tree any more. So a
-- coordinator that stops at the watermark has seen all flushes of the tree.
abbrev pub IsPassed : List Entry → List NodeName → Option ℕ → Type 0
IsPassed history names None = ⊤
IsPassed history names (Some flush) = IsTrue (was_flushed history flush) × (names_contain names (L0 flush) ≡ false)

-- No table is in both lists.
abbrev pub AreApart : (xs ys : List ℕ) → Type 0
AreApart xs ys = IsTrue (list_all (λ x. not (contains ys x)) xs)

-- Each table that a node of a past manifest holds is known. In the stored trees the flushes of each
-- node took effect, the watermarks are passed, and no table is in two trees.
pub record PiecesKept (history : List Entry) (past : List Manifest) (trees : Trees) : Type 0 where
  pub pieces : AllByRecursion
      (λ manifest. AllByRecursion (IsKnownPiece history) (flat_map tree_tables manifest.trees)) past
  pub flushes : AllByRecursion (λ s. AllByRecursion (λ node. IsFlush history node node.name) s.tree) trees
  pub watermarks : AllByRecursion (λ s. IsPassed history (names s.tree) s.watermark) trees
  pub apart : Pairs (λ a b. AreApart (tree_tables a) (tree_tables b)) trees

-- ---- tables of jobs

-- If the name is that of a flush, the flush took effect.
abbrev pub IsFlushed : List Entry → NodeName → Type 0
IsFlushed history (L0 name) = IsTrue (was_flushed history name)
IsFlushed history (Run id) = ⊤

-- True if the job is active and none of its joins took effect.
abbrev pub is_unjoined : List Entry → Job → Bool
is_unjoined history job = is_active job && not (was_joined history job.id)

-- If both jobs are active, they name no table in common.
abbrev pub NameApart : (a b : Job) → Type 0
NameApart a b = IsTrue (is_active a) → IsTrue (is_active b) → AreApart (job_tables a) (job_tables b)

-- The flushes among the sources of a job that holds its nodes took effect. The tables that an active
-- job names were drawn, no other active job names them, and no node ever held them before the job's
-- join.
pub record JobTablesKept (history : List Entry) (past : List Manifest) (jobs : Jobs) : Type 0 where
  pub sources : AllByRecursion
      (λ job. IsTrue (reserves_nodes job) → AllByRecursion (IsFlushed history) job.spec.sources) jobs
  pub apart : Pairs NameApart jobs
  pub drawn : AllByRecursion
      (λ job. IsTrue (is_active job)
      → AllByRecursion (λ table. IsTrue (contains (drawn_tables history) table)) (job_tables job)) jobs
  pub unused : AllByRecursion
      (λ job. IsTrue (is_unjoined history job)
      → AllByRecursion (λ table. was_piece past table ≡ false) (job_tables job)) jobs
