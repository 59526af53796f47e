-- The laws on reads: a run that a join or a move makes of some nodes answers reads as the flushes that
-- went into these nodes.
use Rattle.std.specs.Prelude.{◌≡◌, ◌≢◌, ℕ, ◌≤◌, int_le, Bool, true, false, IsTrue, List, [], ◌∷◌, flat_map, ⊤}
use Rattle.std.specs.List.{AllByRecursion}
use Rattle.row_model.specs.Lists.{Pairs}
use Rattle.row_model.specs.Rows.{IsStrictlyOrdered}
use Rattle.row_model.specs.Fold.{Operator}
use Rattle.row_model.specs.Settings.{Settings}
use Rattle.row_model.specs.JobRows.{job_rows}
use Rattle.fleet_model.specs.Nodes.{Tables, table_rows, Run, Node, Tree, node_rows}
use Rattle.fleet_model.specs.Store.{Store}
use Rattle.fleet_model.specs.Work.Attempts.{noted_rows, source_rows}
use Rattle.fleet_model.specs.Trees.{by_first_key, are_apart}
use Rattle.fleet_model.specs.Invariants.TreesFit.{IsNewer}
use Rattle.fleet_model.specs.Invariants.ReadsFit.{NodeKeepsReads}

-- The run of these tables that replaces some nodes. It has all their flushes.
abbrev pub run_for : ℕ → List ℕ → Tree → Node
run_for id pieces taken = record {
  name = Run id;
  flushes = flat_map (λ (node : Node). node.flushes) taken;
  pieces = pieces;
}

-- Each node of a part of a tree keeps reads. The flag says that no node of the tree is older than the
-- part.
abbrev pub PartKeepsReads : (merge : Operator) (store : Store) (oldest : Bool) (tree : Tree) → Type 0
PartKeepsReads merge store oldest [] = ⊤
PartKeepsReads merge store oldest (node ∷ []) = NodeKeepsReads merge store oldest node
PartKeepsReads merge store oldest (node ∷ other ∷ tree) =
    NodeKeepsReads merge store false node × PartKeepsReads merge store oldest (other ∷ tree)

-- Some nodes of a tree, newest first: their rows are ordered, and they keep reads.
pub record IsPart (merge : Operator) (store : Store) (oldest : Bool) (nodes : Tree) : Type 0 where
  pub newest_first : Pairs (IsNewer store.tables) nodes
  pub ordered : AllByRecursion (λ (node : Node). IsStrictlyOrdered (node_rows store.tables node)) nodes
  pub reads : PartKeepsReads merge store oldest nodes

-- The outputs of a join are all rows that the settings make of the nodes' tables. The cut is at most
-- the horizon, the tick is at most the stored one, and only a run of the oldest nodes is a last run.
pub record JoinMakes (merge : Operator) (store : Store) (oldest : Bool) (taken : Tree) (outputs : List ℕ)
    (settings : Settings) : Type 0 where
  pub rows : job_rows merge settings (source_rows store.tables (flat_map (λ (node : Node). node.pieces) taken))
      ≡ record { rows = noted_rows store.tables outputs; whole = true }
  pub cut : settings.cut ≤ store.manifest.horizon
  pub tick : IsTrue (int_le settings.tick store.manifest.tick)
  pub last_run : settings.last_run ≡ true → oldest ≡ true

-- Each table is ordered and not empty.
abbrev pub AreTables : Tables → List ℕ → Type 0
AreTables tables pieces =
    AllByRecursion (λ t. (table_rows tables t ≢ []) × IsStrictlyOrdered (table_rows tables t)) pieces

-- The tables of the nodes, in the order of their first keys.
abbrev pub moved_tables : Tables → Tree → List ℕ
moved_tables tables taken = by_first_key tables (flat_map (λ (node : Node). node.pieces) taken)

-- A run that a join or a move makes of some nodes keeps reads as they did. So every read from the
-- horizon and the tick on answers as the flushes in the run, whatever rows are above and below.
pub record RunsKeepReads (merge : Operator) : Type 0 where
  pub joins : (store : Store) (oldest : Bool) (node : Node) (nodes : Tree) (id : ℕ) (outputs : List ℕ)
      (settings : Settings)
      → IsPart merge store oldest (node ∷ nodes)
      → JoinMakes merge store oldest (node ∷ nodes) outputs settings
      → NodeKeepsReads merge store oldest (run_for id outputs (node ∷ nodes))
  pub moves : (store : Store) (oldest : Bool) (node : Node) (nodes : Tree) (id : ℕ)
      → IsPart merge store oldest (node ∷ nodes)
      → AreTables store.tables (flat_map (λ (n : Node). n.pieces) (node ∷ nodes))
      → IsTrue (are_apart store.tables (moved_tables store.tables (node ∷ nodes)))
      → NodeKeepsReads merge store oldest (run_for id (moved_tables store.tables (node ∷ nodes)) (node ∷ nodes))
