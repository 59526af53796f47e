-- Reads over the nodes of a part of a tree, and of trees in parts.
use Rattle.std.proofs.Common.{◌≡◌, sym, subst, ℕ, ◌≤◌, List, [], ◌∷◌, ◌++◌, cond, Bool, true, false, arith}
use Rattle.std.specs.Prelude.{filter}
use Rattle.std.proofs.lemmas.List.{append-nil}
use Rattle.row_model.specs.Lists.{Pairs}
use Rattle.row_model.specs.Rows.{rows_of_key, sorted_rows}
use Rattle.row_model.specs.Fold.{Operator}
use Rattle.fleet_model.specs.Nodes.{Node, Tree, node_rows, flushed_node_rows}
use Rattle.fleet_model.specs.Store.{Store}
use Rattle.fleet_model.specs.Invariants.TreesFit.{IsNewer}
use Rattle.fleet_model.specs.Invariants.ReadsFit.{SameReads, NodeKeepsReads, TreeKeepsReads}
use Rattle.fleet_model.proofs.Joins.{same_reads-append, same_reads-oldest}
use Rattle.fleet_laws.proofs.TreeRows.{first_node, part_rows, rows_by}
use Rattle.commit_laws.specs.RunReads.{PartKeepsReads}

-- ---- a part of a tree keeps reads

pub tree_to_part : (merge : Operator) (store : Store) (tree : Tree) → TreeKeepsReads merge store tree → PartKeepsReads merge store true tree
tree_to_part merge store [] h = tt
tree_to_part merge store (node ∷ []) h = h
tree_to_part merge store (node ∷ other ∷ tree) h = (h.0, tree_to_part merge store (other ∷ tree) h.1)

pub part_to_tree : (merge : Operator) (store : Store) (tree : Tree) → PartKeepsReads merge store true tree → TreeKeepsReads merge store tree
part_to_tree merge store [] h = tt
part_to_tree merge store (node ∷ []) h = h
part_to_tree merge store (node ∷ other ∷ tree) h = (h.0, part_to_tree merge store (other ∷ tree) h.1)

-- The flag for a part in front of these nodes.
abbrev pub before_these : Bool → Tree → Bool
before_these oldest [] = oldest
before_these oldest (node ∷ tree) = false

pub part_front : (merge : Operator) (store : Store) (oldest : Bool) (xs ys : Tree) → PartKeepsReads merge store oldest (xs ++ ys) → PartKeepsReads merge store (before_these oldest ys) xs
part_front merge store oldest [] ys h = tt
part_front merge store oldest (x ∷ []) [] h = h
part_front merge store oldest (x ∷ []) (y ∷ ys) h = h.0
part_front merge store oldest (x ∷ z ∷ xs) ys h = (h.0, part_front merge store oldest (z ∷ xs) ys h.1)

pub part_back : (merge : Operator) (store : Store) (oldest : Bool) (xs ys : Tree) → PartKeepsReads merge store oldest (xs ++ ys) → PartKeepsReads merge store oldest ys
part_back merge store oldest [] ys h = h
part_back merge store oldest (x ∷ []) [] h = tt
part_back merge store oldest (x ∷ []) (y ∷ ys) h = h.1
part_back merge store oldest (x ∷ z ∷ xs) ys h = part_back merge store oldest (z ∷ xs) ys h.1

pub part_both : (merge : Operator) (store : Store) (oldest : Bool) (xs ys : Tree) → PartKeepsReads merge store (before_these oldest ys) xs → PartKeepsReads merge store oldest ys → PartKeepsReads merge store oldest (xs ++ ys)
part_both merge store oldest [] ys h k = k
part_both merge store oldest (x ∷ []) [] h k = h
part_both merge store oldest (x ∷ []) (y ∷ ys) h k = (h, k)
part_both merge store oldest (x ∷ z ∷ xs) ys h k = (h.0, part_both merge store oldest (z ∷ xs) ys h.1 k)

-- The rows of the flushes of some nodes may be replaced by the rows that the nodes hold.
pub part_reads : (merge : Operator) (store : Store) (oldest : Bool) (key : List ℕ) (node : Node) (tree : Tree) → Pairs (IsNewer store.tables) (node ∷ tree) → PartKeepsReads merge store oldest (node ∷ tree)
    → SameReads merge store.manifest oldest key (part_rows false store.tables key (node ∷ tree)) (part_rows true store.tables key (node ∷ tree))
part_reads merge store oldest key node [] newest reads =
    let plain : (b : Bool) → rows_by b store.tables node ++ [] ≡ rows_by b store.tables node = λ b. append-nil (rows_by b store.tables node) in
    subst (λ rows. SameReads merge store.manifest oldest key (sorted_rows (rows_of_key key rows)) (part_rows true store.tables key (node ∷ []))) (sym (plain false))
    (subst (λ rows. SameReads merge store.manifest oldest key (sorted_rows (rows_of_key key (flushed_node_rows store.tables node))) (sorted_rows (rows_of_key key rows))) (sym (plain true)) (reads key))
part_reads merge store oldest key node (other ∷ tree) newest reads =
    subst (λ rows. SameReads merge store.manifest oldest key rows (part_rows true store.tables key (node ∷ other ∷ tree))) (sym (first_node false store.tables key node (other ∷ tree) newest.0))
    (subst (λ rows. SameReads merge store.manifest oldest key (sorted_rows (rows_of_key key (flushed_node_rows store.tables node)) ++ part_rows false store.tables key (other ∷ tree)) rows)
    (sym (first_node true store.tables key node (other ∷ tree) newest.0))
    (same_reads-append merge store.manifest oldest key (sorted_rows (rows_of_key key (flushed_node_rows store.tables node))) (sorted_rows (rows_of_key key (node_rows store.tables node)))
    (part_rows false store.tables key (other ∷ tree)) (part_rows true store.tables key (other ∷ tree)) (reads.0 key) (part_reads merge store oldest key other tree newest.1 reads.1)))

-- ---- later horizons, and nodes taken out

-- The store with other trees and another horizon.
abbrev pub with_horizon : Store → ℕ → Store
with_horizon store horizon = record store { manifest = record store.manifest { horizon = horizon } }

later_node : (merge : Operator) (store : Store) (low high : ℕ) (oldest : Bool) (node : Node) → low ≤ high → NodeKeepsReads merge (with_horizon store low) oldest node → NodeKeepsReads merge (with_horizon store high) oldest node
later_node merge store low high oldest node rises h key s now above below from late last = h key s now above below (up low high s rises from) late last
  where
    up : (a b c : ℕ) → a ≤ b → b ≤ c → a ≤ c
    up a b c h k = omega (arith, h, k)

pub later_reads : (merge : Operator) (store : Store) (low high : ℕ) (oldest : Bool) (tree : Tree) → low ≤ high → PartKeepsReads merge (with_horizon store low) oldest tree → PartKeepsReads merge (with_horizon store high) oldest tree
later_reads merge store low high oldest [] rises h = tt
later_reads merge store low high oldest (node ∷ []) rises h = later_node merge store low high oldest node rises h
later_reads merge store low high oldest (node ∷ other ∷ tree) rises h = (later_node merge store low high false node rises h.0, later_reads merge store low high oldest (other ∷ tree) rises h.1)

node_as : (merge : Operator) (store : Store) (oldest : Bool) (node : Node) → NodeKeepsReads merge store false node → NodeKeepsReads merge store oldest node
node_as merge store true node h = λ key. same_reads-oldest merge store.manifest key _ _ (h key)
node_as merge store false node h = h

with_node : (merge : Operator) (store : Store) (oldest : Bool) (node : Node) (tree : Tree) → NodeKeepsReads merge store false node → PartKeepsReads merge store oldest tree → PartKeepsReads merge store oldest (node ∷ tree)
with_node merge store oldest node [] h k = node_as merge store oldest node h
with_node merge store oldest node (other ∷ tree) h k = (h, k)

-- If each node of a part of a tree keeps reads, so does each of those that are left when some are taken out.
pub fewer_reads : (merge : Operator) (store : Store) (oldest : Bool) (keep : Node → Bool) (tree : Tree) → PartKeepsReads merge store oldest tree → PartKeepsReads merge store oldest (filter keep tree)
fewer_reads merge store oldest keep [] h = tt
fewer_reads merge store oldest keep (node ∷ []) h = by (keep node)
  where
    by : (b : Bool) → PartKeepsReads merge store oldest (cond b (node ∷ []) [])
    by true = h
    by false = tt
fewer_reads merge store oldest keep (node ∷ other ∷ tree) h = by (keep node) (fewer_reads merge store oldest keep (other ∷ tree) h.1)
  where
    by : (b : Bool) → PartKeepsReads merge store oldest (filter keep (other ∷ tree)) → PartKeepsReads merge store oldest (cond b (node ∷ filter keep (other ∷ tree)) (filter keep (other ∷ tree)))
    by true rest = with_node merge store oldest node (filter keep (other ∷ tree)) h.0 rest
    by false rest = rest
