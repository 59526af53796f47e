-- No two rows of a tree's nodes have both key and sequence in common.
use Rattle.std.proofs.Common.{◌≡◌, ◌≢◌, sym, ◌∙◌, ◌<◌, List, [], ◌∷◌, ◌++◌}
use Rattle.std.specs.Prelude.{flat_map}
use Rattle.std.specs.List.{AllByRecursion}
use Rattle.std.specs.Ordering.{nat_cmp, ordering_then}
use Rattle.std.specs.Cmp.{nat_cmp_is}
use Rattle.std.specs.declared.cmp.Ordering.{Ordering}
use Rattle.std.specs.declared.cmp.Ordering.TheVariants.{Less, Equal, Greater}
use Rattle.row_model.specs.Lists.{Pairs}
use Rattle.row_model.specs.Rows.{IsStrictlyOrdered, Row, key_cmp, row_cmp}
use Rattle.row_laws.specs.Merges.{AreApart}
use Rattle.row_laws.proofs.Elements.{all_append, all_front, all_weaken}
use Rattle.fleet_model.specs.Nodes.{Node, Tables, Tree, flushed_node_rows, node_rows}
use Rattle.fleet_model.specs.Invariants.TreesFit.{IsNewer, node_and_flushed_rows}
use Rattle.commit_laws.proofs.Stretches.{pairs_append}
use Rattle.fleet_read.proofs.Kept.{IsBefore, to_pairs}

abbrev Differs : Row → Row → Type 0
Differs r q = row_cmp r q ≢ Equal

before_differs : (r q : Row) → IsBefore r q → Differs r q
before_differs r q less equal =
    let clash : Less ≡ Equal = sym less ∙ equal in
    absurd (cc clash)

-- A row with a greater sequence is another row.
above_differs : (r q : Row) → q.seq < r.seq → Differs r q
above_differs r q lower equal = by (key_cmp r.key q.key) equal
  where
    by : (o : Ordering) → ordering_then o (nat_cmp q.seq r.seq) ≡ Equal → ⊥
    by Less e = cc e
    by Greater e = cc e
    by Equal e =
        let less : nat_cmp q.seq r.seq ≡ Less = sym (nat_cmp_is q.seq r.seq Less lower) in
        let clash : Less ≡ Equal = sym less ∙ e in
        cc clash

ordered_apart : (rows : List Row) → Pairs IsBefore rows → AreApart rows
ordered_apart [] h = tt
ordered_apart (r ∷ rows) h = (all_weaken (IsBefore r) (Differs r) (before_differs r) rows h.0, ordered_apart rows h.1)

module _ (tables : Tables) where
  newer_apart : (newer older : Node) → IsNewer tables newer older → AllByRecursion (λ r. AllByRecursion (Differs r) (node_rows tables older)) (node_rows tables newer)
  newer_apart newer older h =
      all_weaken (λ r. AllByRecursion (λ q. q.seq < r.seq) (node_and_flushed_rows tables older)) (λ r. AllByRecursion (Differs r) (node_rows tables older))
      (λ r all. all_weaken (λ q. q.seq < r.seq) (Differs r) (above_differs r) (node_rows tables older) (all_front (λ q. q.seq < r.seq) (node_rows tables older) (flushed_node_rows tables older) all))
      (node_rows tables newer)
      (all_front (λ r. AllByRecursion (λ q. q.seq < r.seq) (node_and_flushed_rows tables older)) (node_rows tables newer) (flushed_node_rows tables newer) h)

  none_across : (rows : List Row) → AllByRecursion (λ r. AllByRecursion (Differs r) []) rows
  none_across [] = tt
  none_across (r ∷ rows) = (tt, none_across rows)

  both_across : (rows xs ys : List Row) → AllByRecursion (λ r. AllByRecursion (Differs r) xs) rows → AllByRecursion (λ r. AllByRecursion (Differs r) ys) rows → AllByRecursion (λ r. AllByRecursion (Differs r) (xs ++ ys)) rows
  both_across [] xs ys h g = tt
  both_across (r ∷ rows) xs ys h g = (all_append (Differs r) xs ys h.0 g.0, both_across rows xs ys h.1 g.1)

  older_apart : (node : Node) (tree : Tree) → AllByRecursion (IsNewer tables node) tree → AllByRecursion (λ r. AllByRecursion (Differs r) (flat_map (node_rows tables) tree)) (node_rows tables node)
  older_apart node [] h = none_across (node_rows tables node)
  older_apart node (other ∷ tree) h =
      both_across (node_rows tables node) (node_rows tables other) (flat_map (node_rows tables) tree) (newer_apart node other h.0) (older_apart node tree h.1)

  pub tree_apart : (tree : Tree) → Pairs (IsNewer tables) tree → AllByRecursion (λ (node : Node). IsStrictlyOrdered (node_rows tables node)) tree → AreApart (flat_map (node_rows tables) tree)
  tree_apart [] newest ordered = tt
  tree_apart (node ∷ tree) newest ordered =
      pairs_append Differs (node_rows tables node) (flat_map (node_rows tables) tree) (ordered_apart (node_rows tables node) (to_pairs (node_rows tables node) ordered.0)) (tree_apart tree newest.1 ordered.1) (older_apart node tree newest.0)
