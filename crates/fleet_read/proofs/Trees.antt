-- The rows of a key in a segment's tree are those in the tables that the program's tree names.
use Rattle.std.proofs.Common.{◌≡◌, refl, sym, ◌∙◌, ap, subst, ℕ, ℤ, List, [], ◌∷◌, ◌++◌, cond, Bool, true, false, Option, Some, None, Result, Ok, Err, IfOk}
use Rattle.std.specs.Prelude.{IsTrue, bytes_eq, find, flat_map, map, option_map}
use Rattle.std.specs.List.{AllByRecursion}
use Rattle.std.proofs.lemmas.List.Concat.{flat_map-append}
use Rattle.row_model.specs.Fold.{Operator, fold_bytes}
use Rattle.row_model.specs.Lists.{Pairs}
use Rattle.row_model.specs.Read.{base, operands, read, seen_at}
use Rattle.row_model.specs.Rows.{Row, IsStrictlyOrdered, rows_of_key}
use Rattle.row_laws.proofs.KeyRows.{of_key-append}
use Rattle.fleet_model.specs.Invariants.Invariant.{StoreInvariant}
use Rattle.fleet_model.specs.Invariants.TreesFit.{IsNewer, IsTable, IsTree}
use Rattle.fleet_model.specs.Nodes.{Node, Segment, Tables, Tree, Trees, node_rows, segment_at, stored_rows, table_rows, tree_at, tree_or_empty}
use Rattle.fleet_model.specs.Reads.{stored_read}
use Rattle.fleet_model.specs.Store.{AreHeld, Store, is_held}
use Rattle.fleet_laws.proofs.TreeRows.{first_node}
use Rattle.step_laws.proofs.Elements.{all_append, all_front, all_back, all_true_front, all_unflat}
use Rattle.commit_laws.proofs.RunRows.{ordered_of_key}
use Rattle.commit_laws.proofs.Segments.{held_table}
use Rattle.fleet_tree.specs.Trees.{flush_node, run_node, segment_of, tree_of, trees_of, trees_with_prefix}
use Rattle.fleet_tree.specs.Views.{View}
use Rattle.fleet_tree.specs.declared.manifest.ManifestCore.{ManifestCore}
use Rattle.fleet_tree.specs.declared.manifest.VersionedManifest.{VersionedManifest}
use Rattle.fleet_tree.specs.declared.run.SortedRun.{SortedRun}
use Rattle.fleet_tree.specs.declared.tree.LsmTreeState.{LsmTreeState}
use Rattle.fleet_store.specs.Handles.{NamesTable}
use Rattle.fleet_store.specs.Manifests.{IsManifest, bare_node, bare_segment, tree_views}
use Rattle.fleet_scan.specs.KeyReads.{KeyReading, TakesRows, found_with}
use Rattle.script_model.specs.Lines.Looks.{is_not_retained}
use Rattle.fleet_read.specs.Answers.{answer_of, stored_answer}
use Rattle.fleet_read.specs.Stored.{IsHeldView, view_rows}
use Rattle.fleet_read.specs.declared.answer.ReadAnswer.{ReadAnswer}
use Rattle.fleet_read.specs.declared.answer.ReadAnswer.TheVariants as answers

-- ---- lists

pub find_map : {A B : Type 0} (f : A → B) (p : B → Bool) (xs : List A) → find p (map f xs) ≡ option_map f (find (λ x. p (f x)) xs)
find_map f p [] = refl
find_map {A} {B} f p (x ∷ xs) = by (p (f x)) (find_map f p xs)
  where
    by : (b : Bool) → find p (map f xs) ≡ option_map f (find (λ x. p (f x)) xs) → cond b (Some (f x)) (find p (map f xs)) ≡ option_map f (cond b (Some x) (find (λ x. p (f x)) xs))
    by true rest = refl
    by false rest = rest

-- What holds of all elements holds of one that is found.
pub of_found : {A : Type 0} (P : A → Type 0) (p : A → Bool) (xs : List A) (x : A) → AllByRecursion P xs → find p xs ≡ Some x → P x
of_found P p [] x all is = absurd (cc is)
of_found {A} P p (y ∷ xs) x all is = by (p y) is (λ is. of_found P p xs x all.1 is)
  where
    by : (b : Bool) → cond b (Some y) (find p xs) ≡ Some x → (find p xs ≡ Some x → P x) → P x
    by true is rest = let same : y ≡ x = cc is in subst P same all.0
    by false is rest = rest is

-- ---- the rows of a key, node by node

-- The rows of a key in the nodes of a tree, newest first.
abbrev pub key_rows : Tables → List ℕ → Tree → List Row
key_rows tables key tree = flat_map (λ (node : Node). rows_of_key key (node_rows tables node)) tree

-- They are the key's stored rows, since newer nodes have newer rows and the rows of a node are in order.
stored_are : (tables : Tables) (key : List ℕ) (tree : Tree) → Pairs (IsNewer tables) tree → AllByRecursion (λ (node : Node). IsStrictlyOrdered (node_rows tables node)) tree → stored_rows tables tree key ≡ key_rows tables key tree
stored_are tables key [] newest ordered = refl
stored_are tables key (node ∷ tree) newest ordered =
    first_node true tables key node tree newest.0
    ∙ (ap (λ (w : List Row). w ++ stored_rows tables tree key) (ordered_of_key key (node_rows tables node) ordered.0) ∙ ap (λ (w : List Row). rows_of_key key (node_rows tables node) ++ w) (stored_are tables key tree newest.1 ordered.1))

bare_rows : (tables : Tables) (key : List ℕ) (tree : Tree) → key_rows tables key (map bare_node tree) ≡ key_rows tables key tree
bare_rows tables key [] = refl
bare_rows tables key (node ∷ tree) = ap (λ (w : List Row). rows_of_key key (node_rows tables node) ++ w) (bare_rows tables key tree)

-- ---- the tree of a segment

bare_at : (segment : List ℕ) (trees : Trees) → tree_at segment (map bare_segment trees) ≡ map bare_node (tree_at segment trees)
bare_at segment trees = ap tree_or_empty (find_map bare_segment (λ (s : Segment). bytes_eq segment s.prefix) trees) ∙ by (segment_at segment trees)
  where
    by : (o : Option Segment) → tree_or_empty (option_map bare_segment o) ≡ map bare_node (tree_or_empty o)
    by None = refl
    by (Some s) = refl

-- The tree of a program that is found for a segment, or no nodes.
abbrev pub found_tree : Option LsmTreeState → Tree
found_tree None = []
found_tree (Some tree) = tree_of (λ run. []) tree

named_at : (segment : List ℕ) (core : ManifestCore) → tree_at segment (trees_of (λ prefix run. []) core) ≡ found_tree (option_map (λ (s : List ℕ × LsmTreeState). s.1) (find (λ (s : List ℕ × LsmTreeState). bytes_eq segment s.0) (trees_with_prefix core)))
named_at segment core = ap tree_or_empty (find_map (segment_of (λ prefix run. [])) (λ (s : Segment). bytes_eq segment s.prefix) (trees_with_prefix core)) ∙ by (find (λ (s : List ℕ × LsmTreeState). bytes_eq segment s.0) (trees_with_prefix core))
  where
    by : (o : Option (List ℕ × LsmTreeState)) → tree_or_empty (option_map (segment_of (λ prefix run. [])) o) ≡ found_tree (option_map (λ (s : List ℕ × LsmTreeState). s.1) o)
    by None = refl
    by (Some s) = refl

-- The stored tree of a segment and the one that the program finds are the same, with bare nodes.
pub same_tree : (m : VersionedManifest) (store : Store) (segment : List ℕ) (found : Option LsmTreeState) → IsManifest m store → found ≡ option_map (λ (s : List ℕ × LsmTreeState). s.1) (find (λ (s : List ℕ × LsmTreeState). bytes_eq segment s.0) (trees_with_prefix m.manifest.core))
    → map bare_node (tree_at segment store.manifest.trees) ≡ map bare_node (found_tree found)
same_tree m store segment found is at =
    sym (bare_at segment store.manifest.trees)
    ∙ (ap (tree_at segment) (sym (ap (λ t. t.trees) is.same))
    ∙ (bare_at segment (trees_of (λ prefix run. []) m.manifest.core) ∙ ap (map bare_node) (named_at segment m.manifest.core ∙ ap found_tree (sym at))))

-- ---- the tables that a program's tree names

flush_rows : (store : Store) (key : List ℕ) (views : List View) → key_rows store.tables key (map (flush_node (λ run. [])) views) ≡ view_rows store key views
flush_rows store key [] = refl
flush_rows store key (view ∷ views) =
    ap (λ (w : List Row). rows_of_key key w ++ key_rows store.tables key (map (flush_node (λ run. [])) views)) (plain (table_rows store.tables view.sst.id))
    ∙ ap (λ (w : List Row). rows_of_key key (table_rows store.tables view.sst.id) ++ w) (flush_rows store key views)
  where
    plain : (rows : List Row) → rows ++ [] ≡ rows
    plain [] = refl
    plain (r ∷ rows) = ap (λ (w : List Row). r ∷ w) (plain rows)

piece_rows : (store : Store) (key : List ℕ) (views : List View) → rows_of_key key (flat_map (table_rows store.tables) (map (λ (view : View). view.sst.id) views)) ≡ view_rows store key views
piece_rows store key [] = refl
piece_rows store key (view ∷ views) =
    of_key-append key (table_rows store.tables view.sst.id) (flat_map (table_rows store.tables) (map (λ (view : View). view.sst.id) views))
    ∙ ap (λ (w : List Row). rows_of_key key (table_rows store.tables view.sst.id) ++ w) (piece_rows store key views)

run_rows : (store : Store) (key : List ℕ) (runs : List SortedRun) → key_rows store.tables key (map (run_node (λ run. [])) runs) ≡ view_rows store key (flat_map (λ (run : SortedRun). run.views) runs)
run_rows store key [] = refl
run_rows store key (run ∷ runs) =
    ap (λ (w : List Row). w ++ key_rows store.tables key (map (run_node (λ run. [])) runs)) (piece_rows store key run.views)
    ∙ (ap (λ (w : List Row). view_rows store key run.views ++ w) (run_rows store key runs)
    ∙ sym (flat_map-append (λ (view : View). rows_of_key key (table_rows store.tables view.sst.id)) run.views (flat_map (λ (run : SortedRun). run.views) runs)))

tree_rows : (store : Store) (key : List ℕ) (tree : LsmTreeState) → key_rows store.tables key (tree_of (λ run. []) tree) ≡ view_rows store key (tree_views tree)
tree_rows store key tree =
    flat_map-append (λ (node : Node). rows_of_key key (node_rows store.tables node)) (map (flush_node (λ run. [])) tree.l0) (map (run_node (λ run. [])) tree.compacted)
    ∙ (ap (λ (w : List Row). w ++ key_rows store.tables key (map (run_node (λ run. [])) tree.compacted)) (flush_rows store key tree.l0)
    ∙ (ap (λ (w : List Row). view_rows store key tree.l0 ++ w) (run_rows store key tree.compacted)
    ∙ sym (flat_map-append (λ (view : View). rows_of_key key (table_rows store.tables view.sst.id)) tree.l0 (flat_map (λ (run : SortedRun). run.views) tree.compacted))))

-- ---- they are held

abbrev PiecesHeld : Store → Tree → Type 0
PiecesHeld store tree = AllByRecursion (λ (node : Node). AreHeld store node.pieces) tree

to_bare : (store : Store) (tree : Tree) → PiecesHeld store tree → PiecesHeld store (map bare_node tree)
to_bare store [] all = tt
to_bare store (node ∷ tree) all = (all.0, to_bare store tree all.1)

from_bare : (store : Store) (tree : Tree) → PiecesHeld store (map bare_node tree) → PiecesHeld store tree
from_bare store [] all = tt
from_bare store (node ∷ tree) all = (all.0, from_bare store tree all.1)

at_segment : (store : Store) (segment : List ℕ) (trees : Trees) → AllByRecursion (λ (s : Segment). PiecesHeld store s.tree) trees → PiecesHeld store (tree_at segment trees)
at_segment store segment trees all = by (segment_at segment trees) refl
  where
    by : (o : Option Segment) → segment_at segment trees ≡ o → PiecesHeld store (tree_or_empty o)
    by None is = tt
    by (Some s) is = of_found (λ (s : Segment). PiecesHeld store s.tree) (λ (s : Segment). bytes_eq segment s.prefix) trees s all is

abbrev IsHeldTable : Store → View → Type 0
IsHeldTable store view = IsTrue (is_held store view.sst.id)

held_flushes : (store : Store) (views : List View) → PiecesHeld store (map (flush_node (λ run. [])) views) → AllByRecursion (IsHeldTable store) views
held_flushes store [] all = tt
held_flushes store (view ∷ views) all = ((all_true_front (is_held store) (view.sst.id ∷ []) all.0).0, held_flushes store views all.1)

held_views : (store : Store) (views : List View) → AllByRecursion (λ (id : ℕ). IsTrue (is_held store id)) (map (λ (view : View). view.sst.id) views) → AllByRecursion (IsHeldTable store) views
held_views store [] all = tt
held_views store (view ∷ views) all = (all.0, held_views store views all.1)

held_runs : (store : Store) (runs : List SortedRun) → PiecesHeld store (map (run_node (λ run. [])) runs) → AllByRecursion (IsHeldTable store) (flat_map (λ (run : SortedRun). run.views) runs)
held_runs store [] all = tt
held_runs store (run ∷ runs) all =
    all_append (IsHeldTable store) run.views (flat_map (λ (run : SortedRun). run.views) runs) (held_views store run.views (all_true_front (is_held store) (map (λ (view : View). view.sst.id) run.views) all.0)) (held_runs store runs all.1)

held_tree : (store : Store) (tree : LsmTreeState) → PiecesHeld store (tree_of (λ run. []) tree) → AllByRecursion (IsHeldTable store) (tree_views tree)
held_tree store tree all =
    all_append (IsHeldTable store) tree.l0 (flat_map (λ (run : SortedRun). run.views) tree.compacted) (held_flushes store tree.l0 (all_front _ (map (flush_node (λ run. [])) tree.l0) (map (run_node (λ run. [])) tree.compacted) all))
    (held_runs store tree.compacted (all_back _ (map (flush_node (λ run. [])) tree.l0) (map (run_node (λ run. [])) tree.compacted) all))

both : (store : Store) (views : List View) → AllByRecursion (λ table. IsTable table.1) store.tables → AllByRecursion (NamesTable store.tables) views → AllByRecursion (IsHeldTable store) views → AllByRecursion (IsHeldView store) views
both store [] tables names held = tt
both store (view ∷ views) tables names held = (record { names = names.0; held = held.0; table = held_table store view.sst.id tables held.0 }, both store views tables names.1 held.1)

-- Each table that the segment's tree names is held, and is described.
pub views_held : (merge : Operator) (m : VersionedManifest) (store : Store) (segment : List ℕ) (tree : LsmTreeState) → StoreInvariant merge store → IsManifest m store
    → Some tree ≡ option_map (λ (s : List ℕ × LsmTreeState). s.1) (find (λ (s : List ℕ × LsmTreeState). bytes_eq segment s.0) (trees_with_prefix m.manifest.core)) → AllByRecursion (IsHeldView store) (tree_views tree)
views_held merge m store segment tree keeps is at =
    let held : PiecesHeld store (tree_of (λ run. []) tree) =
    from_bare store (tree_of (λ run. []) tree) (subst (PiecesHeld store) (same_tree m store segment (Some tree) is at) (to_bare store (tree_at segment store.manifest.trees) (at_segment store segment store.manifest.trees keeps.tables.pieces))) in
    both store (tree_views tree) keeps.sound.tables (names (find (λ (s : List ℕ × LsmTreeState). bytes_eq segment s.0) (trees_with_prefix m.manifest.core)) refl at) (held_tree store tree held)
  where
    names : (o : Option (List ℕ × LsmTreeState)) → find (λ (s : List ℕ × LsmTreeState). bytes_eq segment s.0) (trees_with_prefix m.manifest.core) ≡ o → Some tree ≡ option_map (λ (s : List ℕ × LsmTreeState). s.1) o → AllByRecursion (NamesTable store.tables) (tree_views tree)
    names None found at = absurd (cc at)
    names (Some s) found at =
        let same : s.1 ≡ tree = cc at in
        subst (λ (t : LsmTreeState). AllByRecursion (NamesTable store.tables) (tree_views t)) same
        (of_found (λ (s : List ℕ × LsmTreeState). AllByRecursion (NamesTable store.tables) (tree_views s.1)) (λ (s : List ℕ × LsmTreeState). bytes_eq segment s.0) (trees_with_prefix m.manifest.core) s (all_unflat (NamesTable store.tables) (λ (s : List ℕ × LsmTreeState). tree_views s.1) (trees_with_prefix m.manifest.core) is.views) found)

-- ---- reads

in_order : (store : Store) (segment : List ℕ) → AllByRecursion (IsTree store.tables) store.manifest.trees → (key : List ℕ) → stored_rows store.tables (tree_at segment store.manifest.trees) key ≡ key_rows store.tables key (tree_at segment store.manifest.trees)
in_order store segment trees key = by (segment_at segment store.manifest.trees) refl
  where
    by : (o : Option Segment) → segment_at segment store.manifest.trees ≡ o → stored_rows store.tables (tree_or_empty o) key ≡ key_rows store.tables key (tree_or_empty o)
    by None is = refl
    by (Some s) is =
        let tree = of_found (IsTree store.tables) (λ (s : Segment). bytes_eq segment s.prefix) store.manifest.trees s trees is in
        stored_are store.tables key s.tree tree.newest_first tree.ordered

-- The stored rows of a key are those in the tables that the program's tree names.
found_rows : (merge : Operator) (m : VersionedManifest) (store : Store) (segment key : List ℕ) (found : Option LsmTreeState) → StoreInvariant merge store → IsManifest m store
    → found ≡ option_map (λ (s : List ℕ × LsmTreeState). s.1) (find (λ (s : List ℕ × LsmTreeState). bytes_eq segment s.0) (trees_with_prefix m.manifest.core)) → stored_rows store.tables (tree_at segment store.manifest.trees) key ≡ key_rows store.tables key (found_tree found)
found_rows merge m store segment key found keeps is at =
    in_order store segment keeps.trees.each key
    ∙ (sym (bare_rows store.tables key (tree_at segment store.manifest.trees)) ∙ (ap (key_rows store.tables key) (same_tree m store segment found is at) ∙ bare_rows store.tables key (found_tree found)))

-- A segment without a tree has no rows.
pub nothing_read : (merge : Operator) (m : VersionedManifest) (store : Store) (segment key : List ℕ) (seq : ℕ) (now : ℤ) → StoreInvariant merge store → IsManifest m store
    → None ≡ option_map (λ (s : List ℕ × LsmTreeState). s.1) (find (λ (s : List ℕ × LsmTreeState). bytes_eq segment s.0) (trees_with_prefix m.manifest.core)) → answer_of (stored_read merge store segment key seq now) ≡ answers.Nothing
nothing_read merge m store segment key seq now keeps is at = ap (λ (rows : List Row). answer_of (read merge key seq now rows)) (found_rows merge m store segment key None keeps is at)

-- The read that took the rows of the segment's tree answers as a read of the stored rows.
pub tree_read : (merge : Operator) (m : VersionedManifest) (store : Store) (segment key : List ℕ) (seq : ℕ) (now : ℤ) (tree : LsmTreeState) (first last : KeyReading) → StoreInvariant merge store → IsManifest m store
    → Some tree ≡ option_map (λ (s : List ℕ × LsmTreeState). s.1) (find (λ (s : List ℕ × LsmTreeState). bytes_eq segment s.0) (trees_with_prefix m.manifest.core))
    → first ≡ record { key = key; seq = seq; moment = now; hides = false; base = None; operands = [] } → TakesRows first (view_rows store key (tree_views tree)) last
    → answer_of (fold_bytes merge last.key (found_with last []).0 (found_with last []).1) ≡ answer_of (stored_read merge store segment key seq now)
tree_read merge m store segment key seq now tree first last keeps is at fresh taken =
    let rows : List Row = view_rows store key (tree_views tree) in
    let stored : stored_rows store.tables (tree_at segment store.manifest.trees) key ≡ rows = found_rows merge m store segment key (Some tree) keeps is at ∙ tree_rows store key tree in
    ap (λ (f : Option (List ℕ) × List (List ℕ)). answer_of (fold_bytes merge last.key f.0 f.1)) (taken.found [])
    ∙ (ap (λ (k : List ℕ). answer_of (fold_bytes merge k (found_with first (rows ++ [])).0 (found_with first (rows ++ [])).1)) taken.key
    ∙ (ap (λ (r : KeyReading). answer_of (fold_bytes merge r.key (found_with r (rows ++ [])).0 (found_with r (rows ++ [])).1)) fresh
    ∙ (ap (λ (w : List Row). answer_of (fold_bytes merge key (base now (seen_at seq w)) (operands now (seen_at seq w) ++ []))) (plain rows)
    ∙ (ap (λ (xs : List (List ℕ)). answer_of (fold_bytes merge key (base now (seen_at seq rows)) xs)) (plain (operands now (seen_at seq rows)))
    ∙ ap (λ (w : List Row). answer_of (read merge key seq now w)) (sym stored)))))
  where
    plain : {A : Type 0} (xs : List A) → xs ++ [] ≡ xs
    plain [] = refl
    plain {A} (x ∷ xs) = ap (λ (w : List A). x ∷ w) (plain xs)

-- A read that is not refused answers as one of the stored rows.
pub is_answered : (merge : Operator) (store : Store) (segment key : List ℕ) (seq : ℕ) (now : ℤ) (answer : ReadAnswer) → is_not_retained store.manifest seq now ≡ false → answer ≡ answer_of (stored_read merge store segment key seq now) → answer ≡ stored_answer merge store segment key seq now
is_answered merge store segment key seq now answer kept is = is ∙ sym (ap (λ b. cond b (answers.NotRetained store.manifest.horizon store.manifest.tick) (answer_of (stored_read merge store segment key seq now))) kept)

-- The same of a result.
pub all_answered : {E : Type 0} (merge : Operator) (store : Store) (segment key : List ℕ) (seq : ℕ) (now : ℤ) (r : Result ReadAnswer E) (got : ReadAnswer) → is_not_retained store.manifest seq now ≡ false → got ≡ answer_of (stored_read merge store segment key seq now) → IfOk r (λ answer. answer ≡ got)
    → IfOk r (λ answer. answer ≡ stored_answer merge store segment key seq now)
all_answered merge store segment key seq now (Ok answer) got kept is done = is_answered merge store segment key seq now answer kept (done ∙ is)
all_answered merge store segment key seq now (Err e) got kept is done = tt
