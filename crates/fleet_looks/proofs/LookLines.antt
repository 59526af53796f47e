-- What lines show of a program's trees is what the model's lines show of the stored ones.
use Rattle.std.proofs.Common.{◌≡◌, refl, sym, ◌∙◌, ap, subst, ℕ, List, [], ◌∷◌, ◌++◌, cond, Bool, true, false, Option, Some, None}
use Rattle.std.specs.Prelude.{◌==◌, IsTrue, find, flat_map, map, option_map, bytes_eq, codes}
use Rattle.std.specs.List.{AllByRecursion}
use Rattle.std.proofs.lemmas.Cmp.{nat_eq_equiv}
use Rattle.row_model.specs.Rows.{Row}
use Rattle.fleet_model.specs.Handles.{Handle}
use Rattle.fleet_model.specs.Nodes.{Tables, Node, NodeName, L0, Run, Segment, Tree, Trees, names, name_eq, node_named, segment_at, table_rows, tree_at, tree_or_empty}
use Rattle.fleet_model.specs.Store.{AreHeld, Store, is_held}
use Rattle.fleet_model.specs.Invariants.Invariant.{TablesHeld}
use Rattle.step_laws.proofs.Elements.{all_at, all_back, all_front, all_true_front, all_unflat}
use Rattle.script_model.specs.Lines.Looks.{dump_reply}
use Rattle.script_model.specs.Replies.{absent_reply, counted_text, held_text, reply, segment_text, semicolon, tables_reply, trees_reply}
use Rattle.script_model.specs.Words.{bytes_text, comma, list_text, nodes_text, rows_text}
use Rattle.line_laws.proofs.Parties.{found}
use Rattle.fleet_tree.specs.Trees.{RunFlushes, trees_of, trees_with_prefix, tree_of, flush_node, run_node, segment_of}
use Rattle.fleet_tree.specs.Views.{View}
use Rattle.fleet_tree.specs.declared.handle.SsTableHandle.{SsTableHandle}
use Rattle.fleet_tree.specs.declared.manifest.ManifestCore.{ManifestCore}
use Rattle.fleet_tree.specs.declared.manifest.VersionedManifest.{VersionedManifest}
use Rattle.fleet_tree.specs.declared.run.SortedRun.{SortedRun}
use Rattle.fleet_tree.specs.declared.tree.LsmTreeState.{LsmTreeState}
use Rattle.fleet_store.specs.Handles.{IsDescribed, NamesTable}
use Rattle.fleet_store.specs.Manifests.{IsManifest, bare_node, bare_segment, tree_views, views_in}
use Rattle.fleet_store.specs.Tables.{held_rows}
use Rattle.fleet_text.specs.Printed.{counted_tables}
use Rattle.fleet_read.specs.Stored.{rows_or_none}
use Rattle.fleet_read.proofs.HeldRows.{held_are}
use Rattle.fleet_read.proofs.Trees.{find_map}
use Rattle.fleet_looks.specs.Looks.{views_named, views_in_tree, views_at}

-- A run with an id is found whichever is compared with which.
pub found_either_way : (id : ℕ) (runs : List SortedRun) → find (λ run. run.id == id) runs ≡ find (λ run. id == run.id) runs
found_either_way id [] = refl
found_either_way id (run ∷ runs) =
    ap (λ b. cond b (Some run) (find (λ (r : SortedRun). r.id == id) runs)) (nat_eq_equiv.symm run.id id)
    ∙ ap (λ (found : Option SortedRun). cond (id == run.id) (Some run) found) (found_either_way id runs)

-- ---- trees

bare_names : (tree : Tree) → names (map bare_node tree) ≡ names tree
bare_names [] = refl
bare_names (node ∷ tree) = ap (λ (ns : List NodeName). node.name ∷ ns) (bare_names tree)

bare_texts : (trees : Trees) → map segment_text (map bare_segment trees) ≡ map segment_text trees
bare_texts [] = refl
bare_texts (s ∷ trees) =
    ap (λ (ns : List NodeName). (bytes_text s.prefix ++ codes ":" ++ nodes_text ns) ∷ map segment_text (map bare_segment trees)) (bare_names s.tree) ∙ ap (λ (texts : List (List ℕ)). segment_text s ∷ texts) (bare_texts trees)

-- The program's trees and the stored ones, with bare nodes.
same_trees : (m : VersionedManifest) (store : Store) → IsManifest m store → map bare_segment (trees_of (λ prefix run. []) m.manifest.core) ≡ map bare_segment store.manifest.trees
same_trees m store is = ap (λ t. t.trees) is.same

pub trees_said : (m : VersionedManifest) (store : Store) (answer : List ℕ) → IsManifest m store → ((flushes : RunFlushes) → answer ≡ trees_reply (trees_of flushes m.manifest.core)) → answer ≡ trees_reply store.manifest.trees
trees_said m store answer is says =
    says (λ prefix run. [])
    ∙ ap (λ (texts : List (List ℕ)). reply (codes "ok" ∷ list_text semicolon texts ∷ []))
    (sym (bare_texts (trees_of (λ prefix run. []) m.manifest.core)) ∙ (ap (map segment_text) (same_trees m store is) ∙ bare_texts store.manifest.trees))

-- ---- nodes

-- The tables of a node, if there is one.
abbrev pieces_if : Option Node → Option (List ℕ)
pieces_if o = option_map (λ (node : Node). node.pieces) o

bare_pieces : (n : NodeName) (tree : Tree) → pieces_if (node_named n (map bare_node tree)) ≡ pieces_if (node_named n tree)
bare_pieces n tree = ap pieces_if (find_map bare_node (λ (node : Node). name_eq n node.name) tree) ∙ by (node_named n tree)
  where
    by : (o : Option Node) → pieces_if (option_map bare_node o) ≡ pieces_if o
    by None = refl
    by (Some node) = refl

bare_pieces_at : (n : NodeName) (segment : List ℕ) (trees : Trees) → pieces_if (node_named n (tree_at segment (map bare_segment trees))) ≡ pieces_if (node_named n (tree_at segment trees))
bare_pieces_at n segment trees = ap (λ (o : Option Segment). pieces_if (node_named n (tree_or_empty o))) (find_map bare_segment (λ (s : Segment). bytes_eq segment s.prefix) trees) ∙ by (segment_at segment trees)
  where
    by : (o : Option Segment) → pieces_if (node_named n (tree_or_empty (option_map bare_segment o))) ≡ pieces_if (node_named n (tree_or_empty o))
    by None = refl
    by (Some s) = bare_pieces n s.tree

-- What is found in two lists, one after the other.
abbrev first_of_both : {A : Type 0} → Option A → Option A → Option A
first_of_both None o = o
first_of_both (Some x) o = Some x

find_append : {A : Type 0} (p : A → Bool) (xs ys : List A) → find p (xs ++ ys) ≡ first_of_both (find p xs) (find p ys)
find_append p [] ys = refl
find_append {A} p (x ∷ xs) ys = by (p x) (find_append p xs ys)
  where
    by : (b : Bool) → find p (xs ++ ys) ≡ first_of_both (find p xs) (find p ys) → cond b (Some x) (find p (xs ++ ys)) ≡ first_of_both (cond b (Some x) (find p xs)) (find p ys)
    by true rest = refl
    by false rest = rest

found_nowhere : {A : Type 0} (xs : List A) → find (λ (x : A). false) xs ≡ None
found_nowhere [] = refl
found_nowhere (x ∷ xs) = found_nowhere xs

-- The ids of the tables that views name.
abbrev ids_of : Option (List View) → Option (List ℕ)
ids_of o = option_map (map (λ (view : View). view.sst.id)) o

-- The tables of the node in a program's tree are those of the model's node.
named_in : (n : NodeName) (tree : LsmTreeState) → pieces_if (node_named n (tree_of (λ run. []) tree)) ≡ ids_of (views_named n tree)
named_in (L0 name) tree =
    ap pieces_if (find_append (λ (node : Node). name_eq (L0 name) node.name) (map (flush_node (λ run. [])) tree.l0) (map (run_node (λ run. [])) tree.compacted)
    ∙ (ap (λ (o : Option Node). first_of_both (find (λ (node : Node). name_eq (L0 name) node.name) (map (flush_node (λ run. [])) tree.l0)) o) (find_map (run_node (λ run. [])) (λ (node : Node). name_eq (L0 name) node.name) tree.compacted ∙ ap (option_map (run_node (λ run. []))) (found_nowhere tree.compacted))
    ∙ ap (λ (o : Option Node). first_of_both o None) (find_map (flush_node (λ run. [])) (λ (node : Node). name_eq (L0 name) node.name) tree.l0)))
    ∙ by (find (λ (view : View). name == view.id) tree.l0)
  where
    by : (o : Option View) → pieces_if (first_of_both (option_map (flush_node (λ run. [])) o) None) ≡ ids_of (option_map (λ (view : View). view ∷ []) o)
    by None = refl
    by (Some view) = refl
named_in (Run id) tree =
    ap pieces_if (find_append (λ (node : Node). name_eq (Run id) node.name) (map (flush_node (λ run. [])) tree.l0) (map (run_node (λ run. [])) tree.compacted)
    ∙ (ap (λ (o : Option Node). first_of_both o (find (λ (node : Node). name_eq (Run id) node.name) (map (run_node (λ run. [])) tree.compacted))) (find_map (flush_node (λ run. [])) (λ (node : Node). name_eq (Run id) node.name) tree.l0 ∙ ap (option_map (flush_node (λ run. []))) (found_nowhere tree.l0))
    ∙ find_map (run_node (λ run. [])) (λ (node : Node). name_eq (Run id) node.name) tree.compacted))
    ∙ by (find (λ (run : SortedRun). id == run.id) tree.compacted)
  where
    by : (o : Option SortedRun) → pieces_if (option_map (run_node (λ run. [])) o) ≡ ids_of (option_map (λ (run : SortedRun). run.views) o)
    by None = refl
    by (Some run) = refl

named_at : (n : NodeName) (segment : List ℕ) (core : ManifestCore) → pieces_if (node_named n (tree_at segment (trees_of (λ prefix run. []) core))) ≡ ids_of (views_at core segment n)
named_at n segment core = ap (λ (o : Option Segment). pieces_if (node_named n (tree_or_empty o))) (find_map (segment_of (λ prefix run. [])) (λ (s : Segment). bytes_eq segment s.prefix) (trees_with_prefix core)) ∙ by (find (λ (s : List ℕ × LsmTreeState). bytes_eq segment s.0) (trees_with_prefix core))
  where
    by : (o : Option (List ℕ × LsmTreeState)) → pieces_if (node_named n (tree_or_empty (option_map (segment_of (λ prefix run. [])) o))) ≡ ids_of (views_in_tree n o)
    by None = refl
    by (Some s) = named_in n s.1

-- The tables of a stored node are those that the program's manifest names.
pub same_pieces : (m : VersionedManifest) (store : Store) (n : NodeName) (segment : List ℕ) → IsManifest m store → pieces_if (node_named n (tree_at segment store.manifest.trees)) ≡ ids_of (views_at m.manifest.core segment n)
same_pieces m store n segment is =
    sym (bare_pieces_at n segment store.manifest.trees)
    ∙ (ap (λ (trees : Trees). pieces_if (node_named n (tree_at segment trees))) (sym (same_trees m store is)) ∙ (bare_pieces_at n segment (trees_of (λ prefix run. []) m.manifest.core) ∙ named_at n segment m.manifest.core))

-- ---- the views of a node

module _ (P : View → Type 0) where
  -- What holds of all views of a tree holds of those of its node.
  in_tree : (n : NodeName) (tree : LsmTreeState) (vs : List View) → AllByRecursion P (tree_views tree) → views_named n tree ≡ Some vs → AllByRecursion P vs
  in_tree (L0 name) tree vs all e = by (find (λ (view : View). name == view.id) tree.l0) refl e
    where
      by : (o : Option View) → find (λ (view : View). name == view.id) tree.l0 ≡ o → option_map (λ (view : View). view ∷ []) o ≡ Some vs → AllByRecursion P vs
      by None is e = absurd (cc e)
      by (Some view) is e =
          let same : view ∷ [] ≡ vs = cc e in
          subst (AllByRecursion P) same (all_at P tree.l0 view (all_front P tree.l0 (flat_map (λ (run : SortedRun). run.views) tree.compacted) all) (found (λ (view : View). name == view.id) tree.l0 view is).there, tt)
  in_tree (Run id) tree vs all e = by (find (λ (run : SortedRun). id == run.id) tree.compacted) refl e
    where
      by : (o : Option SortedRun) → find (λ (run : SortedRun). id == run.id) tree.compacted ≡ o → option_map (λ (run : SortedRun). run.views) o ≡ Some vs → AllByRecursion P vs
      by None is e = absurd (cc e)
      by (Some run) is e =
          let same : run.views ≡ vs = cc e in
          let runs = all_unflat P (λ (run : SortedRun). run.views) tree.compacted (all_back P tree.l0 (flat_map (λ (run : SortedRun). run.views) tree.compacted) all) in
          subst (AllByRecursion P) same (all_at (λ (run : SortedRun). AllByRecursion P run.views) tree.compacted run runs (found (λ (run : SortedRun). id == run.id) tree.compacted run is).there)

  -- What holds of all views of a manifest holds of those of a node.
  node_views : (n : NodeName) (segment : List ℕ) (core : ManifestCore) (vs : List View) → AllByRecursion P (views_in core) → views_at core segment n ≡ Some vs → AllByRecursion P vs
  node_views n segment core vs all e = by (find (λ (s : List ℕ × LsmTreeState). bytes_eq segment s.0) (trees_with_prefix core)) refl e
    where
      by : (o : Option (List ℕ × LsmTreeState)) → find (λ (s : List ℕ × LsmTreeState). bytes_eq segment s.0) (trees_with_prefix core) ≡ o → views_in_tree n o ≡ Some vs → AllByRecursion P vs
      by None is e = absurd (cc e)
      by (Some s) is e =
          in_tree n s.1 vs (all_at (λ (s : List ℕ × LsmTreeState). AllByRecursion P (tree_views s.1)) (trees_with_prefix core) s (all_unflat P (λ (s : List ℕ × LsmTreeState). tree_views s.1) (trees_with_prefix core) all)
          (found (λ (s : List ℕ × LsmTreeState). bytes_eq segment s.0) (trees_with_prefix core) s is).there) e

-- The descriptions that a look at a node found, and the node.
pub data IsLook (store : Store) (n : NodeName) (segment : List ℕ) : Option (List SsTableHandle) → Type 0 where
  Absent : node_named n (tree_at segment store.manifest.trees) ≡ None → IsLook store n segment None
  There : (handles : List SsTableHandle) (node : Node) → node_named n (tree_at segment store.manifest.trees) ≡ Some node → map (λ (h : SsTableHandle). h.id) handles ≡ node.pieces → AllByRecursion (IsDescribed store.tables) handles
      → IsLook store n segment (Some handles)

-- The handles of a node in the stored manifest are what the model's line looks at.
pub look : (m : VersionedManifest) (store : Store) (n : NodeName) (segment : List ℕ) (handles : Option (List SsTableHandle)) → IsManifest m store → handles ≡ option_map (map (λ (view : View). view.sst)) (views_at m.manifest.core segment n) → IsLook store n segment handles
look m store n segment handles is e = by (views_at m.manifest.core segment n) refl (node_named n (tree_at segment store.manifest.trees)) refl (same_pieces m store n segment is) handles e
  where
    ids : (vs : List View) → map (λ (h : SsTableHandle). h.id) (map (λ (view : View). view.sst) vs) ≡ map (λ (view : View). view.sst.id) vs
    ids [] = refl
    ids (v ∷ vs) = ap (λ (is : List ℕ). v.sst.id ∷ is) (ids vs)

    described : (vs : List View) → AllByRecursion (NamesTable store.tables) vs → AllByRecursion (IsDescribed store.tables) (map (λ (view : View). view.sst) vs)
    described [] all = tt
    described (v ∷ vs) all = (all.0.described, described vs all.1)

    by : (o : Option (List View)) → views_at m.manifest.core segment n ≡ o → (node : Option Node) → node_named n (tree_at segment store.manifest.trees) ≡ node → pieces_if node ≡ ids_of o
        → (handles : Option (List SsTableHandle)) → handles ≡ option_map (map (λ (view : View). view.sst)) o → IsLook store n segment handles
    by None there None named pieces handles e = subst (IsLook store n segment) (sym e) (Absent named)
    by None there (Some node) named pieces handles e = absurd (cc pieces)
    by (Some vs) there None named pieces handles e = absurd (cc pieces)
    by (Some vs) there (Some node) named pieces handles e =
        let same : node.pieces ≡ map (λ (view : View). view.sst.id) vs = cc pieces in
        subst (IsLook store n segment) (sym e) (There (map (λ (view : View). view.sst) vs) node named (ids vs ∙ sym same) (described vs (node_views (NamesTable store.tables) n segment m.manifest.core vs is.views there)))

-- ---- tables

pub absent_said : (store : Store) (n : NodeName) (segment : List ℕ) (answer : List ℕ) → IsLook store n segment None → answer ≡ absent_reply
    → (answer ≡ tables_reply store.tables (node_named n (tree_at segment store.manifest.trees))) × (answer ≡ dump_reply store.tables (node_named n (tree_at segment store.manifest.trees)))
absent_said store n segment answer (Absent named) says = (says ∙ ap (tables_reply store.tables) (sym named), says ∙ ap (dump_reply store.tables) (sym named))

counted : (tables : Tables) (handles : List SsTableHandle) → AllByRecursion (IsDescribed tables) handles → map (λ (h : SsTableHandle). counted_text (h.id, h.rows)) handles ≡ map (held_text tables) (map (λ (h : SsTableHandle). h.id) handles)
counted tables [] all = refl
counted tables (h ∷ handles) all =
    ap (λ (rows : ℕ). counted_text (h.id, rows) ∷ map (λ (h : SsTableHandle). counted_text (h.id, h.rows)) handles) (ap (λ (d : Handle). d.rows) all.0.describes)
    ∙ ap (λ (texts : List (List ℕ)). held_text tables h.id ∷ texts) (counted tables handles all.1)

pub tables_said : (store : Store) (n : NodeName) (segment : List ℕ) (handles : List SsTableHandle) (answer : List ℕ) → IsLook store n segment (Some handles) → answer ≡ reply (codes "ok" ∷ counted_tables handles ∷ [])
    → answer ≡ tables_reply store.tables (node_named n (tree_at segment store.manifest.trees))
tables_said store n segment handles answer (There found_handles node named pieces described) says =
    says
    ∙ (ap (λ (texts : List (List ℕ)). reply (codes "ok" ∷ list_text comma texts ∷ [])) (counted store.tables found_handles described ∙ ap (map (held_text store.tables)) pieces)
    ∙ ap (tables_reply store.tables) (sym named))

-- The same of a list that is equal to theirs.
pub shown_said : (store : Store) (n : NodeName) (segment : List ℕ) (handles shown : List SsTableHandle) (answer : List ℕ) → IsLook store n segment (Some handles) → shown ≡ handles → answer ≡ reply (codes "ok" ∷ counted_tables shown ∷ [])
    → answer ≡ tables_reply store.tables (node_named n (tree_at segment store.manifest.trees))
shown_said store n segment handles shown answer is same says = tables_said store n segment handles answer is (says ∙ ap (λ (hs : List SsTableHandle). reply (codes "ok" ∷ counted_tables hs ∷ [])) same)

-- ---- rows

all_rows : (store : Store) (handles : List SsTableHandle) → AllByRecursion (λ id. IsTrue (is_held store id)) (map (λ (h : SsTableHandle). h.id) handles)
    → flat_map (λ (h : SsTableHandle). rows_or_none (held_rows h.id store)) handles ≡ flat_map (table_rows store.tables) (map (λ (h : SsTableHandle). h.id) handles)
all_rows store [] all = refl
all_rows store (h ∷ handles) all =
    ap (λ (rows : List Row). rows ++ flat_map (λ (h : SsTableHandle). rows_or_none (held_rows h.id store)) handles) (held_are store h.id all.0) ∙ ap (λ (rows : List Row). table_rows store.tables h.id ++ rows) (all_rows store handles all.1)

-- The tables of a stored node are held.
node_held : (store : Store) (n : NodeName) (segment : List ℕ) (node : Node) → AllByRecursion (λ s. AllByRecursion (λ node. AreHeld store node.pieces) s.tree) store.manifest.trees → node_named n (tree_at segment store.manifest.trees) ≡ Some node → AreHeld store node.pieces
node_held store n segment node all named = by (segment_at segment store.manifest.trees) refl named
  where
    by : (o : Option Segment) → segment_at segment store.manifest.trees ≡ o → node_named n (tree_or_empty o) ≡ Some node → AreHeld store node.pieces
    by None is named = absurd (cc named)
    by (Some s) is named =
        all_at (λ (node : Node). AreHeld store node.pieces) s.tree node (all_at (λ (s : Segment). AllByRecursion (λ (node : Node). AreHeld store node.pieces) s.tree) store.manifest.trees s all (found (λ (s : Segment). bytes_eq segment s.prefix) store.manifest.trees s is).there)
        (found (λ (node : Node). name_eq n node.name) s.tree node named).there

pub rows_said : (store : Store) (n : NodeName) (segment : List ℕ) (handles : List SsTableHandle) (rows : List Row) (answer : List ℕ) → TablesHeld store → IsLook store n segment (Some handles)
    → rows ≡ flat_map (λ (h : SsTableHandle). rows_or_none (held_rows h.id store)) handles → answer ≡ reply (codes "ok" ∷ rows_text rows ∷ [])
    → answer ≡ dump_reply store.tables (node_named n (tree_at segment store.manifest.trees))
rows_said store n segment handles rows answer held_all (There found_handles node named pieces described) are says =
    let held = node_held store n segment node held_all.pieces named in
    says
    ∙ (ap (λ (rows : List Row). reply (codes "ok" ∷ rows_text rows ∷ []))
    (are ∙ (all_rows store found_handles (subst (AllByRecursion (λ id. IsTrue (is_held store id))) (sym pieces) (all_true_front (is_held store) node.pieces held)) ∙ ap (flat_map (table_rows store.tables)) pieces))
    ∙ ap (dump_reply store.tables) (sym named))
