-- The node of a flush is newer than all others of its tree, and its name and its table are new.
use Rattle.std.proofs.Common.{◌≡◌, refl, sym, ◌∙◌, ap, subst, ℕ, ◌+◌, ◌*◌, ◌%◌, ◌^◌, ◌<◌, List, [], ◌∷◌, ◌++◌, cond, Bool, true, false, inl, inr, Some, None, arith}
use Rattle.std.specs.Prelude.{IsTrue, bytes_eq, flat_map}
use Rattle.std.specs.Ordering.{is_lt}
use Rattle.std.specs.List.{AllByRecursion, cons_option}
use Rattle.std.proofs.lemmas.Bool.Decides.{Decides-eqb}
use Rattle.std.proofs.lemmas.Nat.{mod-mul-add}
use Rattle.row_model.specs.Rows.{Row, key_cmp}
use Rattle.fleet_model.specs.Nodes.{NodeName, L0, Run, name_eq, Tree, Segment, Trees, names, node_named, tree_at}
use Rattle.fleet_model.specs.Jobs.{number_of, drawn_base, contains}
use Rattle.fleet_model.specs.History.{Entry}
use Rattle.fleet_model.specs.Handles.{tree_tables}
use Rattle.fleet_model.specs.Trees.{flushed_trees, flushed_on, empty_segment, source_nodes}
use Rattle.fleet_model.specs.Sources.{run_ids, all_run_ids, after_front, or_later, older_nodes}
use Rattle.step_model.specs.Entries.{was_flushed, drawn_tables}
use Rattle.step_model.specs.Kept.NamesKept.{DrawsKept}
use Rattle.step_model.specs.Kept.TablesKept.{IsKnownPiece, IsFlushed}
use Rattle.step_laws.proofs.Elements.{IsIn, all_at, all_from, all_to, all_flat, contains_in, contains_no, in_contains, in_front, in_back}
use Rattle.step_laws.proofs.FlushTrees.{Rising, each_flushed, new_node, tree_flushed}

pub refused : (b : Bool) → b ≡ false → IsTrue b → ⊥
refused true e h = absurd (cc e)
refused false e h = absurd (cc h)

-- ---- the name is new

pub small_number : (name : ℕ) → name < drawn_base → number_of name ≡ name
small_number name low = ap (λ n. n % 2 ^ 80) (plain name) ∙ mod-mul-add 0 (2 ^ 80) name (omega (arith, low))
  where
    plain : (n : ℕ) → n ≡ 0 * 2 ^ 80 + n
    plain n = omega arith

-- A table that is known is none with a new name of a flush.
pub known_differs : (jobs_drawn tables_drawn : ℕ) (history : List Entry) (name id : ℕ) → DrawsKept jobs_drawn tables_drawn history → name < drawn_base → was_flushed history name ≡ false → IsKnownPiece history id → name ≡ id → ⊥
known_differs jobs_drawn tables_drawn history name id draws low once (inl drawn) same =
    let high = (all_at _ (drawn_tables history) id draws.tables_counted (contains_in (drawn_tables history) id drawn)).0 in
    let number = small_number name low in
    let equal = ap number_of same in
    absurd (omega (arith, high, number, equal, low))
known_differs jobs_drawn tables_drawn history name id draws low once (inr flushed_trees) same = refused (was_flushed history name) once (subst (λ n. IsTrue (was_flushed history n)) (sym same) flushed_trees)

-- A source that was flushed is not the new node.
pub source_differs : (history : List Entry) (name : ℕ) (x : NodeName) → was_flushed history name ≡ false → IsFlushed history x → name_eq x (L0 name) ≡ false
source_differs history name (Run id) once h = refl
source_differs history name (L0 flush) once h = by (name_eq (L0 flush) (L0 name)) refl
  where
    by : (b : Bool) → name_eq (L0 flush) (L0 name) ≡ b → b ≡ false
    by true e = absurd (refused (was_flushed history name) once (subst (λ n. IsTrue (was_flushed history n)) ((Decides-eqb flush name).0 e) h))
    by false e = refl

-- No tree after the flush holds a table that none held, but for the flush's own.
pub not_in_flushed : (prefix : List ℕ) (name : ℕ) (rows : List Row) (trees : Trees) (t : ℕ) → (name ≡ t → ⊥) → contains (flat_map tree_tables trees) t ≡ false → contains (flat_map tree_tables (flushed_trees prefix name rows trees)) t ≡ false
not_in_flushed prefix name rows trees t differs none =
    contains_no (flat_map tree_tables (flushed_trees prefix name rows trees)) t (λ there. at (flushed_trees prefix name rows trees) there
    (each_flushed (λ s. IsIn t (tree_tables s) → ⊥) (λ s. IsIn t (tree_tables s) → ⊥) prefix name rows trees (λ s there p. p) (λ s there same p one. grown s p one) (λ one. only one) (old trees (λ there. refused (contains (flat_map tree_tables trees) t) none (has (flat_map tree_tables trees) there)))))
  where
    has : (xs : List ℕ) → IsIn t xs → IsTrue (contains xs t)
    has xs there = in_contains xs t there

    grown : (s : Segment) → (IsIn t (tree_tables s) → ⊥) → IsIn t (tree_tables (flushed_on name rows s)) → ⊥
    grown s p (inl same) = differs same
    grown s p (inr one) = p one

    only : IsIn t (name ∷ []) → ⊥
    only (inl same) = differs same
    only (inr never) = never

    old : (ts : Trees) → (IsIn t (flat_map tree_tables ts) → ⊥) → AllByRecursion (λ s. IsIn t (tree_tables s) → ⊥) ts
    old [] h = tt
    old (s ∷ ts) h = ((λ one. h (in_front t (tree_tables s) (flat_map tree_tables ts) one)), old ts (λ one. h (in_back t (tree_tables s) (flat_map tree_tables ts) one)))

    at : (us : Trees) → IsIn t (flat_map tree_tables us) → AllByRecursion (λ s. IsIn t (tree_tables s) → ⊥) us → ⊥
    at us one k = all_at (λ n. n ≡ t → ⊥) (flat_map tree_tables us) t (all_flat _ tree_tables us (all_to _ _ us (λ s there p. all_from _ (tree_tables s) (λ n in_s same. p (subst (λ m. IsIn m (tree_tables s)) same in_s))) k)) one refl

-- ---- sources after a flush

-- All sources are others than the new node.
abbrev pub Differ : ℕ → List NodeName → Type 0
Differ name sources = AllByRecursion (λ x. name_eq x (L0 name) ≡ false) sources

older_on : (name : ℕ) (x : NodeName) (xs ys : List NodeName) → name_eq x (L0 name) ≡ false → older_nodes (x ∷ xs) (L0 name ∷ ys) ≡ older_nodes (x ∷ xs) ys
older_on name x xs ys e = ap (λ b. or_later (cond b (after_front xs ys) None) (older_nodes (x ∷ xs) ys)) e

pieces_on : (name : ℕ) (sources : List NodeName) (tree : Tree) → Differ name sources → source_nodes sources (new_node name ∷ tree) ≡ source_nodes sources tree
pieces_on name [] tree h = refl
pieces_on name (x ∷ xs) tree h =
    let first : node_named x (new_node name ∷ tree) ≡ node_named x tree = ap (λ b. cond b (Some (new_node name)) (node_named x tree)) h.0 in
    let rest = pieces_on name xs tree h.1 in
    λ i. cons_option (first i) (rest i)

pub runs_flushed : (prefix : List ℕ) (name : ℕ) (rows : List Row) (trees : Trees) → all_run_ids (flushed_trees prefix name rows trees) ≡ all_run_ids trees
runs_flushed prefix name rows [] = refl
runs_flushed prefix name rows (s ∷ trees) = by (bytes_eq prefix s.prefix) (is_lt (key_cmp prefix s.prefix)) (runs_flushed prefix name rows trees)
  where
    by : (same below : Bool) → all_run_ids (flushed_trees prefix name rows trees) ≡ all_run_ids trees
        → all_run_ids (cond same (flushed_on name rows s ∷ trees) (cond below (flushed_on name rows (empty_segment prefix) ∷ s ∷ trees) (s ∷ flushed_trees prefix name rows trees))) ≡ all_run_ids (s ∷ trees)
    by true below rest = refl
    by false true rest = refl
    by false false rest = ap (λ ids. run_ids (names s.tree) ++ ids) rest

-- What is asked of the tree of a job is the same with the new node in front.
pub record SameSources (sources : List NodeName) (new old : Tree) : Type 0 where
  pub older : older_nodes sources (names new) ≡ older_nodes sources (names old)
  pub nodes : source_nodes sources new ≡ source_nodes sources old
  pub runs : run_ids (names new) ≡ run_ids (names old)

pub same_sources : (p prefix : List ℕ) (name : ℕ) (rows : List Row) (trees : Trees) (x : NodeName) (xs : List NodeName) → Rising trees → Differ name (x ∷ xs) → SameSources (x ∷ xs) (tree_at p (flushed_trees prefix name rows trees)) (tree_at p trees)
same_sources p prefix name rows trees x xs rise h = subst (λ tree. SameSources (x ∷ xs) tree (tree_at p trees)) (sym (tree_flushed p prefix name rows trees rise)) (by (bytes_eq p prefix))
  where
    by : (b : Bool) → SameSources (x ∷ xs) (cond b (new_node name ∷ tree_at p trees) (tree_at p trees)) (tree_at p trees)
    by true = record { older = older_on name x xs (names (tree_at p trees)) h.0; nodes = pieces_on name (x ∷ xs) (tree_at p trees) h; runs = refl }
    by false = record { older = refl; nodes = refl; runs = refl }
