-- The first sizes of tables, as they are gathered.
use Rattle.std.proofs.Common.{◌≡◌, refl, sym, ◌∙◌, ap, ℕ, List, [], ◌∷◌, ◌++◌, ◌+◌, ◌<◌, length, get_or, take, map, Bool, true, false, cond}
use Rattle.std.specs.Prelude.{◌==◌, find, flat_map, option_map, Option, Some, None}
use Rattle.std.specs.BTreeMap.{BTreeMap, get}
use Rattle.std.specs.Option.{option_or}
use Rattle.std.specs.Ordering.{nat_cmp}
use Rattle.std.proofs.lemmas.List.{append-nil, map-append, take_more}
use Rattle.std.proofs.lemmas.List.Concat.{flat_map-append}
use Rattle.fleet_tree.specs.Handles.{handle_of}
use Rattle.fleet_tree.specs.Views.{View}
use Rattle.fleet_tree.specs.declared.handle.SsTableHandle.{SsTableHandle}
use Rattle.fleet_tree.specs.declared.run.SortedRun.{SortedRun}
use Rattle.fleet_tree.specs.declared.tree.LsmTreeState.{LsmTreeState}
use Rattle.fleet_sched.specs.Views.{tree_handles}
use Rattle.fleet_sched.proofs.Lists.{IsGathering}
use Rattle.fleet_level.specs.Sizes.{HasSizes, first_size, tables_of_runs, tables_of_trees}

-- The first one of two lists is that of the first list, or else that of the second one.
first-append : (id : ℕ) (xs ys : List SsTableHandle) → first_size id (xs ++ ys) ≡ option_or (first_size id xs) (first_size id ys)
first-append id [] ys = refl
first-append id (x ∷ xs) ys = by (x.id == id) (first-append id xs ys)
  where
    by : (b : Bool) → first_size id (xs ++ ys) ≡ option_or (first_size id xs) (first_size id ys)
        → option_map (λ table. table.size) (cond b (Some x) (find (λ table. table.id == id) (xs ++ ys)))
        ≡ option_or (option_map (λ table. table.size) (cond b (Some x) (find (λ table. table.id == id) xs))) (first_size id ys)
    by true rest = refl
    by false rest = rest

either : {A : Type 0} (a b c : Option A) → option_or (option_or a b) c ≡ option_or a (option_or b c)
either None b c = refl
either (Some a) b c = refl

-- The sizes so far, and then those of one list more.
pub then_first : (id : ℕ) (xs ys : List SsTableHandle) (begun old new : Option ℕ) → old ≡ option_or begun (first_size id xs) → new ≡ option_or old (first_size id ys)
    → new ≡ option_or begun (first_size id (xs ++ ys))
then_first id xs ys begun old new so step =
    step ∙ ap (λ o. option_or o (first_size id ys)) so ∙ either begun (first_size id xs) (first_size id ys) ∙ ap (option_or begun) (sym (first-append id xs ys))

-- The sizes of the tables of the first items, and of one item more.
first_more : {X : Type 0} (gather : List X → List SsTableHandle) → IsGathering gather → (id : ℕ) (xs : List X) (i : ℕ) (x : X) (begun old new : Option ℕ) → i < length xs → x ≡ get_or xs i x
    → old ≡ option_or begun (first_size id (gather (take i xs))) → new ≡ option_or old (first_size id (gather (x ∷ []))) → new ≡ option_or begun (first_size id (gather (take (i + 1) xs)))
first_more gather g id xs i x begun old new below is so step =
    let more : gather (take (i + 1) xs) ≡ gather (take i xs) ++ gather (x ∷ []) = ap gather (take_more xs i x below ∙ ap (λ y. take i xs ++ y ∷ []) (sym is)) ∙ g.joins (take i xs) (x ∷ []) in
    then_first id (gather (take i xs)) (gather (x ∷ [])) begun old new so step ∙ ap (λ l. option_or begun (first_size id l)) (sym more)

-- One item more of a list whose items have tables.
one_item_more : {X : Type 0} (tables : X → List SsTableHandle) (id : ℕ) (xs : List X) (i : ℕ) (x : X) (begun old new : Option ℕ) → i < length xs → x ≡ get_or xs i x
    → old ≡ option_or begun (first_size id (flat_map tables (take i xs))) → new ≡ option_or old (first_size id (tables x)) → new ≡ option_or begun (first_size id (flat_map tables (take (i + 1) xs)))
one_item_more tables id xs i x begun old new below is so step =
    first_more (flat_map tables) (record { joins = flat_map-append tables }) id xs i x begun old new below is so (step ∙ ap (λ l. option_or old (first_size id l)) (sym (append-nil (tables x))))

-- One run less is left.
pub one_run_less : (id : ℕ) (left : List SortedRun) (run : SortedRun) (rest : List SortedRun) (old new : Option ℕ) → left ≡ run ∷ rest
    → new ≡ option_or old (first_size id (map (λ view. view.sst) run.views)) → option_or new (first_size id (tables_of_runs rest)) ≡ option_or old (first_size id (tables_of_runs left))
one_run_less id left run rest old new is step =
    let tables = map (λ (view : View). view.sst) run.views in
    ap (λ o. option_or o (first_size id (tables_of_runs rest))) step
    ∙ either old (first_size id tables) (first_size id (tables_of_runs rest))
    ∙ ap (option_or old) (sym (first-append id tables (tables_of_runs rest)))
    ∙ ap (λ l. option_or old (first_size id (tables_of_runs l))) (sym is)

-- One tree more.
pub one_tree_more : (id : ℕ) (trees : List (List ℕ × LsmTreeState)) (i : ℕ) (s : List ℕ × LsmTreeState) (begun old new : Option ℕ) → i < length trees → s ≡ get_or trees i s
    → old ≡ option_or begun (first_size id (tables_of_trees (take i trees))) → new ≡ option_or old (first_size id (tree_handles s.1))
    → new ≡ option_or begun (first_size id (tables_of_trees (take (i + 1) trees)))
one_tree_more = one_item_more (λ (s : List ℕ × LsmTreeState). tree_handles s.1)

-- The tables that a program finds are those that the model finds by the handles.
found_as : (id : ℕ) (tables : List SsTableHandle) → first_size id tables ≡ option_map (λ h. h.size) (find (λ h. h.id == id) (map handle_of tables))
found_as id [] = refl
found_as id (x ∷ tables) = by (x.id == id) (found_as id tables)
  where
    by : (b : Bool) → first_size id tables ≡ option_map (λ h. h.size) (find (λ h. h.id == id) (map handle_of tables))
        → option_map (λ table. table.size) (cond b (Some x) (find (λ table. table.id == id) tables))
        ≡ option_map (λ h. h.size) (cond b (Some (handle_of x)) (find (λ h. h.id == id) (map handle_of tables)))
    by true rest = refl
    by false rest = rest

-- A map with the sizes of the root and then of the segments has the sizes of all trees.
pub has_all : (sizes : BTreeMap ℕ ℕ) (root : LsmTreeState) (segments : List (List ℕ × LsmTreeState))
    → ((id : ℕ) → get nat_cmp sizes id ≡ option_or (first_size id (tree_handles root)) (first_size id (tables_of_trees segments)))
    → HasSizes sizes (map handle_of (tables_of_trees (([], root) ∷ segments)))
has_all sizes root segments found = record {
  size = λ id.
      found id ∙ sym (first-append id (tree_handles root) (tables_of_trees segments)) ∙ found_as id (tables_of_trees (([], root) ∷ segments));
}
