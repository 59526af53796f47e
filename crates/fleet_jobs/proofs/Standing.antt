-- Where sources are among nodes.
use Rattle.std.proofs.Common.{◌≡◌, refl, sym, ◌∙◌, ap, ℕ, suc, ◌+◌, ◌<◌, List, [], ◌∷◌, ◌++◌, map, Bool, true, false, not, ◌||◌, ◌&&◌, cond, drop, length, get_or, take}
use Rattle.std.specs.Prelude.{nat_lt, bytes_eq, find, flat_map, filter, ◌==◌, option_map, is_some, Option, Some, None}
use Rattle.std.specs.List.{list_all, list_any}
use Rattle.std.proofs.Math.Seq.{drop-cons}
use Rattle.std.proofs.lemmas.Bool.{eqb-true, eq-eqb}
use Rattle.std.proofs.lemmas.List.{map-append, take-append-drop, take_more}
use Rattle.std.proofs.lemmas.List.Folds.{list_all-append}
use Rattle.fleet_model.specs.Work.Gates.{are_distinct, names_older, reserves_nodes}
use Rattle.fleet_model.specs.Jobs.{Job, Jobs, contains, nodes_of}
use Rattle.fleet_model.specs.Nodes.{NodeName, L0, Run, is_l0, name_eq, names, names_contain}
use Rattle.fleet_model.specs.Sources.{after_front, all_run_ids, begins_with_run, older_nodes, or_later, reaches_oldest, run_ids}
use Rattle.fleet_tree.specs.Trees.{RunFlushes, flush_node, run_node, segment_of, tree_of}
use Rattle.fleet_tree.specs.Views.{View}
use Rattle.fleet_tree.specs.declared.run.SortedRun.{SortedRun}
use Rattle.fleet_tree.specs.declared.tree.LsmTreeState.{LsmTreeState}
use Rattle.fleet_jobs.specs.Places.{held_nodes, nodes_in}
use Rattle.fleet_jobs.proofs.Indexed.{among_more}

pub some_map : {A B : Type 0} (f : A → B) (o : Option A) → is_some (option_map f o) ≡ is_some o
some_map f None = refl
some_map f (Some x) = refl

-- Sources that stand at the front of nodes stand there first.
pub found_in_front : (sources rest : List NodeName) (found : Option (List NodeName)) → found ≡ after_front sources rest → is_some found ≡ true → found ≡ older_nodes sources rest
found_in_front sources [] found is some = is
found_in_front sources (node ∷ rest) found is some = by (after_front sources (node ∷ rest)) refl
  where
    by : (front : Option (List NodeName)) → after_front sources (node ∷ rest) ≡ front → found ≡ or_later front (older_nodes sources rest)
    by None e = let none : is_some found ≡ false = ap is_some (is ∙ e) in absurd (cc (sym some ∙ none))
    by (Some older) e = is ∙ e

-- A stretch reaches the oldest flush if it has no flush, or if the next older node is a run.
pub reaches_if : {X : Type 0} (name : X → NodeName) (sources older : List X) (found : Option (List NodeName)) (has : Bool) → has ≡ list_any (λ x. is_l0 (name x)) sources → Some (map name older) ≡ found
    → reaches_oldest (map name sources) found ≡ (not has || begins_with_run (map name older))
reaches_if name sources older found has is there =
    ap (reaches_oldest (map name sources)) (sym there) ∙ ap (λ b. not b || begins_with_run (map name older)) (flushes_among sources ∙ sym is)
  where
    flushes_among : (xs : List _) → list_any is_l0 (map name xs) ≡ list_any (λ x. is_l0 (name x)) xs
    flushes_among [] = refl
    flushes_among (x ∷ xs) = ap (λ b. is_l0 (name x) || b) (flushes_among xs)

-- The first node is the newest flush among the sources, so that each later flush has to be a source.
pub older_here : {X : Type 0} (name : X → NodeName) (sources : List NodeName) (nodes : List X) (node : X) → node ≡ get_or nodes 0 node → is_l0 (name node) ≡ true
    → names_contain sources (name node) ≡ true → list_all (λ x. not (is_l0 (name x)) || names_contain sources (name x)) (drop 1 nodes) ≡ names_older sources (map name nodes)
older_here name sources [] node is flush source = refl
older_here name sources (first ∷ others) node is flush source = by (name first) refl
  where
    each : (xs : List _) → list_all (λ x. not (is_l0 (name x)) || names_contain sources (name x)) xs ≡ list_all (λ other. not (is_l0 other) || names_contain sources other) (map name xs)
    each [] = refl
    each (x ∷ xs) = ap (λ b. (not (is_l0 (name x)) || names_contain sources (name x)) && b) (each xs)

    by : (n : NodeName) → name first ≡ n → list_all (λ x. not (is_l0 (name x)) || names_contain sources (name x)) others ≡ names_older sources (n ∷ map name others)
    by (L0 id) e =
        each others
        ∙ sym (ap (λ b. cond b (list_all (λ other. not (is_l0 other) || names_contain sources other) (map name others)) (names_older sources (map name others))) (ap (names_contain sources) (sym e ∙ ap name (sym is)) ∙ source))
    by (Run id) e = absurd (cc (sym flush ∙ ap (λ x. is_l0 (name x)) is ∙ ap is_l0 e))

-- An id is in a list if one of the elements equals it.
pub contained : (id : ℕ) (ids : List ℕ) → list_any (λ other. other == id) ids ≡ contains ids id
contained id [] = refl
contained id (other ∷ ids) = by (other == id) (contained id ids)
  where
    by : (b : Bool) → list_any (λ other. other == id) ids ≡ contains ids id → (b || list_any (λ other. other == id) ids) ≡ cond b true (contains ids id)
    by true e = refl
    by false e = e

-- The runs of all nodes, one node after the other.
pub above_each : {X : Type 0} (name : X → NodeName) (run : ℕ) (nodes : List X) → list_all (λ node. list_all (λ id. nat_lt id run) (run_ids (name node ∷ []))) nodes ≡ list_all (λ id. nat_lt id run) (run_ids (map name nodes))
above_each name run [] = refl
above_each name run (node ∷ nodes) = by (name node) (above_each name run nodes)
  where
    both : (a b : Bool) → ((a && true) && b) ≡ (a && b)
    both true b = refl
    both false b = refl

    by : (n : NodeName) → list_all (λ x. list_all (λ id. nat_lt id run) (run_ids (name x ∷ []))) nodes ≡ list_all (λ id. nat_lt id run) (run_ids (map name nodes))
        → (list_all (λ id. nat_lt id run) (run_ids (n ∷ [])) && list_all (λ x. list_all (λ id. nat_lt id run) (run_ids (name x ∷ []))) nodes) ≡ list_all (λ id. nat_lt id run) (run_ids (n ∷ map name nodes))
    by (L0 id) rest = rest
    by (Run id) rest = both (nat_lt id run) (list_all (λ x. list_all (λ id. nat_lt id run) (run_ids (name x ∷ []))) nodes) ∙ ap (λ b. nat_lt id run && b) rest

module _ (flushes : ℕ → List ℕ) where
  run_names : (runs : List SortedRun) → names (map (run_node flushes) runs) ≡ map (λ run. Run run.id) runs
  run_names [] = refl
  run_names (run ∷ runs) = ap (λ ns. Run run.id ∷ ns) (run_names runs)

  -- The names of the model's nodes of a tree.
  pub names_are : (tree : LsmTreeState) → names (tree_of flushes tree) ≡ nodes_in tree
  names_are tree = by tree.l0
    where
      by : (views : List View) → names (map (flush_node flushes) views ++ map (run_node flushes) tree.compacted) ≡ map (λ view. L0 view.id) views ++ map (λ run. Run run.id) tree.compacted
      by [] = run_names tree.compacted
      by (view ∷ views) = ap (λ ns. L0 view.id ∷ ns) (by views)

above_runs : (run : ℕ) (runs : List SortedRun) → list_all (λ id. nat_lt id run) (run_ids (map (λ (other : SortedRun). Run other.id) runs)) ≡ list_all (λ other. nat_lt other.id run) runs
above_runs run [] = refl
above_runs run (other ∷ runs) = ap (λ b. nat_lt other.id run && b) (above_runs run runs)

above_nodes : (run : ℕ) (views : List View) (runs : List SortedRun) → list_all (λ id. nat_lt id run) (run_ids (map (λ (view : View). L0 view.id) views ++ map (λ (other : SortedRun). Run other.id) runs)) ≡ list_all (λ other. nat_lt other.id run) runs
above_nodes run [] runs = above_runs run runs
above_nodes run (view ∷ views) runs = above_nodes run views runs

-- A run is above all runs of the model's trees if it is above all runs of the program's trees.
pub above_all_trees : (flushes : RunFlushes) (run : ℕ) (trees : List (List ℕ × LsmTreeState))
    → list_all (λ s. list_all (λ other. nat_lt other.id run) s.1.compacted) trees ≡ list_all (λ id. nat_lt id run) (all_run_ids (map (segment_of flushes) trees))
above_all_trees flushes run [] = refl
above_all_trees flushes run (s ∷ trees) =
    ap (λ b. list_all (λ other. nat_lt other.id run) s.1.compacted && b) (above_all_trees flushes run trees)
    ∙ ap (λ b. b && list_all (λ id. nat_lt id run) (all_run_ids (map (segment_of flushes) trees)))
    (sym (ap (λ ns. list_all (λ id. nat_lt id run) (run_ids ns)) (names_are (flushes s.0) s.1) ∙ above_nodes run s.1.l0 s.1.compacted))
    ∙ sym (list_all-append (λ id. nat_lt id run) (run_ids (names (tree_of (flushes s.0) s.1))) (all_run_ids (map (segment_of flushes) trees)))

eqb-turned : (a b : ℕ) → (a == b) ≡ (b == a)
eqb-turned a b = by (a == b) (b == a) refl refl
  where
    by : (x y : Bool) → (a == b) ≡ x → (b == a) ≡ y → x ≡ y
    by true true e f = refl
    by false false e f = refl
    by true false e f = sym (sym f ∙ eq-eqb b a (sym (eqb-true a b e)))
    by false true e f = sym e ∙ eq-eqb a b (sym (eqb-true b a f))

name_turned : (x y : NodeName) → name_eq x y ≡ name_eq y x
name_turned (L0 a) (L0 b) = eqb-turned a b
name_turned (L0 a) (Run b) = refl
name_turned (Run a) (L0 b) = refl
name_turned (Run a) (Run b) = eqb-turned a b

-- A name that was there before is named twice.
pub repeated : (xs ys : List NodeName) (x : NodeName) → names_contain xs x ≡ true → false ≡ are_distinct (xs ++ x ∷ ys)
repeated [] ys x there = absurd (cc there)
repeated (y ∷ xs) ys x there = by (name_eq y x) refl there (repeated xs ys x)
  where
    among : (zs : List NodeName) → name_eq x y ≡ true → names_contain (zs ++ x ∷ ys) y ≡ true
    among [] e = ap (λ b. cond b true (names_contain ys y)) e
    among (z ∷ zs) e = either (name_eq z y) (among zs e)
      where
        either : (b : Bool) → names_contain (zs ++ x ∷ ys) y ≡ true → cond b true (names_contain (zs ++ x ∷ ys) y) ≡ true
        either true h = refl
        either false h = h

    by : (b : Bool) → name_eq y x ≡ b → cond b true (names_contain xs x) ≡ true → (names_contain xs x ≡ true → false ≡ are_distinct (xs ++ x ∷ ys)) → false ≡ (not (names_contain (xs ++ x ∷ ys) y) && are_distinct (xs ++ x ∷ ys))
    by true e h rest = sym (ap (λ b. not b && are_distinct (xs ++ x ∷ ys)) (among xs (name_turned x y ∙ e)))
    by false e h rest = none (not (names_contain (xs ++ x ∷ ys) y)) ∙ ap (λ b. not (names_contain (xs ++ x ∷ ys) y) && b) (rest h)
      where
        none : (b : Bool) → false ≡ (b && false)
        none true = refl
        none false = refl

-- A new name keeps names distinct.
pub still_distinct : (xs : List NodeName) (x : NodeName) → are_distinct xs ≡ true → names_contain xs x ≡ false → are_distinct (xs ++ x ∷ []) ≡ true
still_distinct [] x distinct new = refl
still_distinct (y ∷ xs) x distinct new = by (names_contain xs y) (name_eq y x) refl refl distinct new (still_distinct xs x)
  where
    by : (twice here : Bool) → names_contain xs y ≡ twice → name_eq y x ≡ here → (not twice && are_distinct xs) ≡ true → cond here true (names_contain xs x) ≡ false
        → (are_distinct xs ≡ true → names_contain xs x ≡ false → are_distinct (xs ++ x ∷ []) ≡ true) → (not (names_contain (xs ++ x ∷ []) y) && are_distinct (xs ++ x ∷ [])) ≡ true
    by true here e f d n rest = absurd (cc d)
    by false true e f d n rest = absurd (cc n)
    by false false e f d n rest =
        ap (λ b. not b && are_distinct (xs ++ x ∷ [])) (among_more xs x y ∙ ap (λ b. b || name_eq x y) e ∙ name_turned x y ∙ f) ∙ rest d n

-- The same of the first nodes and one node more.
pub twice_at : {X : Type 0} (name : X → NodeName) (nodes : List X) (i : ℕ) (node : X) (seen : List NodeName) → i < length nodes → node ≡ get_or nodes i node → seen ≡ map name (take i nodes)
    → names_contain seen (name node) ≡ true → false ≡ are_distinct (map name nodes)
twice_at name nodes i node seen lt is so there =
    let rest : drop i nodes ≡ node ∷ drop (suc i) nodes = drop-cons nodes i node lt ∙ ap (λ x. x ∷ drop (suc i) nodes) (sym is) in
    let whole : map name nodes ≡ map name (take i nodes) ++ name node ∷ map name (drop (suc i) nodes) =
    ap (map name) (sym (take-append-drop i nodes) ∙ ap (λ l. take i nodes ++ l) rest) ∙ map-append name (take i nodes) (node ∷ drop (suc i) nodes) in
    repeated (map name (take i nodes)) (map name (drop (suc i) nodes)) (name node) (ap (λ l. names_contain l (name node)) (sym so) ∙ there) ∙ ap are_distinct (sym whole)

pub distinct_to : {X : Type 0} (name : X → NodeName) (nodes : List X) (i : ℕ) (node : X) (seen made : List NodeName) → i < length nodes → node ≡ get_or nodes i node
    → (seen ≡ map name (take i nodes)) × (are_distinct (map name (take i nodes)) ≡ true) → names_contain seen (name node) ≡ false → made ≡ seen ++ name node ∷ []
    → (made ≡ map name (take (i + 1) nodes)) × (are_distinct (map name (take (i + 1) nodes)) ≡ true)
distinct_to name nodes i node seen made lt is so new more =
    let first : map name (take (i + 1) nodes) ≡ map name (take i nodes) ++ name node ∷ [] =
    ap (map name) (take_more nodes i node lt ∙ ap (λ x. take i nodes ++ x ∷ []) (sym is)) ∙ map-append name (take i nodes) (node ∷ []) in
    let fresh : names_contain (map name (take i nodes)) (name node) ≡ false = ap (λ l. names_contain l (name node)) (sym so.0) ∙ new in (
      more ∙ ap (λ l. l ++ name node ∷ []) so.0 ∙ sym first,
      ap are_distinct first ∙ still_distinct (map name (take i nodes)) (name node) so.1 fresh,
    )
