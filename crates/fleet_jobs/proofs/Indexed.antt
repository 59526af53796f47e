-- The sets of one node more.
use Rattle.std.proofs.Common.{◌≡◌, refl, sym, ◌∙◌, ap, ℕ, List, [], ◌∷◌, ◌++◌, map, Bool, true, false, ◌||◌, cond}
use Rattle.std.specs.BTreeSet.{BTreeSet, IsUnchanged, contains}
use Rattle.std.specs.Ordering.{nat_cmp}
use Rattle.std.specs.List.{list_any}
use Rattle.std.specs.BTreeMap.{is_at}
use Rattle.std.specs.Prelude.{Result, Ok, Err, OnOk, OnErr}
use Rattle.std.proofs.lemmas.List.{map-append}
use Rattle.fleet_model.specs.Nodes.{NodeName, L0, Run, name_eq, names_contain}
use Rattle.fleet_jobs.specs.Indexed.{HasMore, IsIndex}

-- A name is among the nodes and one node more if it is among the nodes or is that node.
pub among_more : (nodes : List NodeName) (node name : NodeName) → names_contain (nodes ++ node ∷ []) name ≡ (names_contain nodes name || name_eq node name)
among_more [] node name = by (name_eq node name)
  where
    by : (b : Bool) → cond b true false ≡ b
    by true = refl
    by false = refl
among_more (first ∷ nodes) node name = by (name_eq first name) (among_more nodes node name)
  where
    by : (b : Bool) → names_contain (nodes ++ node ∷ []) name ≡ (names_contain nodes name || name_eq node name)
        → cond b true (names_contain (nodes ++ node ∷ []) name) ≡ (cond b true (names_contain nodes name) || name_eq node name)
    by true e = refl
    by false e = e

among_made : {X : Type 0} (name : X → NodeName) (nodes made : List X) (node : X) (other : NodeName) (old new : Bool) → old ≡ names_contain (map name nodes) other → new ≡ (old || name_eq (name node) other)
    → made ≡ nodes ++ node ∷ [] → new ≡ names_contain (map name made) other
among_made name nodes made node other old new index more is =
    more
    ∙ ap (λ b. b || name_eq (name node) other) index
    ∙ sym (among_more (map name nodes) (name node) other)
    ∙ sym (ap (λ l. names_contain l other) (ap (map name) is ∙ map-append name nodes (node ∷ [])))

-- The sets stay the index of the nodes, whether a node was added or not.
pub still_index : {X E : Type 0} (name : X → NodeName) (runs new_runs flushes new_flushes : BTreeSet ℕ) (nodes made : List X) (node : X) (r : Result (Unit {0}) E) → IsIndex runs flushes (map name nodes)
    → OnOk r (made ≡ nodes ++ node ∷ []) → OnOk r (HasMore runs new_runs flushes new_flushes (name node)) → OnErr r (made ≡ nodes) → OnErr r (IsUnchanged runs new_runs × IsUnchanged flushes new_flushes)
    → IsIndex new_runs new_flushes (map name made)
still_index name runs new_runs flushes new_flushes nodes made node (Ok done) index is more same unchanged = record {
  run = λ id. among_made name nodes made node (Run id) (contains nat_cmp runs id) (contains nat_cmp new_runs id) (index.run id) (more.run id) is;
  flush = λ id. among_made name nodes made node (L0 id) (contains nat_cmp flushes id) (contains nat_cmp new_flushes id) (index.flush id) (more.flush id) is;
}
still_index name runs new_runs flushes new_flushes nodes made node (Err e) index is more same unchanged = record {
  run = λ id. ap (λ ks. list_any (λ k. is_at (nat_cmp id) k) ks) unchanged.0 ∙ index.run id ∙ sym (ap (λ l. names_contain (map name l) (Run id)) same);
  flush = λ id. ap (λ ks. list_any (λ k. is_at (nat_cmp id) k) ks) unchanged.1 ∙ index.flush id ∙ sym (ap (λ l. names_contain (map name l) (L0 id)) same);
}
