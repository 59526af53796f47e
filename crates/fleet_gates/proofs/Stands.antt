-- Where sources stand among the nodes of a tree.
use Rattle.std.proofs.Common.{◌≡◌, refl, ◌∙◌, ap, List, [], ◌∷◌, ◌++◌, map, Bool, true, false, not, ◌||◌, ◌&&◌, cond}
use Rattle.std.specs.Prelude.{◌==◌, is_some, Option, Some, None}
use Rattle.std.specs.List.{list_all, list_any}
use Rattle.std.proofs.lemmas.Cmp.{nat_eq_equiv}
use Rattle.fleet_model.specs.Nodes.{NodeName, L0, Run, is_l0, name_eq, names_contain}
use Rattle.fleet_model.specs.Sources.{after_front, begins_with_run, older_nodes, or_later, reaches_oldest}
use Rattle.fleet_model.specs.Work.Gates.{first_failing}
use Rattle.fleet_tree.specs.declared.run.SortedRun.{SortedRun}
use Rattle.fleet_jobs.specs.Sources.{name_of}
use Rattle.fleet_jobs.specs.declared.source_id.SourceId.{SourceId}
use Rattle.fleet_gates.specs.Places.{names_of_runs}

-- ---- sources that are looked for one by one

-- A name is among the names of nodes if one of the nodes has it.
among : (nodes : List SourceId) (x : NodeName) → list_any (λ node. name_eq (name_of node) x) nodes ≡ names_contain (map name_of nodes) x
among [] x = refl
among (node ∷ nodes) x = by (name_eq (name_of node) x) (among nodes x)
  where
    by : (b : Bool) → list_any (λ n. name_eq (name_of n) x) nodes ≡ names_contain (map name_of nodes) x → (b || list_any (λ n. name_eq (name_of n) x) nodes) ≡ cond b true (names_contain (map name_of nodes) x)
    by true rest = refl
    by false rest = rest

pub all_among : (nodes sources : List SourceId) → list_all (λ source. list_any (λ node. name_eq (name_of node) (name_of source)) nodes) sources ≡ list_all (names_contain (map name_of nodes)) (map name_of sources)
all_among nodes [] = refl
all_among nodes (source ∷ sources) =
    ap (λ b. b && list_all (λ s. list_any (λ node. name_eq (name_of node) (name_of s)) nodes) sources) (among nodes (name_of source))
    ∙ ap (λ b. names_contain (map name_of nodes) (name_of source) && b) (all_among nodes sources)

-- ---- runs that are joined

turned : (x y : NodeName) → name_eq x y ≡ name_eq y x
turned (L0 a) (L0 b) = nat_eq_equiv.symm a b
turned (L0 a) (Run b) = refl
turned (Run a) (L0 b) = refl
turned (Run a) (Run b) = nat_eq_equiv.symm a b

-- What is among nodes is among them and one node more.
also : (x : NodeName) (nodes sources : List NodeName) → list_all (names_contain nodes) sources ≡ true → list_all (names_contain (x ∷ nodes)) sources ≡ true
also x nodes [] e = refl
also x nodes (y ∷ ys) e = by (name_eq x y) (names_contain nodes y) e (also x nodes ys)
  where
    by : (b has : Bool) → (has && list_all (names_contain nodes) ys) ≡ true → (list_all (names_contain nodes) ys ≡ true → list_all (names_contain (x ∷ nodes)) ys ≡ true) → (cond b true has && list_all (names_contain (x ∷ nodes)) ys) ≡ true
    by true true f rest = rest f
    by true false f rest = absurd (cc f)
    by false true f rest = rest f
    by false false f rest = absurd (cc f)

front_has : (sources nodes : List NodeName) → is_some (after_front sources nodes) ≡ true → list_all (names_contain nodes) sources ≡ true
front_has [] nodes e = refl
front_has (x ∷ xs) [] e = absurd (cc e)
front_has (x ∷ xs) (y ∷ ys) e = by (name_eq x y) refl e (front_has xs ys)
  where
    by : (b : Bool) → name_eq x y ≡ b → is_some (cond b (after_front xs ys) None) ≡ true → (is_some (after_front xs ys) ≡ true → list_all (names_contain ys) xs ≡ true) → list_all (names_contain (y ∷ ys)) (x ∷ xs) ≡ true
    by true same f rest = ap (λ b. cond b true (names_contain ys x) && list_all (names_contain (y ∷ ys)) xs) (turned y x ∙ same) ∙ also y ys xs (rest f)
    by false same f rest = absurd (cc f)

-- Sources that are among nodes one after the other are among them.
stretch_has : (sources nodes : List NodeName) → is_some (older_nodes sources nodes) ≡ true → list_all (names_contain nodes) sources ≡ true
stretch_has sources [] e = front_has sources [] e
stretch_has sources (y ∷ ys) e = by (after_front sources (y ∷ ys)) refl e (stretch_has sources ys)
  where
    by : (o : Option (List NodeName)) → after_front sources (y ∷ ys) ≡ o → is_some (or_later o (older_nodes sources ys)) ≡ true → (is_some (older_nodes sources ys) ≡ true → list_all (names_contain ys) sources ≡ true) → list_all (names_contain (y ∷ ys)) sources ≡ true
    by None front f rest = also y ys sources (rest f)
    by (Some older) front f rest = front_has sources (y ∷ ys) (ap is_some front)

stretch_behind : (sources front nodes : List NodeName) → is_some (older_nodes sources nodes) ≡ true → is_some (older_nodes sources (front ++ nodes)) ≡ true
stretch_behind sources [] nodes e = e
stretch_behind sources (x ∷ front) nodes e = by (after_front sources (x ∷ (front ++ nodes))) (stretch_behind sources front nodes e)
  where
    by : (o : Option (List NodeName)) → is_some (older_nodes sources (front ++ nodes)) ≡ true → is_some (or_later o (older_nodes sources (front ++ nodes))) ≡ true
    by None rest = rest
    by (Some older) rest = refl

front_no_flush : (sources : List NodeName) (runs : List SortedRun) → is_some (after_front sources (names_of_runs runs)) ≡ true → list_any is_l0 sources ≡ false
front_no_flush [] runs e = refl
front_no_flush (x ∷ xs) [] e = absurd (cc e)
front_no_flush (L0 a ∷ xs) (run ∷ runs) e = absurd (cc e)
front_no_flush (Run a ∷ xs) (run ∷ runs) e = by (a == run.id) e (front_no_flush xs runs)
  where
    by : (b : Bool) → is_some (cond b (after_front xs (names_of_runs runs)) None) ≡ true → (is_some (after_front xs (names_of_runs runs)) ≡ true → list_any is_l0 xs ≡ false) → list_any is_l0 xs ≡ false
    by true f rest = rest f
    by false f rest = absurd (cc f)

-- Sources that are among runs one after the other are no flushes.
no_flush : (sources : List NodeName) (runs : List SortedRun) → is_some (older_nodes sources (names_of_runs runs)) ≡ true → list_any is_l0 sources ≡ false
no_flush sources [] e = front_no_flush sources [] e
no_flush sources (run ∷ runs) e = by (after_front sources (names_of_runs (run ∷ runs))) refl e (no_flush sources runs)
  where
    by : (o : Option (List NodeName)) → after_front sources (names_of_runs (run ∷ runs)) ≡ o → is_some (or_later o (older_nodes sources (names_of_runs runs))) ≡ true → (is_some (older_nodes sources (names_of_runs runs)) ≡ true → list_any is_l0 sources ≡ false) → list_any is_l0 sources ≡ false
    by None front f rest = rest f
    by (Some older) front f rest = front_no_flush sources (run ∷ runs) (ap is_some front)

-- Sources that are among the runs of a tree one after the other are among its nodes.
pub runs_stand : (sources names front : List NodeName) (runs : List SortedRun) → names ≡ front ++ names_of_runs runs → is_some (older_nodes sources (names_of_runs runs)) ≡ true
    → list_all (names_contain names) sources ≡ true
runs_stand sources names front runs are stands =
    stretch_has sources names (ap (λ ns. is_some (older_nodes sources ns)) are ∙ stretch_behind sources front (names_of_runs runs) stands)

reaches : (sources : List NodeName) (found : Option (List NodeName)) → is_some found ≡ true → list_any is_l0 sources ≡ false → reaches_oldest sources found ≡ true
reaches sources None e f = absurd (cc e)
reaches sources (Some older) e f = ap (λ b. not b || begins_with_run older) f

all_hold : (drain has whole older : Bool) → drain ≡ false → has ≡ true → whole ≡ true → None ≡ first_failing ((4, has) ∷ (5, drain || whole) ∷ (6, not drain || older) ∷ [])
all_hold true has whole older e f g = absurd (cc e)
all_hold false true true older e f g = refl
all_hold false true false older e f g = absurd (cc g)
all_hold false false whole older e f g = absurd (cc f)

-- A job that joins runs which are one after the other passes the rules 4 to 6.
pub join_passes : (drain : Bool) (sources names front : List NodeName) (runs : List SortedRun) (older : Bool) → names ≡ front ++ names_of_runs runs → true ≡ (not drain && is_some (older_nodes sources (names_of_runs runs)))
    → None ≡ first_failing ((4, list_all (names_contain names) sources) ∷ (5, drain || reaches_oldest sources (older_nodes sources names)) ∷ (6, not drain || older) ∷ [])
join_passes drain sources names front runs older are e = by drain (is_some (older_nodes sources (names_of_runs runs))) refl e
  where
    by : (d stands : Bool) → is_some (older_nodes sources (names_of_runs runs)) ≡ stands → true ≡ (not d && stands)
        → None ≡ first_failing ((4, list_all (names_contain names) sources) ∷ (5, d || reaches_oldest sources (older_nodes sources names)) ∷ (6, not d || older) ∷ [])
    by true stands is f = absurd (cc f)
    by false false is f = absurd (cc f)
    by false true is f =
        let there = ap (λ ns. is_some (older_nodes sources ns)) are ∙ stretch_behind sources front (names_of_runs runs) is in
        all_hold false (list_all (names_contain names) sources) (reaches_oldest sources (older_nodes sources names)) older refl
        (runs_stand sources names front runs are is)
        (reaches sources (older_nodes sources names) there (no_flush sources runs is))
