-- Which flushes went into runs after a job made its run, and in which order the sources of such a job are.
use Rattle.std.proofs.Common.{◌≡◌, refl, sym, ◌∙◌, ap, subst, ℕ, List, [], ◌∷◌, ◌++◌, map, Bool, true, false, not, ◌&&◌, cond, arith}
use Rattle.std.specs.Prelude.{◌==◌, bytes_eq, filter, find, flat_map, nat_le, nat_lt, option_map, Option, Some, None, ⊤}
use Rattle.std.specs.List.{AllByRecursion, list_all, list_any}
use Rattle.std.specs.List.Sorted.{IsStrictlySortedBy}
use Rattle.std.specs.Ordering.{ordering_reverse}
use Rattle.std.specs.declared.cmp.Ordering.TheVariants.{Less}
use Rattle.std.proofs.lemmas.Bool.{eqb-true, eq-eqb, ltb-true}
use Rattle.std.proofs.lemmas.Cmp.{nat_list_cmp_total}
use Rattle.std.proofs.lemmas.Slice.Eq.{bytes_eq-Decides}
use Rattle.row_model.specs.Rows.{key_cmp}
use Rattle.fleet_model.specs.Work.Gates.{is_nonempty}
use Rattle.fleet_model.specs.Jobs.{contains}
use Rattle.fleet_model.specs.Nodes.{NodeName, L0, Run, is_l0, segment_at, tree_at, tree_or_empty}
use Rattle.fleet_model.specs.Sources.{after_front, is_lowest_or_above, older_nodes, or_later, reaches_oldest, run_ids}
use Rattle.fleet_model.specs.Trees.{source_nodes}
use Rattle.fleet_tree.specs.Trees.{RunFlushes, tree_of, trees_of, trees_with_prefix}
use Rattle.fleet_tree.specs.Trees as table
use Rattle.fleet_tree.specs.Views.{View}
use Rattle.fleet_tree.specs.declared.manifest.ManifestCore.{ManifestCore}
use Rattle.fleet_tree.specs.declared.run.SortedRun.{SortedRun}
use Rattle.fleet_tree.specs.declared.tree.LsmTreeState.{LsmTreeState}
use Rattle.fleet_jobs.specs.Laws.{l0_names, names_of, run_names}
use Rattle.fleet_jobs.specs.Places.{nodes_at, nodes_if_there, nodes_in, sources_stand, stand_among}
use Rattle.fleet_jobs.specs.Sources.{name_of}
use Rattle.fleet_jobs.specs.Specs.{destination_of, segment_of, sources_of}
use Rattle.fleet_jobs.specs.Taken.{tree_in}
use Rattle.fleet_jobs.specs.declared.source_id.SourceId.{SourceId}
use Rattle.fleet_jobs.specs.declared.spec.CompactionSpec.{CompactionSpec}
use Rattle.fleet_book.specs.Finishes.{finished_tree, is_named, kept_runs}
use Rattle.fleet_book.specs.Laws.{FlushesFollow, FlushesFollowIn}
use Rattle.fleet_book.proofs.FinishedRuns.{named_run}
use Rattle.fleet_poll.specs.Made.{PrefixesRise, flushes_after, is_made}

both_true : (a b : Bool) → (a && b) ≡ true → (a ≡ true) × (b ≡ true)
both_true true b e = (refl, e)
both_true false b e = absurd (cc e)

all_weaken : {A : Type 0} (P Q : A → Type 0) → ((x : A) → P x → Q x) → (xs : List A) → AllByRecursion P xs → AllByRecursion Q xs
all_weaken P Q weaken [] all = tt
all_weaken P Q weaken (x ∷ xs) all = (weaken x all.0, all_weaken P Q weaken xs all.1)

-- ---- the segment with a prefix

module _ (p : List ℕ) where
  -- The segment is the one that its prefix finds.
  abbrev IsFound : List (List ℕ × LsmTreeState) → List ℕ × LsmTreeState → Type 0
  IsFound trees s = bytes_eq p s.0 ≡ true → find (λ t. bytes_eq p t.0) trees ≡ Some s

  clash : (a b : List ℕ) → bytes_eq p a ≡ true → bytes_eq p b ≡ true → key_cmp a b ≡ Less → ⊥
  clash a b e f low =
      let same = sym ((bytes_eq-Decides p a).0 e) ∙ (bytes_eq-Decides p b).0 f in
      let below : key_cmp a a ≡ Less = subst (λ k. key_cmp a k ≡ Less) (sym same) low in
      let above = nat_list_cmp_total.antisymm a a ∙ ap ordering_reverse below in
      cc (above, below)

  found_later : (s : List ℕ × LsmTreeState) (trees later : List (List ℕ × LsmTreeState)) → AllByRecursion (λ k. key_cmp s.0 k ≡ Less) (map (λ t. t.0) later) → AllByRecursion (IsFound trees) later
      → AllByRecursion (IsFound (s ∷ trees)) later
  found_later s trees [] above all = tt
  found_later s trees (t ∷ later) above all = ((λ e. by e (bytes_eq p s.0) refl), found_later s trees later above.1 all.1)
    where
      by : bytes_eq p t.0 ≡ true → (b : Bool) → bytes_eq p s.0 ≡ b → cond b (Some s) (find (λ r. bytes_eq p r.0) trees) ≡ Some t
      by e true f = absurd (clash s.0 t.0 f e above.0)
      by e false f = all.0 e

  found_each : (trees : List (List ℕ × LsmTreeState)) → IsStrictlySortedBy key_cmp (map (λ s. s.0) trees) → AllByRecursion (IsFound trees) trees
  unfolding IsStrictlySortedBy
  found_each [] sorted = tt
  found_each (s ∷ trees) sorted = ((λ e. ap (λ b. cond b (Some s) (find (λ r. bytes_eq p r.0) trees)) e), found_later s trees trees sorted.0 (found_each trees sorted.1))

tree_found : (flushes : RunFlushes) (p : List ℕ) (trees : List (List ℕ × LsmTreeState)) (s : List ℕ × LsmTreeState) → find (λ t. bytes_eq p t.0) trees ≡ Some s
    → tree_at p (map (table.segment_of flushes) trees) ≡ tree_of (flushes s.0) s.1
tree_found flushes p [] s e = absurd (cc e)
tree_found flushes p (t ∷ trees) s e = by (bytes_eq p t.0) e (tree_found flushes p trees s)
  where
    by : (b : Bool) → cond b (Some t) (find (λ r. bytes_eq p r.0) trees) ≡ Some s
        → (find (λ r. bytes_eq p r.0) trees ≡ Some s → tree_at p (map (table.segment_of flushes) trees) ≡ tree_of (flushes s.0) s.1)
        → tree_or_empty (cond b (Some (table.segment_of flushes t)) (segment_at p (map (table.segment_of flushes) trees))) ≡ tree_of (flushes s.0) s.1
    by true h rest = let same : t ≡ s = cc h in ap (λ x. tree_of (flushes x.0) x.1) same
    by false h rest = rest h

-- ---- the runs that are kept

-- Each run has another id.
abbrev OthersHave : ℕ → List SortedRun → Type 0
OthersHave id runs = AllByRecursion (λ run. (id == run.id) ≡ false) runs

module _ (sources : List SourceId) (id : ℕ) where
  -- A run with another id than all runs that are not kept.
  other_than_source : is_named sources (Run id) ≡ true → (run : ℕ) → is_named sources (Run run) ≡ false → (id == run) ≡ false
  other_than_source source run kept = by (id == run) refl
    where
      by : (b : Bool) → (id == run) ≡ b → b ≡ false
      by true e = sym source ∙ ap (λ n. is_named sources (Run n)) (eqb-true id run e) ∙ kept
      by false e = refl

  others_of_source : is_named sources (Run id) ≡ true → (runs : List SortedRun) → OthersHave id (kept_runs sources runs)
  others_of_source source [] = tt
  others_of_source source (run ∷ runs) = by (is_named sources (Run run.id)) refl (others_of_source source runs)
    where
      by : (b : Bool) → is_named sources (Run run.id) ≡ b → OthersHave id (kept_runs sources runs) → OthersHave id (cond (not b) (run ∷ kept_runs sources runs) (kept_runs sources runs))
      by true e rest = rest
      by false e rest = (other_than_source source run.id e, rest)

  -- If all runs of the tree are below the id, then no run that is kept has the id.
  others_below : (views : List View) (runs : List SortedRun) → list_all (λ other. nat_lt other id) (run_ids (map (λ view. L0 view.id) views ++ map (λ run. Run run.id) runs)) ≡ true → OthersHave id (kept_runs sources runs)
  others_below (view ∷ views) runs below = others_below views runs below
  others_below [] [] below = tt
  others_below [] (run ∷ runs) below = by (is_named sources (Run run.id)) (others_below [] runs parts.1)
    where
      parts : (nat_lt run.id id ≡ true) × (list_all (λ other. nat_lt other id) (run_ids (map (λ (r : SortedRun). Run r.id) runs)) ≡ true)
      parts = both_true (nat_lt run.id id) _ below

      other : (b : Bool) → (id == run.id) ≡ b → b ≡ false
      other true e = let low = ltb-true run.id id parts.0 in let same = eqb-true id run.id e in absurd (omega (arith, low, same))
      other false e = refl

      by : (b : Bool) → OthersHave id (kept_runs sources runs) → OthersHave id (cond (not b) (run ∷ kept_runs sources runs) (kept_runs sources runs))
      by true rest = rest
      by false rest = (other (id == run.id) refl, rest)

  -- No run that is kept has the id of the run that is made.
  others_kept : (tree : LsmTreeState) → is_lowest_or_above id (run_ids (map name_of sources)) (run_ids (nodes_in tree)) ≡ true → OthersHave id (kept_runs sources tree.compacted)
  others_kept tree fits = by (run_ids (map name_of sources)) refl fits
    where
      by : (ids : List ℕ) → run_ids (map name_of sources) ≡ ids → is_lowest_or_above id ids (run_ids (nodes_in tree)) ≡ true → OthersHave id (kept_runs sources tree.compacted)
      by [] e below = others_below tree.l0 tree.compacted below
      by (one ∷ ids) e lowest =
          let there = both_true (contains (one ∷ ids) id) (list_all (λ run. nat_le id run) (one ∷ ids)) lowest in
          others_of_source (named_run id sources (ap (λ l. contains l id) e ∙ there.0)) tree.compacted

-- ---- flushes

all_of : {A : Type 0} {P : A → Type 0} (xs : List A) → ((x : A) → P x) → AllByRecursion P xs
all_of [] each = tt
all_of (x ∷ xs) each = (each x, all_of xs each)

module _ (flushes : RunFlushes) (spec : CompactionSpec) (core : ManifestCore) (id : ℕ) (makes : destination_of spec ≡ Some id) (stand : sources_stand spec core ≡ true) where
  -- In a tree of the job's segment its run has the flushes of all its sources, and each other run keeps its own.
  follow_one : (s : List ℕ × LsmTreeState) → IsFound (segment_of spec) (trees_with_prefix core) s → FlushesFollow flushes (flushes_after spec core flushes) spec id s
  follow_one s found = record { gathered = λ e. all_in e; kept = kept_in (bytes_eq (segment_of spec) s.0) refl }
    where
      these : List ℕ
      these = flat_map (λ node. node.flushes) (source_nodes (names_of spec) (tree_at (segment_of spec) (trees_of flushes core)))

      all_in : bytes_eq (segment_of spec) s.0 ≡ true → flushes_after spec core flushes s.0 id ≡ flat_map (λ node. node.flushes) (source_nodes (names_of spec) (tree_of (flushes s.0) s.1))
      all_in e =
          ap (λ b. cond (b && is_made (destination_of spec) id) these (flushes s.0 id)) e
          ∙ ap (λ d. cond (is_made d id) these (flushes s.0 id)) makes
          ∙ ap (λ b. cond b these (flushes s.0 id)) (eq-eqb id id refl)
          ∙ ap (λ tree. flat_map (λ node. node.flushes) (source_nodes (names_of spec) tree)) (tree_found flushes (segment_of spec) (trees_with_prefix core) s (found e))

      kept_one : (run : SortedRun) → (id == run.id) ≡ false → bytes_eq (segment_of spec) s.0 ≡ true → flushes_after spec core flushes s.0 run.id ≡ flushes s.0 run.id
      kept_one run other e =
          ap (λ b. cond (b && is_made (destination_of spec) run.id) these (flushes s.0 run.id)) e
          ∙ ap (λ d. cond (is_made d run.id) these (flushes s.0 run.id)) makes
          ∙ ap (λ b. cond b these (flushes s.0 run.id)) other

      fits : bytes_eq (segment_of spec) s.0 ≡ true → is_lowest_or_above id (run_ids (names_of spec)) (run_ids (nodes_in s.1)) ≡ true
      fits e =
          let here : nodes_at (segment_of spec) core ≡ nodes_in s.1 = ap (λ o. nodes_if_there (option_map (λ t. t.1) o)) (found e) in
          let among : stand_among (nodes_in s.1) (names_of spec) (Some id) ≡ true =
          ap (λ nodes. stand_among nodes (names_of spec) (Some id)) (sym here) ∙ ap (stand_among (nodes_at (segment_of spec) core) (names_of spec)) (sym makes) ∙ stand in
          (both_true (is_nonempty (names_of spec) && reaches_oldest (names_of spec) (older_nodes (names_of spec) (nodes_in s.1))) _ among).1

      kept_in : (b : Bool) → bytes_eq (segment_of spec) s.0 ≡ b → AllByRecursion (λ run. flushes_after spec core flushes s.0 run.id ≡ flushes s.0 run.id) (cond b (finished_tree (sources_of spec) None s.1) s.1).compacted
      kept_in true e =
          all_weaken (λ run. (id == run.id) ≡ false) (λ run. flushes_after spec core flushes s.0 run.id ≡ flushes s.0 run.id) (λ run other. kept_one run other e)
          (kept_runs (sources_of spec) s.1.compacted) (others_kept (sources_of spec) id s.1 (fits e))
      kept_in false e = all_of s.1.compacted (λ run. ap (λ b. cond (b && is_made (destination_of spec) run.id) these (flushes s.0 run.id)) e)

  -- The flushes that went into runs are as the job leaves them.
  pub follow : PrefixesRise core → FlushesFollowIn flushes (flushes_after spec core flushes) spec id core
  follow rise =
      all_weaken (IsFound (segment_of spec) (trees_with_prefix core)) (FlushesFollow flushes (flushes_after spec core flushes) spec id) follow_one
      (trees_with_prefix core) (found_each (segment_of spec) (trees_with_prefix core) rise)

-- ---- the order of sources

-- No flush follows a run.
abbrev FlushesFirst : List NodeName → Type 0
FlushesFirst [] = ⊤
FlushesFirst (L0 n ∷ names) = FlushesFirst names
FlushesFirst (Run n ∷ names) = list_any is_l0 names ≡ false

none_first : (names : List NodeName) → list_any is_l0 names ≡ false → FlushesFirst names
none_first [] none = tt
none_first (L0 n ∷ names) none = absurd (cc none)
none_first (Run n ∷ names) none = none

later_first : (name : NodeName) (names : List NodeName) → FlushesFirst (name ∷ names) → FlushesFirst names
later_first (L0 n) names first = first
later_first (Run n) names first = none_first names first

-- If no node is a flush, then no source in front of the nodes is one.
none_in_front : (sources nodes rest : List NodeName) → after_front sources nodes ≡ Some rest → list_any is_l0 nodes ≡ false → list_any is_l0 sources ≡ false
none_in_front [] nodes rest front none = refl
none_in_front (x ∷ xs) [] rest front none = absurd (cc front)
none_in_front (L0 a ∷ xs) (L0 b ∷ ys) rest front none = absurd (cc none)
none_in_front (L0 a ∷ xs) (Run b ∷ ys) rest front none = absurd (cc front)
none_in_front (Run a ∷ xs) (L0 b ∷ ys) rest front none = absurd (cc front)
none_in_front (Run a ∷ xs) (Run b ∷ ys) rest front none = by (a == b) front (λ more. none_in_front xs ys rest more none)
  where
    by : (c : Bool) → cond c (after_front xs ys) None ≡ Some rest → (after_front xs ys ≡ Some rest → list_any is_l0 xs ≡ false) → list_any is_l0 xs ≡ false
    by true more later = later more
    by false more later = absurd (cc more)

-- If flushes come first among the nodes, they do so among the sources in front of them.
first_in_front : (sources nodes rest : List NodeName) → after_front sources nodes ≡ Some rest → FlushesFirst nodes → FlushesFirst sources
first_in_front [] nodes rest front first = tt
first_in_front (x ∷ xs) [] rest front first = absurd (cc front)
first_in_front (L0 a ∷ xs) (Run b ∷ ys) rest front first = absurd (cc front)
first_in_front (Run a ∷ xs) (L0 b ∷ ys) rest front first = absurd (cc front)
first_in_front (L0 a ∷ xs) (L0 b ∷ ys) rest front first = by (a == b) front (λ more. first_in_front xs ys rest more first)
  where
    by : (c : Bool) → cond c (after_front xs ys) None ≡ Some rest → (after_front xs ys ≡ Some rest → FlushesFirst xs) → FlushesFirst xs
    by true more later = later more
    by false more later = absurd (cc more)
first_in_front (Run a ∷ xs) (Run b ∷ ys) rest front first = by (a == b) front
  where
    by : (c : Bool) → cond c (after_front xs ys) None ≡ Some rest → list_any is_l0 xs ≡ false
    by true more = none_in_front xs ys rest more first
    by false more = absurd (cc more)

first_among : (sources nodes rest : List NodeName) → older_nodes sources nodes ≡ Some rest → FlushesFirst nodes → FlushesFirst sources
first_among sources [] rest older first = first_in_front sources [] rest older first
first_among sources (y ∷ ys) rest older first = by (after_front sources (y ∷ ys)) refl older (λ later. first_among sources ys rest later (later_first y ys first))
  where
    by : (front : Option (List NodeName)) → after_front sources (y ∷ ys) ≡ front → or_later front (older_nodes sources ys) ≡ Some rest → (older_nodes sources ys ≡ Some rest → FlushesFirst sources) → FlushesFirst sources
    by None e later again = again later
    by (Some found) e later again = first_in_front sources (y ∷ ys) found e first

nodes_first : (found : Option LsmTreeState) → FlushesFirst (nodes_if_there found)
nodes_first None = tt
nodes_first (Some tree) = by tree.l0
  where
    none : (runs : List SortedRun) → list_any is_l0 (map (λ run. Run run.id) runs) ≡ false
    none [] = refl
    none (run ∷ runs) = none runs

    by : (views : List View) → FlushesFirst (map (λ view. L0 view.id) views ++ map (λ run. Run run.id) tree.compacted)
    by [] = none_first (map (λ run. Run run.id) tree.compacted) (none tree.compacted)
    by (view ∷ views) = by views

-- Names without a flush are the flushes among them, and then the others.
no_flush : (names : List NodeName) → list_any is_l0 names ≡ false → names ≡ filter is_l0 names ++ filter (λ name. not (is_l0 name)) names
no_flush names none = sym (ap (λ l. l ++ filter (λ name. not (is_l0 name)) names) (left names none) ∙ all names none)
  where
    left : (ns : List NodeName) → list_any is_l0 ns ≡ false → filter is_l0 ns ≡ []
    left [] e = refl
    left (L0 n ∷ ns) e = absurd (cc e)
    left (Run n ∷ ns) e = left ns e

    all : (ns : List NodeName) → list_any is_l0 ns ≡ false → filter (λ name. not (is_l0 name)) ns ≡ ns
    all [] e = refl
    all (L0 n ∷ ns) e = absurd (cc e)
    all (Run n ∷ ns) e = ap (λ l. Run n ∷ l) (all ns e)

in_order : (names : List NodeName) → FlushesFirst names → names ≡ filter is_l0 names ++ filter (λ name. not (is_l0 name)) names
in_order [] first = refl
in_order (L0 n ∷ names) first = ap (λ l. L0 n ∷ l) (in_order names first)
in_order (Run n ∷ names) first = no_flush (Run n ∷ names) first

-- The sources of a job that stand are named as the tree has them: flushes before runs.
pub sources_in_order : (spec : CompactionSpec) (core : ManifestCore) (id : ℕ) → destination_of spec ≡ Some id → sources_stand spec core ≡ true → names_of spec ≡ l0_names spec ++ run_names spec
sources_in_order spec core id makes stand =
    let names = names_of spec in
    let nodes = nodes_at (segment_of spec) core in
    let among : stand_among nodes names (Some id) ≡ true = ap (stand_among nodes names) (sym makes) ∙ stand in
    let reaches = (both_true (is_nonempty names) _ (both_true (is_nonempty names && reaches_oldest names (older_nodes names nodes)) _ among).0).1 in
    in_order names (by (older_nodes names nodes) refl reaches)
  where
    by : (older : Option (List NodeName)) → older_nodes (names_of spec) (nodes_at (segment_of spec) core) ≡ older → reaches_oldest (names_of spec) older ≡ true → FlushesFirst (names_of spec)
    by None e reached = absurd (cc reached)
    by (Some rest) e reached = first_among (names_of spec) (nodes_at (segment_of spec) core) rest e (nodes_first (tree_in (segment_of spec) core))
