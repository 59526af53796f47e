-- The sources of another job stand as before where a run replaces some nodes of its tree and where nodes are taken out.
use Rattle.std.proofs.Common.{◌≡◌, refl, sym, ◌∙◌, ap, subst, ℕ, List, [], ◌∷◌, ◌++◌, cond, Bool, true, false, inl, inr, ◌⊎◌, Option, Some, None}
use Rattle.std.specs.Prelude.{IsTrue, ◌||◌, not, filter, flat_map, nat_lt, option_map}
use Rattle.std.specs.List.{AllByRecursion, list_any}
use Rattle.fleet_model.specs.Nodes.{NodeName, L0, Run, is_l0, names_contain, Node, Tree, Trees, names, tree_at}
use Rattle.fleet_model.specs.Jobs.{Job, contains}
use Rattle.fleet_model.specs.Work.Gates.{is_nonempty}
use Rattle.fleet_model.specs.Sources.{run_ids, all_run_ids, or_later, older_nodes, begins_with_run, reaches_oldest, is_whole_stretch, is_lowest_or_above}
use Rattle.fleet_model.specs.Trees.{source_pieces, without_nodes}
use Rattle.fleet_model.specs.Invariants.TreesFit.{StandsBefore}
use Rattle.fleet_model.specs.Invariants.JobsFit.{SourcesStand, DestinationFits, AreOldest}
use Rattle.step_laws.proofs.Elements.{IsIn, all_at, all_from, in_front, in_back, in_append, all_true_front, all_true_from, in_contains, contains_no}
use Rattle.step_laws.proofs.PollJobs.{stretch_named}
use Rattle.commit_laws.proofs.Stretches.{Named, InOrder, Stretch, stretch_of, never_both, names_in, node_of, pairs_of, pairs_second, begins_runs, all_flushes}
use Rattle.commit_laws.proofs.OtherStretches.{NotIn, NoneIn, older_of_three, stretch_beside_run, oldest_beside_run, sources_beside_run, sources_not_out, older_left}

-- ---- elements

pub in_replaced : {A : Type 0} (newer taken older : List A) (x y : A) → IsIn y (newer ++ x ∷ older) → (x ≡ y) ⊎ IsIn y (newer ++ (taken ++ older))
in_replaced {A} newer taken older x y there = by (in_append y newer (x ∷ older) there)
  where
    by : IsIn y newer ⊎ IsIn y (x ∷ older) → (x ≡ y) ⊎ IsIn y (newer ++ (taken ++ older))
    by (inl one) = inr (in_front y newer (taken ++ older) one)
    by (inr (inl same)) = inl same
    by (inr (inr one)) = inr (in_back y newer (taken ++ older) (in_back y taken older one))

pub in_filtered : {A : Type 0} (p : A → Bool) (xs : List A) (y : A) → IsIn y (filter p xs) → IsIn y xs
in_filtered p [] y there = absurd there
in_filtered p (x ∷ xs) y there = by (p x) (in_filtered p xs y) there
  where
    by : (b : Bool) → (IsIn y (filter p xs) → IsIn y xs) → IsIn y (cond b (x ∷ filter p xs) (filter p xs)) → IsIn y (x ∷ xs)
    by true rest (inl same) = inl same
    by true rest (inr one) = inr (rest one)
    by false rest one = inr (rest one)

-- ---- two stretches of flushes meet

-- Two jobs whose sources are flushes both have the oldest flush, so they have a node in common.
pub flushes_meet : (x : NodeName) (xs : List NodeName) (newer : Tree) (t : Node) (ts older : Tree) → InOrder (newer ++ ((t ∷ ts) ++ older)) → run_ids (x ∷ xs) ≡ [] → run_ids (names (t ∷ ts)) ≡ [] → IsTrue (begins_with_run (names older))
    → NoneIn (x ∷ xs) (names (t ∷ ts)) → IsTrue (is_whole_stretch (newer ++ ((t ∷ ts) ++ older)) (x ∷ xs)) → ⊥
flushes_meet x xs newer t ts older order mine others runs none h =
    by (older_nodes (x ∷ xs) (names newer)) refl (subst (λ o. IsTrue (reaches_oldest (x ∷ xs) o)) (older_of_three x xs newer t ts older none) h)
  where
    flush : is_l0 x ≡ true
    flush = (all_flushes (x ∷ xs) mine).0

    other : is_l0 t.name ≡ true
    other = (all_flushes (names (t ∷ ts)) others).0

    must : (b : Bool) → IsTrue (not (is_l0 x || list_any is_l0 xs) || b) → IsTrue b
    must b k = subst (λ c. IsTrue (not (c || list_any is_l0 xs) || b)) flush k

    not_first : (n : NodeName) → (rest : List NodeName) → is_l0 n ≡ true → IsTrue (begins_with_run (n ∷ rest)) → ⊥
    not_first (L0 n) rest e k = absurd (cc k)
    not_first (Run n) rest e k = absurd (cc e)

    no_run : (b : ℕ) (n : NodeName) → is_l0 n ≡ true → StandsBefore (Run b) n → ⊥
    no_run b (L0 n) e k = k
    no_run b (Run n) e k = absurd (cc e)

    afterwards : (rest : List NodeName) → older_nodes (x ∷ xs) (names newer) ≡ Some rest → (b : ℕ) → IsIn (Run b) rest → ⊥
    afterwards rest e b there =
        let s = stretch_of (x ∷ xs) newer rest e in
        let same : Some rest ≡ Some (names s.older) = sym e ∙ s.rest in
        let found = node_of s.older (Run b) (subst (IsIn (Run b)) (some_same rest (names s.older) same) there) in
        let in_newer = subst (IsIn found.node) (sym s.whole) (in_back found.node s.newer (s.taken ++ s.older) (in_back found.node s.taken s.older found.there)) in
        no_run b t.name other (subst (λ n. StandsBefore n t.name) found.same (pairs_of (λ (a b : Node). StandsBefore a.name b.name) newer ((t ∷ ts) ++ older) found.node t order in_newer (inl refl)))
      where
        some_same : (a b : List NodeName) → Some a ≡ Some b → a ≡ b
        some_same a b e = cc e

    in_runs_only : (o : Option (List NodeName)) → older_nodes (x ∷ xs) (names older) ≡ o → IsTrue (reaches_oldest (x ∷ xs) o) → ⊥
    in_runs_only None e k = absurd (cc k)
    in_runs_only (Some rest) e k =
        let found = node_of older x (names_in (names older) x (stretch_named (x ∷ xs) (names older) rest e).0) in
        let all = begins_runs older runs (pairs_second (λ (a b : Node). StandsBefore a.name b.name) (t ∷ ts) older (pairs_second (λ (a b : Node). StandsBefore a.name b.name) newer ((t ∷ ts) ++ older) order)) in
        never_both (is_l0 x) flush (subst (λ n. is_l0 n ≡ false) found.same (all_at (λ (o : Node). is_l0 o.name ≡ false) older found.node all found.there))

    by : (f : Option (List NodeName)) → older_nodes (x ∷ xs) (names newer) ≡ f → IsTrue (reaches_oldest (x ∷ xs) (or_later (option_map (λ rest. rest ++ (names (t ∷ ts) ++ names older)) f) (older_nodes (x ∷ xs) (names older)))) → ⊥
    by None e k = in_runs_only (older_nodes (x ∷ xs) (names older)) refl k
    by (Some []) e k = not_first t.name (names ts ++ names older) other (must (begins_with_run (names (t ∷ ts) ++ names older)) k)
    by (Some (L0 n ∷ rest)) e k = not_first (L0 n) (rest ++ (names (t ∷ ts) ++ names older)) refl (must (begins_with_run ((L0 n ∷ rest) ++ (names (t ∷ ts) ++ names older))) k)
    by (Some (Run n ∷ rest)) e k = afterwards (Run n ∷ rest) e n (inl refl)

-- ---- the destination of the other job

-- A destination still fits in changed trees that did not gain it, if its tree gained no run or a source is a run.
pub destination_stays : (trees others : Trees) (tree other : Tree) (sources : List NodeName) (destination : Option ℕ)
    → (run_ids sources ≡ [] → (r : ℕ) → IsIn r (run_ids (names other)) → IsIn r (run_ids (names tree)))
    → ((r : ℕ) → destination ≡ Some r → IsIn r (all_run_ids others) → IsIn r (all_run_ids trees))
    → DestinationFits trees tree sources destination → DestinationFits others other sources destination
destination_stays trees others tree other sources None runs all h = h
destination_stays trees others tree other sources (Some id) runs all h =
    (lowest (run_ids sources) refl h.0, λ none. no_more (contains (all_run_ids trees) id) refl (h.1 none))
  where
    lowest : (ids : List ℕ) → run_ids sources ≡ ids → IsTrue (is_lowest_or_above id ids (run_ids (names tree))) → IsTrue (is_lowest_or_above id ids (run_ids (names other)))
    lowest [] e low = all_true_from (λ run. nat_lt run id) (run_ids (names other)) (all_from _ (run_ids (names other)) (λ r there. all_at (λ run. IsTrue (nat_lt run id)) (run_ids (names tree)) r (all_true_front (λ run. nat_lt run id) (run_ids (names tree)) low) (runs e r there)))
    lowest (run ∷ ids) e low = low

    no_more : (b : Bool) → contains (all_run_ids trees) id ≡ b → IsTrue (not b) → IsTrue (not (contains (all_run_ids others) id))
    no_more true e k = absurd (cc k)
    no_more false e k = ap not (contains_no (all_run_ids others) id (λ there. never_both (contains (all_run_ids trees) id) (in_contains (all_run_ids trees) id (all id refl there)) e))

-- ---- the other job beside a run

-- The sources of a job still stand where a run replaces other nodes of their tree, if its destination fits there.
pub stand_beside_run : (trees others : Trees) (job : Job) (newer : Tree) (t : Node) (ts older : Tree) (run : Node) (id : ℕ) → tree_at job.spec.segment trees ≡ newer ++ ((t ∷ ts) ++ older) → tree_at job.spec.segment others ≡ newer ++ run ∷ older → run.name ≡ Run id
    → NoneIn job.spec.sources (names (t ∷ ts)) → NotIn job.spec.sources (Run id) → DestinationFits others (tree_at job.spec.segment others) job.spec.sources job.spec.destination
    → SourcesStand trees job → SourcesStand others job
stand_beside_run trees others job newer t ts older run id before after name none other destination h = record {
  some = h.some;
  stretch = subst (λ tree. IsTrue (is_whole_stretch tree job.spec.sources)) (sym after) (stretch job.spec.sources refl none other);
  source_tables = ap (λ tree. source_pieces job.spec.sources tree) after ∙ ap (flat_map (λ (node : Node). node.pieces)) (sources_beside_run job.spec.sources newer (t ∷ ts) older run id name none other)
      ∙ ap (λ tree. source_pieces job.spec.sources tree) (sym before) ∙ h.source_tables;
  destination = destination;
}
  where
    no_sources : (sources : List NodeName) → sources ≡ [] → IsTrue (is_nonempty sources) → ⊥
    no_sources [] e k = absurd (cc k)
    no_sources (x ∷ xs) e k = absurd (cc e)

    stretch : (sources : List NodeName) → job.spec.sources ≡ sources → NoneIn sources (names (t ∷ ts)) → NotIn sources (Run id) → IsTrue (is_whole_stretch (newer ++ run ∷ older) job.spec.sources)
    stretch [] e none other = absurd (no_sources job.spec.sources e h.some)
    stretch (x ∷ xs) e none other =
        subst (λ ns. IsTrue (is_whole_stretch (newer ++ run ∷ older) ns)) (sym e) (stretch_beside_run x xs newer t ts older run id name none other
        (subst (λ ns. IsTrue (is_whole_stretch (newer ++ ((t ∷ ts) ++ older)) ns)) e (subst (λ tree. IsTrue (is_whole_stretch tree job.spec.sources)) before h.stretch)))

pub oldest_beside : (sources : List NodeName) (newer : Tree) (t : Node) (ts older : Tree) (run : Node) (id : ℕ) → run.name ≡ Run id → NoneIn sources (names (t ∷ ts)) → NotIn sources (Run id) → IsTrue (is_nonempty sources)
    → AreOldest (newer ++ ((t ∷ ts) ++ older)) sources → AreOldest (newer ++ run ∷ older) sources
oldest_beside [] newer t ts older run id name none other some h = absurd (cc some)
oldest_beside (x ∷ xs) newer t ts older run id name none other some h = oldest_beside_run x xs newer t ts older run id name none other h

-- ---- the other job beside nodes that are taken out

-- Of nodes that are all runs, those that are left when some are taken out begin with a run or are none.
runs_left : (out : List NodeName) (older : Tree) → AllByRecursion (λ (o : Node). is_l0 o.name ≡ false) older → IsTrue (begins_with_run (names (without_nodes out older)))
runs_left out [] h = refl
runs_left out (o ∷ older) h = by (not (names_contain out o.name)) (runs_left out older h.1)
  where
    first : (n : NodeName) → (rest : List NodeName) → is_l0 n ≡ false → IsTrue (begins_with_run (n ∷ rest))
    first (L0 n) rest e = absurd (cc e)
    first (Run n) rest e = refl

    by : (b : Bool) → IsTrue (begins_with_run (names (without_nodes out older))) → IsTrue (begins_with_run (names (cond b (o ∷ without_nodes out older) (without_nodes out older))))
    by true rest = first o.name (names (without_nodes out older)) h.0
    by false rest = rest

-- A whole stretch of a tree is still one when other nodes are taken out of the tree.
pub stretch_beside_out : (out : List NodeName) (x : NodeName) (xs : List NodeName) (tree : Tree) → Named tree → InOrder tree → AllByRecursion (λ y. names_contain out y ≡ false) (x ∷ xs) → IsTrue (is_whole_stretch tree (x ∷ xs)) → IsTrue (is_whole_stretch (without_nodes out tree) (x ∷ xs))
stretch_beside_out out x xs tree named order none h = by (older_nodes (x ∷ xs) (names tree)) refl h
  where
    reach : (s : Stretch (x ∷ xs) tree) → (b : Bool) → IsTrue (not b || begins_with_run (names s.older)) → IsTrue (not b || begins_with_run (names (without_nodes out s.older)))
    reach s false k = refl
    reach s true k =
        let last = pairs_second (λ (a b : Node). StandsBefore a.name b.name) s.taken s.older (pairs_second (λ (a b : Node). StandsBefore a.name b.name) s.newer (s.taken ++ s.older) (subst InOrder s.whole order)) in
        runs_left out s.older (begins_runs s.older k last)

    at : (s : Stretch (x ∷ xs) tree) → IsTrue (is_whole_stretch (without_nodes out tree) (x ∷ xs))
    at s = subst (λ o. IsTrue (reaches_oldest (x ∷ xs) o)) (sym (older_left out x xs tree s named none)) (reach s (list_any is_l0 (x ∷ xs)) (subst (λ o. IsTrue (reaches_oldest (x ∷ xs) o)) s.rest h))

    by : (o : Option (List NodeName)) → older_nodes (x ∷ xs) (names tree) ≡ o → IsTrue (reaches_oldest (x ∷ xs) o) → IsTrue (is_whole_stretch (without_nodes out tree) (x ∷ xs))
    by None e k = absurd (cc k)
    by (Some rest) e k = at (stretch_of (x ∷ xs) tree rest e)

-- The sources of a job still stand when other nodes are taken out of their tree, if its destination fits there.
pub stand_beside_out : (trees others : Trees) (job : Job) (out : List NodeName) → tree_at job.spec.segment others ≡ without_nodes out (tree_at job.spec.segment trees) → Named (tree_at job.spec.segment trees) → InOrder (tree_at job.spec.segment trees)
    → AllByRecursion (λ y. names_contain out y ≡ false) job.spec.sources → DestinationFits others (tree_at job.spec.segment others) job.spec.sources job.spec.destination → SourcesStand trees job → SourcesStand others job
stand_beside_out trees others job out after named order none destination h = record {
  some = h.some;
  stretch = subst (λ tree. IsTrue (is_whole_stretch tree job.spec.sources)) (sym after) (stretch job.spec.sources h.some none h.stretch);
  source_tables = ap (λ tree. source_pieces job.spec.sources tree) after ∙ ap (flat_map (λ (node : Node). node.pieces)) (sources_not_out job.spec.sources out (tree_at job.spec.segment trees) none) ∙ h.source_tables;
  destination = destination;
}
  where
    stretch : (sources : List NodeName) → IsTrue (is_nonempty sources) → AllByRecursion (λ y. names_contain out y ≡ false) sources → IsTrue (is_whole_stretch (tree_at job.spec.segment trees) sources) → IsTrue (is_whole_stretch (without_nodes out (tree_at job.spec.segment trees)) sources)
    stretch [] some none k = absurd (cc some)
    stretch (x ∷ xs) some none k = stretch_beside_out out x xs (tree_at job.spec.segment trees) named order none k

pub oldest_beside_out : (out sources : List NodeName) (tree : Tree) → Named tree → AllByRecursion (λ y. names_contain out y ≡ false) sources → IsTrue (is_nonempty sources) → AreOldest tree sources → AreOldest (without_nodes out tree) sources
oldest_beside_out out [] tree named none some h = absurd (cc some)
oldest_beside_out out (x ∷ xs) tree named none some h =
    let s = stretch_of (x ∷ xs) tree [] h in
    older_left out x xs tree s named none ∙ ap (λ ns. Some (names (without_nodes out ns))) (empty s.older (sym s.rest ∙ h))
  where
    empty : (older : Tree) → Some (names older) ≡ Some [] → older ≡ []
    empty [] e = refl
    empty (o ∷ older) e = absurd (cc e)
