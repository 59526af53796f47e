-- Where sources stand, and which nodes are held, as the model says.
use Rattle.std.proofs.Common.{◌≡◌, refl, sym, ◌∙◌, ap, subst, ℕ, List, [], ◌∷◌, ◌++◌, map, Bool, true, false, not, ◌||◌, ◌&&◌, cond}
use Rattle.std.specs.Prelude.{◌==◌, IsTrue, bytes_eq, find, filter, flat_map, is_some, nat_lt, option_map, Option, Some, None}
use Rattle.std.specs.List.{AllByRecursion, list_all}
use Rattle.std.proofs.lemmas.List.Folds.{list_all-append}
use Rattle.fleet_model.specs.Work.Gates.{are_distinct, destination_fits, first_failing, is_free, is_nonempty, names_older, reserves_nodes}
use Rattle.fleet_model.specs.Jobs.{Job, Jobs, contains, is_drain_to, nodes_of}
use Rattle.fleet_model.specs.Invariants.JobsFit.{DestinationFits, SourcesStand}
use Rattle.fleet_model.specs.Nodes.{NodeName, names, names_contain, Trees, tree_at, Segment, segment_at, tree_or_empty}
use Rattle.fleet_model.specs.Sources.{all_run_ids, is_apart, is_lowest_or_above, older_nodes, reaches_oldest, run_ids}
use Rattle.fleet_tree.specs.Trees.{RunFlushes, segment_of, trees_of, trees_with_prefix}
use Rattle.fleet_tree.specs.declared.manifest.ManifestCore.{ManifestCore}
use Rattle.fleet_tree.specs.declared.tree.LsmTreeState.{LsmTreeState}
use Rattle.fleet_jobs.specs.Parts.JobParts.{JobParts}
use Rattle.fleet_jobs.specs.Jobs.{job_of}
use Rattle.fleet_jobs.specs.Laws.{HeldNodesDecide, NodesAreTheModels, StandingSourcesStand, SubmittedSourcesStand, names_of}
use Rattle.fleet_jobs.specs.Places.{held_nodes, nodes_at, nodes_if_there, stand_among}
use Rattle.fleet_jobs.specs.Specs.{destination_of, segment_of as prefix_of, spec_of}
use Rattle.fleet_jobs.proofs.Standing.{names_are}

-- ---- nodes

nodes_of_trees : (flushes : RunFlushes) (p : List ℕ) (trees : List (List ℕ × LsmTreeState))
    → names (tree_at p (map (segment_of flushes) trees)) ≡ nodes_if_there (option_map (λ s. s.1) (find (λ s. bytes_eq p s.0) trees))
nodes_of_trees flushes p [] = refl
nodes_of_trees flushes p (s ∷ trees) = by (bytes_eq p s.0) (nodes_of_trees flushes p trees)
  where
    by : (b : Bool) → names (tree_at p (map (segment_of flushes) trees)) ≡ nodes_if_there (option_map (λ s. s.1) (find (λ s. bytes_eq p s.0) trees))
        → names (tree_or_empty (cond b (Some (segment_of flushes s)) (segment_at p (map (segment_of flushes) trees)))) ≡ nodes_if_there (option_map (λ s. s.1) (cond b (Some s) (find (λ s. bytes_eq p s.0) trees)))
    by true rest = names_are (flushes s.0) s.1
    by false rest = rest

pub nodes_are_the_models : NodesAreTheModels
nodes_are_the_models flushes segment core = nodes_of_trees flushes segment (trees_with_prefix core)

-- ---- sources

all_three : (a b c : Bool) → a ≡ true → b ≡ true → c ≡ true → (a && b && c) ≡ true
all_three true true true e f g = refl
all_three true true false e f g = absurd (cc g)
all_three true false c e f g = absurd (cc f)
all_three false b c e f g = absurd (cc e)

pub standing_sources_stand : StandingSourcesStand
standing_sources_stand flushes job core stand =
    subst (λ nodes. stand_among nodes (names_of job.spec) (destination_of job.spec) ≡ true) (nodes_are_the_models flushes (prefix_of job.spec) core)
    (by (destination_of job.spec) stand.destination)
  where
    by : (destination : Option ℕ) → DestinationFits (trees_of flushes core) (tree_at (prefix_of job.spec) (trees_of flushes core)) (names_of job.spec) destination
        → stand_among (names (tree_at (prefix_of job.spec) (trees_of flushes core))) (names_of job.spec) destination ≡ true
    by None fits = absurd fits
    by (Some run) fits = all_three _ _ _ stand.some stand.stretch fits.0

first_true : (a b : Bool) → (a && b) ≡ true → (a ≡ true) × (b ≡ true)
first_true true b e = (refl, e)
first_true false b e = absurd (cc e)

all_pass : (rules : List (ℕ × Bool)) → first_failing rules ≡ None → AllByRecursion (λ rule. rule.1 ≡ true) rules
all_pass [] e = tt
all_pass (rule ∷ rules) e = by rule.1 e (all_pass rules)
  where
    by : (b : Bool) → cond b (first_failing rules) (Some rule.0) ≡ None → (first_failing rules ≡ None → AllByRecursion (λ r. r.1 ≡ true) rules) → (b ≡ true) × AllByRecursion (λ r. r.1 ≡ true) rules
    by true h rest = (refl, rest h)
    by false h rest = absurd (cc h)

-- What is above the runs of all trees is above those of one tree.
above_tree : (run : ℕ) (p : List ℕ) (trees : Trees) → list_all (λ id. nat_lt id run) (all_run_ids trees) ≡ true → list_all (λ id. nat_lt id run) (run_ids (names (tree_at p trees))) ≡ true
above_tree run p [] above = refl
above_tree run p (s ∷ trees) above = by (bytes_eq p s.prefix) (above_tree run p trees)
  where
    parts : (list_all (λ id. nat_lt id run) (run_ids (names s.tree)) ≡ true) × (list_all (λ id. nat_lt id run) (all_run_ids trees) ≡ true)
    parts = first_true _ _ (sym (list_all-append (λ id. nat_lt id run) (run_ids (names s.tree)) (all_run_ids trees)) ∙ above)

    by : (b : Bool) → (list_all (λ id. nat_lt id run) (all_run_ids trees) ≡ true → list_all (λ id. nat_lt id run) (run_ids (names (tree_at p trees))) ≡ true)
        → list_all (λ id. nat_lt id run) (run_ids (names (tree_or_empty (cond b (Some s) (segment_at p trees))))) ≡ true
    by true rest = parts.0
    by false rest = rest parts.1

lowest_in_tree : (run : ℕ) (p : List ℕ) (trees : Trees) (ids : List ℕ) → is_lowest_or_above run ids (all_run_ids trees) ≡ true → is_lowest_or_above run ids (run_ids (names (tree_at p trees))) ≡ true
lowest_in_tree run p trees [] above = above_tree run p trees above
lowest_in_tree run p trees (id ∷ ids) lowest = lowest

-- Of the rules of the gate, the first, the fourth and the next three say that the sources stand.
stand_by : (trees : Trees) (p : List ℕ) (sources : List NodeName) (destination : Option ℕ) → is_nonempty sources ≡ true → list_all (names_contain (names (tree_at p trees))) sources ≡ true
    → (is_drain_to destination || reaches_oldest sources (older_nodes sources (names (tree_at p trees)))) ≡ true
    → (not (is_drain_to destination) || names_older sources (names (tree_at p trees))) ≡ true → destination_fits trees sources destination ≡ true
    → stand_among (names (tree_at p trees)) sources destination ≡ true
stand_by trees p sources None some there stretch older fits = ap (λ b. b && names_older sources (names (tree_at p trees))) there ∙ older
stand_by trees p sources (Some run) some there stretch older fits = all_three _ _ _ some stretch (lowest_in_tree run p trees (run_ids sources) (first_true _ _ fits).1)

-- The first seven rules of the gate, and the later ones.
abbrev rules : Trees → List ℕ → List NodeName → Option ℕ → Bool → Bool → Bool → List (ℕ × Bool) → List (ℕ × Bool)
rules trees p sources destination distinct second third later =
    (1, is_nonempty sources && distinct) ∷ (2, second) ∷ (3, third) ∷ (4, list_all (names_contain (names (tree_at p trees))) sources)
    ∷ (5, is_drain_to destination || reaches_oldest sources (older_nodes sources (names (tree_at p trees)))) ∷ (6, not (is_drain_to destination) || names_older sources (names (tree_at p trees)))
    ∷ (7, destination_fits trees sources destination) ∷ later

submitted_stand : (trees : Trees) (p : List ℕ) (sources : List NodeName) (destination : Option ℕ) (distinct second third : Bool) (later : List (ℕ × Bool))
    → first_failing (rules trees p sources destination distinct second third later) ≡ None → stand_among (names (tree_at p trees)) sources destination ≡ true
submitted_stand trees p sources destination distinct second third later passed =
    let all = all_pass (rules trees p sources destination distinct second third later) passed in
    stand_by trees p sources destination (first_true _ _ all.0).0 all.1.1.1.0 all.1.1.1.1.0 all.1.1.1.1.1.0 all.1.1.1.1.1.1.0

pub submitted_sources_stand : SubmittedSourcesStand
submitted_sources_stand flushes jobs lost accepts job core passed =
    subst (λ nodes. stand_among nodes (names_of job.spec) (destination_of job.spec) ≡ true) (nodes_are_the_models flushes (prefix_of job.spec) core)
    (submitted_stand (trees_of flushes core) (prefix_of job.spec) (names_of job.spec) (destination_of job.spec)
    (are_distinct (names_of job.spec)) (not (is_drain_to (destination_of job.spec)) || is_nonempty (prefix_of job.spec)) (is_some (segment_at (prefix_of job.spec) (trees_of flushes core)))
    ((8, is_free jobs lost (job_of job)) ∷ (0, accepts (spec_of job.spec)) ∷ []) passed)

-- ---- held nodes

contain_both : (xs ys : List NodeName) (x : NodeName) → names_contain (xs ++ ys) x ≡ (names_contain xs x || names_contain ys x)
contain_both [] ys x = refl
contain_both (y ∷ xs) ys x = by (name_is y) (contain_both xs ys x)
  where
    name_is : NodeName → Bool
    name_is n = Rattle.fleet_model.specs.Nodes.name_eq n x

    by : (b : Bool) → names_contain (xs ++ ys) x ≡ (names_contain xs x || names_contain ys x) → cond b true (names_contain (xs ++ ys) x) ≡ (cond b true (names_contain xs x) || names_contain ys x)
    by true e = refl
    by false e = e

-- Names are apart from two lists together exactly if they are apart from both.
apart_both : (xs ys zs : List NodeName) → is_apart xs (ys ++ zs) ≡ (is_apart xs ys && is_apart xs zs)
apart_both [] ys zs = refl
apart_both (x ∷ xs) ys zs =
    ap (λ b. not b && is_apart xs (ys ++ zs)) (contain_both ys zs x) ∙ ap (λ b. not (names_contain ys x || names_contain zs x) && b) (apart_both xs ys zs)
    ∙ turned (names_contain ys x) (names_contain zs x) (is_apart xs ys) (is_apart xs zs)
  where
    turned : (a b c d : Bool) → (not (a || b) && (c && d)) ≡ ((not a && c) && (not b && d))
    turned true b c d = refl
    turned false true true d = refl
    turned false true false d = refl
    turned false false true d = refl
    turned false false false d = refl

apart_none : (xs : List NodeName) → is_apart xs [] ≡ true
apart_none [] = refl
apart_none (x ∷ xs) = apart_none xs

-- A job touches no held node exactly if none of its nodes is among the held ones, given that no job with
-- its id holds nodes.
pub held_nodes_decide : HeldNodesDecide
held_nodes_decide [] lost job none = apart_none (nodes_of job.spec)
held_nodes_decide (other ∷ jobs) lost job none = by (reserves_nodes other || contains lost other.id) (job.id == other.id) none.0 (held_nodes_decide jobs lost job none.1)
  where
    by : (holds own : Bool) → (own ≡ true → holds ≡ false) → is_apart (nodes_of job.spec) (held_nodes jobs lost) ≡ is_free jobs lost job
        → is_apart (nodes_of job.spec) (flat_map (λ held. nodes_of held.spec) (cond holds (other ∷ filter (λ held. reserves_nodes held || contains lost held.id) jobs) (filter (λ held. reserves_nodes held || contains lost held.id) jobs)))
        ≡ ((own || not holds || is_apart (nodes_of job.spec) (nodes_of other.spec)) && is_free jobs lost job)
    by true true own rest = absurd (cc (own refl))
    by true false own rest = apart_both (nodes_of job.spec) (nodes_of other.spec) (held_nodes jobs lost) ∙ ap (λ b. is_apart (nodes_of job.spec) (nodes_of other.spec) && b) rest
    by false true own rest = rest
    by false false own rest = rest
