-- What the steps of a commit do to the flushes that a tree's nodes name: a drain takes those of its sources, and a join and a move take none.
use Rattle.std.proofs.Common.{◌≡◌, ◌≢◌, refl, sym, ◌∙◌, ap, subst, ℕ, ◌<◌, List, [], ◌∷◌, ◌++◌, cond, Bool, true, false, inl, inr, Option, Some, None, append_assoc, append-nil, arith}
use Rattle.std.specs.Prelude.{IsTrue, not, filter, flat_map, bytes_eq, option_map}
use Rattle.std.specs.List.{AllByRecursion, concat, cons_option}
use Rattle.std.proofs.lemmas.Grind.{flat_map-append}
use Rattle.std.proofs.lemmas.Bool.Decides.{Decides-eqb}
use Rattle.std.proofs.lemmas.Slice.Eq.{bytes_eq-Decides}
use Rattle.row_model.specs.Rows.{Row}
use Rattle.row_model.specs.Lists.{Pairs}
use Rattle.row_model.specs.Fold.{Operator, IsLawful}
use Rattle.fleet_model.specs.Nodes.{Tables, table_rows, NodeName, name_eq, names_contain, L0, Run, is_among, Node, Tree, node_named, node_rows, Segment, Trees, segment_at, tree_at, tree_or_empty}
use Rattle.fleet_model.specs.Jobs.{JobSpec, Job, contains, job_with}
use Rattle.fleet_model.specs.History.{Party, Step, Join, Move, Drain}
use Rattle.fleet_model.specs.Store.{stored_jobs}
use Rattle.fleet_model.specs.Past.Replay.{outputs_in}
use Rattle.fleet_model.specs.Trees.{source_nodes, without_nodes, on_segment, stepped_in, stepped_all, watermark_after, job_of}
use Rattle.fleet_model.specs.Invariants.JobsFit.{was_joined}
use Rattle.fleet_model.specs.Invariants.TreesFit.{IsNewer, node_and_flushed_rows}
use Rattle.step_model.specs.Past.{World}
use Rattle.step_model.specs.Entries.{drew_job, is_mentioned}
use Rattle.step_model.specs.LawfulManifests.{IsKnownTo, StepFits, StepsFit}
use Rattle.step_model.specs.Kept.Keeps.{Keeps}
use Rattle.step_laws.proofs.Elements.{IsIn, all_at, all_from, all_to, all_front, all_back, in_back, in_contains, contains_in, all_true_front}
use Rattle.step_laws.proofs.Bodies.{whole_of}
use Rattle.step_laws.proofs.Deletions.{in_flat}
use Rattle.rival_laws.proofs.WorkerRecords.{from_flat}
use Rattle.commit_laws.specs.After.{trees_after, joined_by}
use Rattle.commit_laws.specs.StepForms.{RunReplaces}
use Rattle.commit_laws.proofs.Stretches.{Named, named_in}
use Rattle.commit_laws.proofs.Segments.{segment_named}
use Rattle.commit_laws.proofs.StepTrees.{segment_on}
use Rattle.commit_laws.proofs.Steps.{found_there}
use Rattle.commit_laws.proofs.CommitSteps.{steps_keep}
use Rattle.commit_laws.proofs.Commits.{start}
use Rattle.commit_laws.proofs.StepForms.{joins_replace, moves_replace}
use Rattle.coordinator_laws.proofs.PollReports.{fits_at}
use Rattle.line_laws.proofs.Parties.{found}
use Rattle.line_laws.specs.Undrained.{flushes_in, taken_by, without_flushes, left_by}
use Rattle.step_laws.proofs.Flushes.{table_of}
use Rattle.step_laws.proofs.KnownJobs.{outputs_are}
use Rattle.commit_laws.proofs.RunTrees.{first_of}

-- ---- lists

pub without_none : (flushes : List ℕ) → without_flushes [] flushes ≡ flushes
without_none [] = refl
without_none (flush ∷ flushes) = ap (λ (rest : List ℕ). flush ∷ rest) (without_none flushes)

filter_both : {A : Type 0} (p : A → Bool) (xs ys : List A) → filter p (xs ++ ys) ≡ filter p xs ++ filter p ys
filter_both p [] ys = refl
filter_both {A} p (x ∷ xs) ys = by (p x) (filter_both p xs ys)
  where
    by : (b : Bool) → filter p (xs ++ ys) ≡ filter p xs ++ filter p ys → cond b (x ∷ filter p (xs ++ ys)) (filter p (xs ++ ys)) ≡ cond b (x ∷ filter p xs) (filter p xs) ++ filter p ys
    by true rest = ap (λ (zs : List A). x ∷ zs) rest
    by false rest = rest

all_pass : {A : Type 0} (p : A → Bool) (xs : List A) → AllByRecursion (λ x. p x ≡ true) xs → filter p xs ≡ xs
all_pass p [] h = refl
all_pass {A} p (x ∷ xs) h = ap (λ (b : Bool). cond b (x ∷ filter p xs) (filter p xs)) h.0 ∙ ap (λ (rest : List A). x ∷ rest) (all_pass p xs h.1)

none_pass : {A : Type 0} (p : A → Bool) (xs : List A) → AllByRecursion (λ x. p x ≡ false) xs → filter p xs ≡ []
none_pass p [] h = refl
none_pass p (x ∷ xs) h = ap (λ (b : Bool). cond b (x ∷ filter p xs) (filter p xs)) h.0 ∙ none_pass p xs h.1

-- Nodes that are kept have only flushes that are kept, and the others only flushes that are taken.
kept_flushes : (keep : Node → Bool) (left : ℕ → Bool) (tree : Tree) → AllByRecursion (λ node. keep node ≡ true → AllByRecursion (λ flush. left flush ≡ true) node.flushes) tree
    → AllByRecursion (λ node. keep node ≡ false → AllByRecursion (λ flush. left flush ≡ false) node.flushes) tree → flushes_in (filter keep tree) ≡ filter left (flushes_in tree)
kept_flushes keep left [] stay go = refl
kept_flushes keep left (node ∷ tree) stay go = by (keep node) refl (kept_flushes keep left tree stay.1 go.1)
  where
    by : (b : Bool) → keep node ≡ b → flushes_in (filter keep tree) ≡ filter left (flushes_in tree) → flushes_in (cond b (node ∷ filter keep tree) (filter keep tree)) ≡ filter left (node.flushes ++ flushes_in tree)
    by true e rest = ap (λ (more : List ℕ). node.flushes ++ more) rest ∙ sym (filter_both left node.flushes (flushes_in tree) ∙ ap (λ (first : List ℕ). first ++ filter left (flushes_in tree)) (all_pass left node.flushes (stay.0 e)))
    by false e rest = rest ∙ sym (filter_both left node.flushes (flushes_in tree) ∙ ap (λ (first : List ℕ). first ++ filter left (flushes_in tree)) (none_pass left node.flushes (go.0 e)))

-- ---- one tree

-- No flush is in a newer node and in an older one.
flush_once : (tables : Tables) (newer older : Node) (flush : ℕ) → IsNewer tables newer older → IsIn flush newer.flushes → IsIn flush older.flushes → table_rows tables flush ≢ [] → ⊥
flush_once tables newer older flush h one other some =
    let first = first_of (table_rows tables flush) some in
    let low = all_at (λ (q : Row). q.seq < first.0.seq) (node_and_flushed_rows tables older) first.0
    (all_at (λ (r : Row). AllByRecursion (λ (q : Row). q.seq < r.seq) (node_and_flushed_rows tables older)) (node_and_flushed_rows tables newer) first.0 h (in_back first.0 (node_rows tables newer) _ (in_flat (table_rows tables) newer.flushes flush first.0 one first.1)))
    (in_back first.0 (node_rows tables older) _ (in_flat (table_rows tables) older.flushes flush first.0 other first.1)) in
    absurd (omega (arith, low))

-- Two nodes of a tree with a flush in common are one.
same_node : (tables : Tables) (tree : Tree) (x y : Node) (flush : ℕ) → Pairs (IsNewer tables) tree → table_rows tables flush ≢ [] → IsIn x tree → IsIn y tree → IsIn flush x.flushes → IsIn flush y.flushes → x ≡ y
same_node tables [] x y flush newest some one other in_x in_y = absurd one
same_node tables (z ∷ tree) x y flush newest some (inl a) (inl b) in_x in_y = sym a ∙ b
same_node tables (z ∷ tree) x y flush newest some (inl a) (inr b) in_x in_y = absurd (flush_once tables x y flush (subst (λ (n : Node). IsNewer tables n y) a (all_at (IsNewer tables z) tree y newest.0 b)) in_x in_y some)
same_node tables (z ∷ tree) x y flush newest some (inr a) (inl b) in_x in_y = absurd (flush_once tables y x flush (subst (λ (n : Node). IsNewer tables n x) b (all_at (IsNewer tables z) tree x newest.0 a)) in_y in_x some)
same_node tables (z ∷ tree) x y flush newest some (inr a) (inr b) in_x in_y = same_node tables tree x y flush newest.1 some a b in_x in_y

-- A node of the sources, with its name among them.
record IsSource (sources : List NodeName) (tree : Tree) (node : Node) : Type 0 where
  there : IsIn node tree
  named : names_contain sources node.name ≡ true

eq_names : (a b : NodeName) → name_eq a b ≡ true → a ≡ b
eq_names (L0 a) (L0 b) e = ap L0 ((Decides-eqb a b).0 e)
eq_names (L0 a) (Run b) e = absurd (cc e)
eq_names (Run a) (L0 b) e = absurd (cc e)
eq_names (Run a) (Run b) e = ap Run ((Decides-eqb a b).0 e)

-- A node among the sources is a node of the tree, and its name is among the names of the sources.
source_is : (sources : List NodeName) (tree : Tree) (node : Node) → IsIn node (source_nodes sources tree) → IsSource sources tree node
source_is [] tree node there = absurd there
source_is (name ∷ sources) tree node there = by (node_named name tree) refl (source_is sources tree node) there
  where
    later : IsSource sources tree node → IsSource (name ∷ sources) tree node
    later s = record { there = s.there; named = either (name_eq name node.name) s.named }
      where
        either : (b : Bool) → names_contain sources node.name ≡ true → cond b true (names_contain sources node.name) ≡ true
        either true e = refl
        either false e = e

    by : (o : Option Node) → node_named name tree ≡ o → (IsIn node (source_nodes sources tree) → IsSource sources tree node) → IsIn node (cons_option o (source_nodes sources tree)) → IsSource (name ∷ sources) tree node
    by None e rest one = later (rest one)
    by (Some first) e rest (inl same) =
        let f = found (λ (n : Node). name_eq name n.name) tree first e in
        record { there = subst (λ (n : Node). IsIn n tree) same f.there; named = ap (λ (b : Bool). cond b true (names_contain sources node.name)) (subst (λ (n : Node). name_eq name n.name ≡ true) same f.passes) }
    by (Some first) e rest (inr one) = later (rest one)

-- A node of a tree whose name is among those of the sources is one of them, if no name is in the tree twice.
is_source : (sources : List NodeName) (tree : Tree) (node : Node) → Named tree → IsIn node tree → names_contain sources node.name ≡ true → IsIn node (source_nodes sources tree)
is_source [] tree node named there e = absurd (cc e)
is_source (name ∷ sources) tree node named there e = by (name_eq name node.name) refl (is_source sources tree node named there) e
  where
    in_rest : (o : Option Node) → IsIn node (source_nodes sources tree) → IsIn node (cons_option o (source_nodes sources tree))
    in_rest None one = one
    in_rest (Some first) one = inr one

    by : (b : Bool) → name_eq name node.name ≡ b → (names_contain sources node.name ≡ true → IsIn node (source_nodes sources tree)) → cond b true (names_contain sources node.name) ≡ true → IsIn node (source_nodes (name ∷ sources) tree)
    by true same rest e = subst (λ (o : Option Node). IsIn node (cons_option o (source_nodes sources tree))) (sym (ap (λ (n : NodeName). node_named n tree) (eq_names name node.name same) ∙ named_in tree node named there)) (inl refl)
    by false other rest e = in_rest (node_named name tree) (rest e)

-- A drain takes from its tree the flushes of its sources.
drained_flushes : (tables : Tables) (sources : List NodeName) (tree : Tree) → Named tree → Pairs (IsNewer tables) tree → AllByRecursion (λ node. AllByRecursion (λ flush. table_rows tables flush ≢ []) node.flushes) tree
    → flushes_in (without_nodes sources tree) ≡ without_flushes (flushes_in (source_nodes sources tree)) (flushes_in tree)
drained_flushes tables sources tree named newest some = kept_flushes (λ node. not (names_contain sources node.name)) (λ flush. not (contains taken flush)) tree
    (all_from _ tree (λ node there keep. all_from _ node.flushes (λ flush one. stays node there flush one keep (contains taken flush) refl)))
    (all_from _ tree (λ node there gone. all_from _ node.flushes (λ flush one. ap not (in_contains taken flush (in_flat (λ (n : Node). n.flushes) (source_nodes sources tree) node flush (is_source sources tree node named there (not_false (names_contain sources node.name) gone)) one)))))
  where
    taken : List ℕ
    taken = flushes_in (source_nodes sources tree)

    not_false : (b : Bool) → not b ≡ false → b ≡ true
    not_false true e = refl
    not_false false e = absurd (cc e)

    never : (b : Bool) → b ≡ true → not b ≡ true → ⊥
    never true e f = absurd (cc f)
    never false e f = absurd (cc e)

    stays : (node : Node) → IsIn node tree → (flush : ℕ) → IsIn flush node.flushes → not (names_contain sources node.name) ≡ true → (b : Bool) → contains taken flush ≡ b → not (contains taken flush) ≡ true
    stays node there flush one keep false e = ap not e
    stays node there flush one keep true e =
        let f = from_flat (λ (n : Node). n.flushes) (source_nodes sources tree) flush (contains_in taken flush e) in
        let s = source_is sources tree f.0 f.1.0 in
        let rows = all_at (λ flush. table_rows tables flush ≢ []) node.flushes flush (all_at (λ (n : Node). AllByRecursion (λ flush. table_rows tables flush ≢ []) n.flushes) tree node some there) one in
        let same = same_node tables tree f.0 node flush newest rows s.there there f.1.1 one in
        absurd (never (names_contain sources node.name) (subst (λ (n : Node). names_contain sources n.name ≡ true) same s.named) keep)

-- ---- all trees

-- A run that stands in place of its sources has all their flushes.
replaced_flushes : (trees others : Trees) (spec : JobSpec) (pieces : List ℕ) → RunReplaces trees others spec pieces → (prefix : List ℕ) → flushes_in (tree_at prefix others) ≡ flushes_in (tree_at prefix trees)
replaced_flushes trees others spec pieces r prefix = by (bytes_eq prefix spec.segment) refl
  where
    f : Node → List ℕ
    f node = node.flushes

    here : flushes_in (tree_at spec.segment others) ≡ flushes_in (tree_at spec.segment trees)
    here = ap flushes_in r.after ∙ flat_map-append f r.newer _
        ∙ sym (ap flushes_in r.before ∙ flat_map-append f r.newer (r.taken ++ r.older) ∙ ap (λ (rest : List ℕ). flat_map f r.newer ++ rest) (flat_map-append f r.taken r.older))

    by : (b : Bool) → bytes_eq prefix spec.segment ≡ b → flushes_in (tree_at prefix others) ≡ flushes_in (tree_at prefix trees)
    by true e = subst (λ (p : List ℕ). flushes_in (tree_at p others) ≡ flushes_in (tree_at p trees)) (sym ((bytes_eq-Decides prefix spec.segment).0 e)) here
    by false e = ap flushes_in (r.elsewhere prefix (λ same. refused ((bytes_eq-Decides prefix spec.segment).1 same) e))
      where
        refused : bytes_eq prefix spec.segment ≡ true → bytes_eq prefix spec.segment ≡ false → ⊥
        refused e f = absurd (cc (e, f))

-- The tree of each segment is in order, and its flushes were put.
record IsSeparate (tables : Tables) (s : Segment) : Type 0 where
  pub named : Named s.tree
  pub newest : Pairs (IsNewer tables) s.tree
  pub some : AllByRecursion (λ node. AllByRecursion (λ flush. table_rows tables flush ≢ []) node.flushes) s.tree

-- After a drain, each tree has its flushes without those that the drain takes from it.
drain_flushes : (tables : Tables) (trees : Trees) (spec : JobSpec) (id : ℕ) (outputs : List ℕ) → AllByRecursion (IsSeparate tables) trees → (prefix : List ℕ)
    → flushes_in (tree_at prefix (stepped_in tables (Drain id) spec outputs trees)) ≡ without_flushes (taken_by prefix trees (Drain id) spec) (flushes_in (tree_at prefix trees))
drain_flushes tables trees spec id outputs each prefix = ap (λ (o : Option Segment). flushes_in (tree_or_empty o)) (segment_on prefix spec.segment spec.sources (without_nodes spec.sources) trees) ∙ by (segment_at prefix trees) refl
  where
    by : (o : Option Segment) → segment_at prefix trees ≡ o
        → flushes_in (tree_or_empty (option_map (on_segment spec.segment spec.sources (without_nodes spec.sources)) o))
        ≡ without_flushes (cond (bytes_eq prefix spec.segment) (flushes_in (source_nodes spec.sources (tree_or_empty o))) []) (flushes_in (tree_or_empty o))
    by None e = refl
    by (Some s) e = at (bytes_eq spec.segment s.prefix) refl
      where
        found_s : IsIn s trees × (prefix ≡ s.prefix)
        found_s = found_there prefix trees s e

        separate : IsSeparate tables s
        separate = all_at (IsSeparate tables) trees s each found_s.0

        turned : (b : Bool) → bytes_eq spec.segment s.prefix ≡ b → bytes_eq prefix spec.segment ≡ b
        turned true e = (bytes_eq-Decides prefix spec.segment).1 (found_s.1 ∙ sym ((bytes_eq-Decides spec.segment s.prefix).0 e))
        turned false e = other (bytes_eq prefix spec.segment) refl
          where
            other : (b : Bool) → bytes_eq prefix spec.segment ≡ b → bytes_eq prefix spec.segment ≡ false
            other false f = f
            other true f = let is = (bytes_eq-Decides spec.segment s.prefix).1 (sym ((bytes_eq-Decides prefix spec.segment).0 f) ∙ found_s.1) in absurd (cc (is, e))

        at : (b : Bool) → bytes_eq spec.segment s.prefix ≡ b
            → flushes_in (cond b (record s { tree = without_nodes spec.sources s.tree; watermark = watermark_after spec.sources s.tree s.watermark }) s).tree ≡ without_flushes (cond (bytes_eq prefix spec.segment) (flushes_in (source_nodes spec.sources s.tree)) []) (flushes_in s.tree)
        at true e = drained_flushes tables spec.sources s.tree separate.named separate.newest separate.some
            ∙ sym (ap (λ (b : Bool). without_flushes (cond b (flushes_in (source_nodes spec.sources s.tree)) []) (flushes_in s.tree)) (turned true e))
        at false e = sym (without_none (flushes_in s.tree)) ∙ sym (ap (λ (b : Bool). without_flushes (cond b (flushes_in (source_nodes spec.sources s.tree)) []) (flushes_in s.tree)) (turned false e))

-- ---- the steps

-- The specs by which a party commits a stored job give it its own spec.
spec_is : (party : Party) (world : World) (specs : ℕ → JobSpec) (id : ℕ) (job : Job) → job_with id (stored_jobs world.store) ≡ Some job → IsKnownTo party world specs id → specs id ≡ job.spec
spec_is party world specs id job stored known = at (job_with id (stored_jobs world.store)) stored known
  where
    Known : Option Job → Type 0
    Known None = IsTrue (drew_job party world.store.history id) × (is_mentioned world.store.history id ≡ false)
    Known (Some other) = specs id ≡ other.spec

    at : (o : Option Job) → o ≡ Some job → Known o → specs id ≡ job.spec
    at None e k = absurd (cc e)
    at (Some other) e k = k ∙ ap (λ (j : Job). j.spec) (same e)
      where
        same : Some other ≡ Some job → other ≡ job
        same e = cc e

-- A step after the first ones of a commit, over the trees that these left.
record StepAt (merge : Operator) (world : World) (party : Party) (specs : ℕ → JobSpec) (first : List Step) (step : Step) : Type 0 where
  lawful : IsLawful merge
  kept : Keeps merge world
  known : AllByRecursion (λ step. IsKnownTo party world specs (job_of step)) first
  own : IsKnownTo party world specs (job_of step)
  front : StepsFit world specs world.store.manifest.trees [] first
  here : StepFits world (trees_after world specs first) (joined_by first []) (specs (job_of step)) step

-- The trees after the step.
abbrev next_trees : World → (ℕ → JobSpec) → List Step → Step → Trees
next_trees world specs first step = stepped_in world.store.tables step (specs (job_of step)) (outputs_in world.store.records (job_of step)) (trees_after world specs first)

all_separate : {merge : Operator} {world : World} {party : Party} {specs : ℕ → JobSpec} {first : List Step} {step : Step} → StepAt merge world party specs first step → AllByRecursion (IsSeparate world.store.tables) (trees_after world specs first)
all_separate {merge} {world} {party} {specs} {first} s =
    let b = (whole_of merge world s.kept).body in
    let m = steps_keep merge world party s.kept.stored.replay.specs specs world.store.manifest.trees world.store.manifest.horizon [] first s.lawful b s.known s.front (start merge world s.kept.stored.replay.specs b) in
    all_to _ _ (trees_after world specs first) (λ seg there fits. record {
      named = segment_named merge _ world.store.history seg b.sound.tables fits;
      newest = fits.tree.newest_first;
      some = all_to _ _ seg.tree (λ node one put. all_to _ _ node.flushes (λ flush two is. (table_of world.store.tables flush b.sound.tables is).some) (all_true_front (is_among world.store.tables) node.flushes put)) fits.flushes;
    }) m.kept.each

-- After a further step of a commit, each tree has its flushes without those that the step takes from it.
step_flushes : {merge : Operator} {world : World} {party : Party} {specs : ℕ → JobSpec} {first : List Step} (step : Step) → StepAt merge world party specs first step → (prefix : List ℕ)
    → flushes_in (tree_at prefix (next_trees world specs first step)) ≡ without_flushes (taken_by prefix (trees_after world specs first) step (specs (job_of step))) (flushes_in (tree_at prefix (trees_after world specs first)))
step_flushes {merge} {world} {party} {specs} {first} (Join id) s prefix = by (was_joined world.store.history id) refl ∙ sym (without_none (flushes_in (tree_at prefix trees)))
  where
    trees : Trees
    trees = trees_after world specs first

    job : Job
    job = s.here.job

    as_job : next_trees world specs first (Join id) ≡ stepped_in world.store.tables (Join id) job.spec (concat job.outputs) trees
    as_job = let spec = spec_is party world specs id job s.here.stored s.own in let outputs = outputs_are world.store.records id job s.here.stored in (λ i. stepped_in world.store.tables (Join id) (spec i) (outputs i) trees)

    by : (b : Bool) → was_joined world.store.history id ≡ b → flushes_in (tree_at prefix (next_trees world specs first (Join id))) ≡ flushes_in (tree_at prefix trees)
    by true e = ap (λ (t : Trees). flushes_in (tree_at prefix t)) (as_job ∙ s.here.again e)
    by false e = ap (λ (t : Trees). flushes_in (tree_at prefix t)) as_job ∙ replaced_flushes trees _ job.spec (concat job.outputs) (joins_replace merge s.lawful world party specs first id s.kept s.known s.front s.here e).run prefix
step_flushes {merge} {world} {party} {specs} {first} (Move id) s prefix =
    replaced_flushes (trees_after world specs first) _ (specs id) _ (moves_replace merge s.lawful world party specs first id (outputs_in world.store.records id) s.kept s.known s.front s.here).run prefix
    ∙ sym (without_none (flushes_in (tree_at prefix (trees_after world specs first))))
step_flushes {merge} {world} {party} {specs} {first} (Drain id) s prefix = drain_flushes world.store.tables (trees_after world specs first) (specs id) id (outputs_in world.store.records id) (all_separate s) prefix

-- ---- a commit

after_push : (world : World) (specs : ℕ → JobSpec) (first : List Step) (step : Step) (trees : Trees) → stepped_all world.store.tables (λ id. (specs id, outputs_in world.store.records id)) (first ++ step ∷ []) trees
    ≡ stepped_in world.store.tables step (specs (job_of step)) (outputs_in world.store.records (job_of step)) (stepped_all world.store.tables (λ id. (specs id, outputs_in world.store.records id)) first trees)
after_push world specs [] step trees = refl
after_push world specs (s ∷ first) step trees = after_push world specs first step (stepped_in world.store.tables s (specs (job_of s)) (outputs_in world.store.records (job_of s)) trees)

-- The flushes after the steps of a commit that come after the first ones.
rest_flushes : (merge : Operator) (world : World) (party : Party) (specs : ℕ → JobSpec) (first rest : List Step) → IsLawful merge → Keeps merge world → AllByRecursion (λ step. IsKnownTo party world specs (job_of step)) (first ++ rest)
    → StepsFit world specs world.store.manifest.trees [] (first ++ rest) → (prefix : List ℕ)
    → flushes_in (tree_at prefix (trees_after world specs (first ++ rest))) ≡ left_by world.store.tables (λ id. (specs id, outputs_in world.store.records id)) prefix rest (trees_after world specs first) (flushes_in (tree_at prefix (trees_after world specs first)))
rest_flushes merge world party specs first [] lawful kept known fits prefix = ap (λ (steps : List Step). flushes_in (tree_at prefix (trees_after world specs steps))) (append-nil first)
rest_flushes merge world party specs first (step ∷ rest) lawful kept known fits prefix =
    ap (λ (steps : List Step). flushes_in (tree_at prefix (trees_after world specs steps))) whole
    ∙ rest_flushes merge world party specs (first ++ step ∷ []) rest lawful kept (subst (AllByRecursion (λ (step : Step). IsKnownTo party world specs (job_of step))) whole known) (subst (StepsFit world specs world.store.manifest.trees []) whole fits) prefix
    ∙ ap (λ (trees : Trees). left_by world.store.tables jobs prefix rest trees (flushes_in (tree_at prefix trees))) (after_push world specs first step world.store.manifest.trees)
    ∙ ap (left_by world.store.tables jobs prefix rest (next_trees world specs first step)) (step_flushes step at prefix)
  where
    whole : first ++ step ∷ rest ≡ (first ++ step ∷ []) ++ rest
    whole = sym (append_assoc first (step ∷ []) rest)

    jobs : ℕ → JobSpec × List ℕ
    jobs id = (specs id, outputs_in world.store.records id)

    at : StepAt merge world party specs first step
    at = let f = fits_at world specs world.store.manifest.trees [] first rest step fits in record {
      lawful = lawful;
      kept = kept;
      known = all_front _ first (step ∷ rest) known;
      own = (all_back (λ (step : Step). IsKnownTo party world specs (job_of step)) first (step ∷ rest) known).0;
      front = f.front;
      here = f.here;
    }

-- A commit leaves the flushes that its drains do not take.
pub commit_flushes : (merge : Operator) (world : World) (party : Party) (specs : ℕ → JobSpec) (steps : List Step) → IsLawful merge → Keeps merge world → AllByRecursion (λ step. IsKnownTo party world specs (job_of step)) steps
    → StepsFit world specs world.store.manifest.trees [] steps → (prefix : List ℕ)
    → flushes_in (tree_at prefix (trees_after world specs steps)) ≡ left_by world.store.tables (λ id. (specs id, outputs_in world.store.records id)) prefix steps world.store.manifest.trees (flushes_in (tree_at prefix world.store.manifest.trees))
commit_flushes merge world party specs steps lawful kept known fits prefix = rest_flushes merge world party specs [] steps lawful kept known fits prefix
