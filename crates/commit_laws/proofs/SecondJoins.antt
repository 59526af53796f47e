-- A second join of a job whose join stood changes no tree.
use Rattle.std.proofs.Common.{◌≡◌, refl, sym, ◌∙◌, ap, subst, ℕ, List, [], ◌∷◌, ◌++◌, cond, Bool, true, false, inl, inr, Option, Some, None}
use Rattle.std.specs.Prelude.{◌≢◌, IfSome, ◌||◌, map, flat_map, bytes_eq}
use Rattle.std.specs.List.{AllByRecursion, concat, cons_option, list_all}
use Rattle.std.proofs.lemmas.Slice.Eq.{bytes_eq-Decides}
use Rattle.std.proofs.lemmas.List.{append-nil}
use Rattle.row_model.specs.Fold.{Operator, IsLawful}
use Rattle.fleet_model.specs.Nodes.{NodeName, L0, Run, names_contain, Node, Tree, Segment, Trees, names, node_named, tree_at}
use Rattle.fleet_model.specs.Jobs.{Job, contains}
use Rattle.fleet_model.specs.Work.Gates.{first_failing, commit_gate}
use Rattle.fleet_model.specs.Handles.{tree_tables}
use Rattle.fleet_model.specs.History.{Join}
use Rattle.fleet_model.specs.Store.{stored_jobs}
use Rattle.fleet_model.specs.Trees.{on_segment, stepped_tree, stepped_in, to_run, with_run_for, source_nodes, source_pieces, watermark_after, l0_or}
use Rattle.fleet_model.specs.Invariants.TreesFit.{StandsBefore}
use Rattle.fleet_model.specs.Invariants.JobsFit.{was_joined}
use Rattle.step_model.specs.Past.{World}
use Rattle.step_model.specs.Kept.JoinsKept.{JoinStands, Gone, NotEmpty, Itself}
use Rattle.fleet_model.specs.Sources.{older_nodes}
use Rattle.step_laws.proofs.Elements.{IsIn, all_at, all_from, all_to, all_true_front, contains_in, in_contains}
use Rattle.step_laws.proofs.Deletions.{in_flat}
use Rattle.step_laws.proofs.TableReplays.{sources_all}
use Rattle.step_laws.proofs.PollJobs.{tree_has}
use Rattle.step_laws.proofs.Bodies.{whole_of}
use Rattle.step_laws.proofs.FlushTrees.{Rising}
use Rattle.commit_laws.specs.SecondJoins.{SecondJoinsRest}
use Rattle.commit_laws.proofs.Stretches.{Named, InOrder, Stretch, Between, never_both, names_in, node_of, named_in, pairs_of, pairs_second}
use Rattle.commit_laws.proofs.OtherStretches.{older_here}
use Rattle.commit_laws.proofs.RunTrees.{run_stands}
use Rattle.commit_laws.proofs.TreeReads.{with_horizon}
use Rattle.commit_laws.proofs.Segments.{segment_named, in_order}
use Rattle.commit_laws.proofs.StepTrees.{changed_segment}
use Rattle.commit_laws.proofs.JobSteps.{JobHolds, tree_before}
use Rattle.commit_laws.proofs.Midway.{found_job}
use Rattle.commit_laws.specs.After.{joined_by, trees_after}
use Rattle.commit_laws.proofs.CommitSteps.{steps_keep}
use Rattle.commit_laws.proofs.CommitJobs.{horizon_of}
use Rattle.commit_laws.proofs.Commits.{start}
use Rattle.commit_laws.specs.RunReads.{run_for}

-- ---- what the gate says

pub record Passed (trees : Trees) (job : Job) : Type 0 where
  pub there : AllByRecursion (λ x. names_contain (names (tree_at job.spec.segment trees)) x ≡ true) job.spec.sources
  pub tables : source_pieces job.spec.sources (tree_at job.spec.segment trees) ≡ job.source_tables

rule : (number : ℕ) (b : Bool) (rules : List (ℕ × Bool)) → first_failing ((number, b) ∷ rules) ≡ None → (b ≡ true) × (first_failing rules ≡ None)
rule number true rules e = (refl, e)
rule number false rules e = absurd (cc e)

pub passed : (trees : Trees) (job : Job) → commit_gate trees (λ spec. true) job ≡ None → Passed trees job
passed trees job e =
    let same = bytes_eq (source_pieces job.spec.sources (tree_at job.spec.segment trees)) job.source_tables in
    let four = rule 4 (list_all (names_contain (names (tree_at job.spec.segment trees))) job.spec.sources) ((10, same) ∷ (0, true) ∷ []) e in
    let ten = rule 10 same ((0, true) ∷ []) four.1 in
    record {
      there = all_true_front (names_contain (names (tree_at job.spec.segment trees))) job.spec.sources four.0;
      tables = (bytes_eq-Decides (source_pieces job.spec.sources (tree_at job.spec.segment trees)) job.source_tables).0 ten.0;
    }

-- ---- sources without tables

-- If sources have no tables in a tree, each of them that is a node of the tree has none.
no_pieces : (sources : List NodeName) (tree : Tree) (x : NodeName) (node : Node) → source_pieces sources tree ≡ [] → IsIn x sources → node_named x tree ≡ Some node → node.pieces ≡ []
no_pieces [] tree x node e there found = absurd there
no_pieces (y ∷ sources) tree x node e there found = by (node_named y tree) refl (no_pieces sources tree x node) e there
  where
    first : (ps qs : List ℕ) → ps ++ qs ≡ [] → (ps ≡ []) × (qs ≡ [])
    first [] qs e = (refl, e)
    first (p ∷ ps) qs e = absurd (cc e)

    some_same : (a b : Node) → Some a ≡ Some b → a ≡ b
    some_same a b e = cc e

    by : (o : Option Node) → node_named y tree ≡ o → (source_pieces sources tree ≡ [] → IsIn x sources → node_named x tree ≡ Some node → node.pieces ≡ []) → flat_map (λ (n : Node). n.pieces) (cons_option o (source_nodes sources tree)) ≡ [] → IsIn x (y ∷ sources) → node.pieces ≡ []
    by None f rest e (inl same) = absurd (clash (sym f ∙ ap (λ n. node_named n tree) same ∙ found))
      where
        clash : None ≡ Some node → ⊥
        clash e = absurd (cc e)
    by None f rest e (inr one) = rest e one found
    by (Some other) f rest e (inl same) = ap (λ (n : Node). n.pieces) (some_same node other (sym found ∙ ap (λ n. node_named n tree) (sym same) ∙ f)) ∙ (first other.pieces (source_pieces sources tree) e).0
    by (Some other) f rest e (inr one) = rest (first other.pieces (source_pieces sources tree) e).1 one found

-- ---- a run that becomes itself

-- Where an element is in a list.
record Split (tree : Tree) (node : Node) : Type 0 where
  newer : Tree
  older : Tree
  whole : tree ≡ newer ++ node ∷ older

split_at : (tree : Tree) (node : Node) → IsIn node tree → Split tree node
split_at [] node there = absurd there
split_at (x ∷ tree) node (inl same) = record { newer = []; older = tree; whole = ap (λ n. n ∷ tree) same }
split_at (x ∷ tree) node (inr there) = let s = split_at tree node there in record { newer = x ∷ s.newer; older = s.older; whole = ap (λ nodes. x ∷ nodes) s.whole }

-- A tree stays as it is when a join makes an empty run of it out of the same run.
same_tree : (tree : Tree) (node : Node) (run : ℕ) → Named tree → InOrder tree → IsIn node tree → node.name ≡ Run run → node.pieces ≡ [] → with_run_for (Run run ∷ []) run [] tree ≡ tree
same_tree tree node run named order there name none = at (split_at tree node there)
  where
    at : Split tree node → with_run_for (Run run ∷ []) run [] tree ≡ tree
    at s =
        let own = subst Named s.whole named in
        let stretch : Stretch (Run run ∷ []) tree = record {
          newer = s.newer;
          taken = node ∷ [];
          older = s.older;
          whole = s.whole;
          named = ap (λ n. n ∷ []) name;
          rest = ap (λ ns. older_nodes ns (names tree)) (ap (λ n. n ∷ []) (sym name)) ∙ ap (λ nodes. older_nodes (names (node ∷ [])) (names nodes)) s.whole ∙ older_here s.newer node [] s.older own;
        } in
        let place : Between run s.newer s.older = record {
          afterwards = all_from _ s.newer (λ n one. subst (StandsBefore n.name) name (pairs_of (λ (a b : Node). StandsBefore a.name b.name) s.newer (node ∷ s.older) n node (subst InOrder s.whole order) one (inl refl)));
          before = subst (λ n. AllByRecursion (λ (o : Node). StandsBefore n o.name) s.older) name (pairs_second (λ (a b : Node). StandsBefore a.name b.name) s.newer (node ∷ s.older) (subst InOrder s.whole order)).0;
        } in
        run_stands (Run run ∷ []) run [] tree stretch named place ∙ ap (λ n. s.newer ++ n ∷ s.older) itself ∙ sym s.whole
      where
        itself : run_for run [] (node ∷ []) ≡ node
        itself = λ i. record { name = sym name i; flushes = append-nil node.flushes i; pieces = sym none i }

-- A step whose only source is a run leaves the watermark as it is.
pub same_mark : (run : ℕ) (tree : Tree) (mark : Option ℕ) → watermark_after (Run run ∷ []) tree mark ≡ mark
same_mark run [] mark = refl
same_mark run (node ∷ tree) mark = by node.name (same_mark run tree mark)
  where
    by : (name : NodeName) → watermark_after (Run run ∷ []) tree mark ≡ mark → cond (names_contain (Run run ∷ []) name) (l0_or mark name) (watermark_after (Run run ∷ []) tree mark) ≡ mark
    by (L0 n) rest = rest
    by (Run n) rest = either (names_contain (Run run ∷ []) (Run n)) rest
      where
        either : (b : Bool) → watermark_after (Run run ∷ []) tree mark ≡ mark → cond b mark (watermark_after (Run run ∷ []) tree mark) ≡ mark
        either true e = refl
        either false e = e

map_same : (f : Segment → Segment) (trees : Trees) → AllByRecursion (λ s. f s ≡ s) trees → map f trees ≡ trees
map_same f [] h = refl
map_same f (s ∷ trees) h = let first = h.0 in let rest = map_same f trees h.1 in λ i. first i ∷ rest i

-- ---- the law

-- A second join of a job changes no tree, if the first one stands and the job passes the gate.
pub rest_at : (merge : Operator) (world : World) (trees : Trees) (horizon : ℕ) (joined : List ℕ) (job : Job) → AllByRecursion (λ s. Named s.tree × InOrder s.tree) trees → Rising trees → Passed trees job → JoinStands world.past trees job
    → stepped_in world.store.tables (Join job.id) job.spec (concat job.outputs) trees ≡ trees
rest_at merge world trees horizon joined job fits rise p (Gone t there gone) =
    absurd (never_both (contains (flat_map tree_tables trees) t) (in_contains (flat_map tree_tables trees) t
    (all_at (λ u. IsIn u (flat_map tree_tables trees)) (source_pieces job.spec.sources (tree_at job.spec.segment trees)) t
    (sources_all (λ u. IsIn u (flat_map tree_tables trees)) job.spec.sources (tree_at job.spec.segment trees)
    (tree_has (λ tree. AllByRecursion (λ (node : Node). AllByRecursion (λ u. IsIn u (flat_map tree_tables trees)) node.pieces) tree) job.spec.segment trees tt
    (all_from _ trees (λ s one. all_from _ s.tree (λ node other. all_from _ node.pieces (λ u held. in_flat tree_tables trees s u one (in_flat (λ (x : Node). x.pieces) s.tree node u other held)))))))
    (subst (IsIn t) (sym p.tables) (contains_in job.source_tables t there)))) gone.1)
rest_at merge world trees horizon joined job fits rise p (NotEmpty run there other none some) = by (node_named (Run run) (tree_at job.spec.segment trees)) refl some
  where
    source : IsIn (Run run) job.spec.sources
    source = names_in job.spec.sources (Run run) there

    in_tree : IsIn (Run run) (names (tree_at job.spec.segment trees))
    in_tree = names_in (names (tree_at job.spec.segment trees)) (Run run) (all_at (λ x. names_contain (names (tree_at job.spec.segment trees)) x ≡ true) job.spec.sources (Run run) p.there source)

    named : Named (tree_at job.spec.segment trees)
    named = tree_has Named job.spec.segment trees tt (all_to _ _ trees (λ s one f. f.0) fits)

    by : (o : Option Node) → node_named (Run run) (tree_at job.spec.segment trees) ≡ o → IfSome o (λ node. node.pieces ≢ []) → stepped_in world.store.tables (Join job.id) job.spec (concat job.outputs) trees ≡ trees
    by None e k =
        let found = node_of (tree_at job.spec.segment trees) (Run run) in_tree in
        absurd (clash found.node (sym e ∙ ap (λ n. node_named n (tree_at job.spec.segment trees)) (sym found.same) ∙ named_in (tree_at job.spec.segment trees) found.node named found.there))
      where
        clash : (x : Node) → None ≡ Some x → ⊥
        clash x e = absurd (cc e)
    by (Some node) e k = absurd (k (no_pieces job.spec.sources (tree_at job.spec.segment trees) (Run run) node (p.tables ∙ none) source e))
rest_at merge world trees horizon joined job fits rise p (Itself run sources to none empty) = map_same (on_segment job.spec.segment job.spec.sources (stepped_tree world.store.tables (Join job.id) job.spec (concat job.outputs))) trees (all_from _ trees (λ s there. by s there (bytes_eq job.spec.segment s.prefix) refl))
  where
    tree_same : (s : Segment) → IsIn s trees → job.spec.segment ≡ s.prefix → stepped_tree world.store.tables (Join job.id) job.spec (concat job.outputs) s.tree ≡ s.tree
    tree_same s there same =
        let tree = tree_before job.spec.segment trees s rise there same in
        let one = names_in (names s.tree) (Run run) (subst (λ t. names_contain (names t) (Run run) ≡ true) tree (subst (λ ns. AllByRecursion (λ x. names_contain (names (tree_at job.spec.segment trees)) x ≡ true) ns) sources p.there).0) in
        let found = node_of s.tree (Run run) one in
        let f = all_at (λ (x : Segment). Named x.tree × InOrder x.tree) trees s fits there in
        let none_there = no_pieces (Run run ∷ []) s.tree (Run run) found.node (subst (λ ns. source_pieces ns s.tree ≡ []) sources (subst (λ t. source_pieces job.spec.sources t ≡ []) tree (p.tables ∙ none))) (inl refl)
        (ap (λ n. node_named n s.tree) (sym found.same) ∙ named_in s.tree found.node f.0 found.there) in
        (λ i. to_run (λ id. with_run_for (sources i) id (empty i)) (to i) s.tree) ∙ same_tree s.tree found.node run f.0 f.1 found.there found.same none_there

    by : (s : Segment) → IsIn s trees → (b : Bool) → bytes_eq job.spec.segment s.prefix ≡ b → cond b (changed_segment job.spec.sources (stepped_tree world.store.tables (Join job.id) job.spec (concat job.outputs)) s) s ≡ s
    by s there true e =
        let tree = tree_same s there ((bytes_eq-Decides job.spec.segment s.prefix).0 e) in
        let mark = ap (λ ns. watermark_after ns s.tree s.watermark) sources ∙ same_mark run s.tree s.watermark in
        λ i. record s { tree = tree i; watermark = mark i }
    by s there false e = refl

-- Under a lawful operator a second join of a stored job that passes the gate changes no tree.
pub second_joins_rest : (merge : Operator) → IsLawful merge → SecondJoinsRest merge
second_joins_rest merge lawful world party specs first job k known fits stored compacted was gate =
    let w = whole_of merge world k in
    let m = steps_keep merge world party k.stored.replay.specs specs world.store.manifest.trees world.store.manifest.horizon [] first lawful w.body known fits (start merge world k.stored.replay.specs w.body) in
    let found = found_job job.id (stored_jobs world.store) job stored in
    rest_at merge world (trees_after world specs first) (horizon_of world first) (joined_by first []) job
    (all_to _ _ (trees_after world specs first) (λ s there f. (segment_named merge (with_horizon world.store (horizon_of world first)) world.store.history s w.body.sound.tables f, in_order world.store.tables s f.tree)) m.kept.each) m.kept.rise
    (passed (trees_after world specs first) job gate)
    ((all_at (JobHolds world (trees_after world specs first) (joined_by first [])) (stored_jobs world.store) job m.jobs found.0).again compacted (either (contains (joined_by first []) job.id) was))
  where
    either : (c : Bool) → was_joined world.store.history job.id ≡ true → (c || was_joined world.store.history job.id) ≡ true
    either true e = refl
    either false e = e
