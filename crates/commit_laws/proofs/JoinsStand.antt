-- A join that stood stands after later steps, and the join of a job stands after its own step.
use Rattle.std.proofs.Common.{◌≡◌, refl, sym, ◌∙◌, ap, subst, ℕ, List, [], ◌∷◌, ◌++◌, cond, Bool, true, false, inl, inr, ◌⊎◌, Option, Some, None}
use Rattle.std.specs.Prelude.{◌≢◌, IsTrue, IfSome, ◌==◌, map, flat_map, bytes_eq, ⊤}
use Rattle.std.proofs.lemmas.Slice.Eq.{bytes_eq-Decides}
use Rattle.std.proofs.lemmas.Bool.Decides.{Decides-eqb}
use Rattle.std.specs.List.{AllByRecursion, concat}
use Rattle.row_model.specs.Lists.{Pairs}
use Rattle.fleet_model.specs.Nodes.{Tables, table_rows, NodeName, L0, Run, name_eq, names_contain, Node, Tree, Segment, Trees, names, node_named, tree_at}
use Rattle.fleet_model.specs.Jobs.{Job, contains}
use Rattle.fleet_model.specs.Handles.{tree_tables}
use Rattle.fleet_model.specs.Store.{Manifest}
use Rattle.fleet_model.specs.History.{Entry}
use Rattle.fleet_model.specs.Trees.{on_segment}
use Rattle.fleet_model.specs.Invariants.TreesFit.{IsNewer}
use Rattle.step_model.specs.LawfulTables.{was_piece}
use Rattle.step_model.specs.Kept.TablesKept.{AreApart, IsFlush}
use Rattle.step_model.specs.Kept.JoinsKept.{JoinStands, Gone, NotEmpty, Itself}
use Rattle.step_laws.proofs.Elements.{IsIn, all_at, all_from, in_contains, contains_no, in_front, in_back, in_append}
use Rattle.step_laws.proofs.Deletions.{in_flat}
use Rattle.step_laws.proofs.OwnTables.{apart_at}
use Rattle.step_laws.proofs.FlushTrees.{Rising}
use Rattle.commit_laws.proofs.Stretches.{Named, never_both, name_same, name_itself, names_in, in_names, node_in_names, pairs_of, pairs_second, named_in}
use Rattle.commit_laws.proofs.RunTrees.{HaveRows, none_in_both}
use Rattle.commit_laws.proofs.StepTrees.{changed_segment, each_on}
use Rattle.commit_laws.proofs.JobSteps.{Where, Here, Elsewhere, where_on, tree_here, RunAt}
use Rattle.commit_laws.specs.RunReads.{run_for}

pub found_node : (name : NodeName) (tree : Tree) (x : Node) → node_named name tree ≡ Some x → IsIn x tree × (name ≡ x.name)
found_node name [] x e = absurd (cc e)
found_node name (node ∷ tree) x e = by (name_eq name node.name) refl (found_node name tree x) e
  where
    same : Some node ≡ Some x → node ≡ x
    same e = cc e

    by : (b : Bool) → name_eq name node.name ≡ b → (node_named name tree ≡ Some x → IsIn x tree × (name ≡ x.name)) → cond b (Some node) (node_named name tree) ≡ Some x → IsIn x (node ∷ tree) × (name ≡ x.name)
    by true f rest e = (inl (same e), name_same name node.name f ∙ ap (λ (n : Node). n.name) (same e))
    by false f rest e = let more = rest e in (inr more.0, more.1)

-- ---- later steps

-- A node after a step was there before, or has tables, or is none of the job's sources.
abbrev pub IsOld : Tree → Job → Node → Type 0
IsOld tree job x = IsIn x tree ⊎ ((x.pieces ≢ []) ⊎ (IsIn x.name job.spec.sources → ⊥))

-- A source run that is gone or not empty is so after a step that brings no empty node under the name of a source.
node_stays : (old new : Tree) (job : Job) (run : ℕ) → Named old → IsIn (Run run) job.spec.sources → ((x : Node) → IsIn x new → IsOld old job x) → IfSome (node_named (Run run) old) (λ node. node.pieces ≢ []) → IfSome (node_named (Run run) new) (λ node. node.pieces ≢ [])
node_stays old new job run named there comes some = by (node_named (Run run) new) refl
  where
    at : (x : Node) → Run run ≡ x.name → IsOld old job x → x.pieces ≢ []
    at x same (inl one) = subst (λ o. IfSome o (λ (node : Node). node.pieces ≢ [])) (ap (λ n. node_named n old) same ∙ named_in old x named one) some
    at x same (inr (inl full)) = full
    at x same (inr (inr other)) = absurd (other (subst (λ n. IsIn n job.spec.sources) same there))

    by : (o : Option Node) → node_named (Run run) new ≡ o → IfSome o (λ node. node.pieces ≢ [])
    by None e = tt
    by (Some x) e = let found = found_node (Run run) new x e in at x found.1 (comes x found.0)

-- A join still stands after a step that brings back no table of the past and no empty node of the job's sources.
pub stands_on : (past : List Manifest) (trees : Trees) (job : Job) (prefix : List ℕ) (sources : List NodeName) (change : Tree → Tree) (s : Segment) → Rising trees → IsIn s trees → prefix ≡ s.prefix → Named s.tree
    → ((t : ℕ) → IsTrue (was_piece past t) → IsIn t (flat_map tree_tables (map (on_segment prefix sources change) trees)) → IsIn t (flat_map tree_tables trees))
    → ((x : Node) → IsIn x (change s.tree) → IsOld s.tree job x)
    → JoinStands past trees job → JoinStands past (map (on_segment prefix sources change) trees) job
stands_on past trees job prefix sources change s rise there same named tables comes (Gone t one gone) =
    Gone t one (gone.0, contains_no (flat_map tree_tables (map (on_segment prefix sources change) trees)) t (λ more. never_both (contains (flat_map tree_tables trees) t) (in_contains (flat_map tree_tables trees) t (tables t gone.0 more)) gone.1))
stands_on past trees job prefix sources change s rise there same named tables comes (NotEmpty run one other none some) = NotEmpty run one other none (by (where_on job.spec.segment prefix sources change trees s rise there same))
  where
    by : Where trees (map (on_segment prefix sources change) trees) job.spec.segment change s → IfSome (node_named (Run run) (tree_at job.spec.segment (map (on_segment prefix sources change) trees))) (λ node. node.pieces ≢ [])
    by (Here here after) = subst (λ tree. IfSome (node_named (Run run) tree) (λ node. node.pieces ≢ [])) (sym after)
        (node_stays s.tree (change s.tree) job run named (names_in job.spec.sources (Run run) one) comes (subst (λ tree. IfSome (node_named (Run run) tree) (λ node. node.pieces ≢ [])) here some))
    by (Elsewhere e) = subst (λ tree. IfSome (node_named (Run run) tree) (λ node. node.pieces ≢ [])) (sym e) some
stands_on past trees job prefix sources change s rise there same named tables comes (Itself run sole to none empty) = Itself run sole to none empty

-- ---- the job's own step

-- Two elements of a list are one, or related one way or the other.
related : {A : Type 0} (R : A → A → Type 0) (xs : List A) (x y : A) → Pairs R xs → IsIn x xs → IsIn y xs → (x ≡ y) ⊎ (R x y ⊎ R y x)
related R [] x y h one other = absurd one
related R (z ∷ xs) x y h (inl a) (inl b) = inl (sym a ∙ b)
related R (z ∷ xs) x y h (inl a) (inr b) = inr (inl (subst (λ w. R w y) a (all_at (R z) xs y h.0 b)))
related R (z ∷ xs) x y h (inr a) (inl b) = inr (inr (subst (λ w. R w x) b (all_at (R z) xs x h.0 a)))
related R (z ∷ xs) x y h (inr a) (inr b) = related R xs x y h.1 a b

-- What is known as a job joins: its outputs were never in a node, and its sources' tables were.
pub record OwnJoin (tables : Tables) (history : List Entry) (past : List Manifest) (trees : Trees) (job : Job) (id : ℕ) (change : Tree → Tree) : Type 0 where
  pub c : RunAt trees job.spec id (concat job.outputs) change
  pub rise : Rising trees
  pub apart : Pairs (λ (a b : Segment). AreApart (tree_tables a) (tree_tables b)) trees
  pub newest : Pairs (IsNewer tables) c.s.tree
  pub rows : HaveRows tables c.s.tree
  pub flushed : AllByRecursion (λ (node : Node). IsFlush history node node.name) c.s.tree
  pub source_tables : flat_map (λ (node : Node). node.pieces) (c.t ∷ c.ts) ≡ job.source_tables
  pub were : (t : ℕ) → IsIn t job.source_tables → IsTrue (was_piece past t)
  pub unused : (t : ℕ) → IsIn t (concat job.outputs) → was_piece past t ≡ false
  pub empty : job.source_tables ≡ [] → concat job.outputs ≡ []
  pub lowest : (r : ℕ) → names (c.t ∷ c.ts) ≡ Run r ∷ [] → r ≡ id

pub in_pieces : (tree : Tree) (t : ℕ) → IsIn t (flat_map (λ (node : Node). node.pieces) tree) → (node : Node) × (IsIn node tree × IsIn t node.pieces)
in_pieces [] t there = absurd there
in_pieces (x ∷ tree) t there = by (in_append t x.pieces (flat_map (λ (node : Node). node.pieces) tree) there) (in_pieces tree t)
  where
    further : (node : Node) × (IsIn node tree × IsIn t node.pieces) → (node : Node) × (IsIn node (x ∷ tree) × IsIn t node.pieces)
    further f = (f.0, (inr f.1.0, f.1.1))

    by : IsIn t x.pieces ⊎ IsIn t (flat_map (λ (node : Node). node.pieces) tree) → (IsIn t (flat_map (λ (node : Node). node.pieces) tree) → (node : Node) × (IsIn node tree × IsIn t node.pieces)) → (node : Node) × (IsIn node (x ∷ tree) × IsIn t node.pieces)
    by (inl one) rest = (x, (inl refl, one))
    by (inr one) rest = further (rest one)

-- A table of the sources is in no tree after the join.
source_gone : (tables : Tables) (history : List Entry) (past : List Manifest) (trees : Trees) (job : Job) (id : ℕ) (change : Tree → Tree) (o : OwnJoin tables history past trees job id change) (t : ℕ) → IsIn t job.source_tables
    → IsIn t (flat_map tree_tables (map (on_segment job.spec.segment job.spec.sources change) trees)) → ⊥
source_gone tables history past trees job id change o t source there =
    at (map (on_segment job.spec.segment job.spec.sources change) trees) there
    (each_on (λ y. ⊤) (λ y. IsIn t (tree_tables y) → ⊥) trees job.spec.segment job.spec.sources change o.c.s o.rise o.c.there o.c.same (in_new (in_pieces (change o.c.s.tree) t)) (λ x one other p held. elsewhere x one other held) (all_from _ trees (λ y one. tt)))
  where
    mine : (node : Node) × (IsIn node (o.c.t ∷ o.c.ts) × IsIn t node.pieces)
    mine = in_pieces (o.c.t ∷ o.c.ts) t (subst (IsIn t) (sym o.source_tables) source)

    in_tree : IsIn mine.0 o.c.s.tree
    in_tree = subst (IsIn mine.0) (sym o.c.whole) (in_back mine.0 o.c.newer ((o.c.t ∷ o.c.ts) ++ o.c.older) (in_front mine.0 (o.c.t ∷ o.c.ts) o.c.older mine.1.0))

    some_rows : table_rows tables t ≢ []
    some_rows = all_at (λ u. table_rows tables u ≢ []) mine.0.pieces t (all_at (λ (node : Node). AllByRecursion (λ u. table_rows tables u ≢ []) node.pieces) o.c.s.tree mine.0 o.rows in_tree) mine.1.1

    newest : Pairs (IsNewer tables) (o.c.newer ++ ((o.c.t ∷ o.c.ts) ++ o.c.older))
    newest = subst (Pairs (IsNewer tables)) o.c.whole o.newest

    in_new : (IsIn t (flat_map (λ (node : Node). node.pieces) (change o.c.s.tree)) → (node : Node) × (IsIn node (change o.c.s.tree) × IsIn t node.pieces)) → IsIn t (tree_tables (changed_segment job.spec.sources change o.c.s)) → ⊥
    in_new find held =
        let found = find held in
        by found.0 found.1.1 (in_append found.0 o.c.newer (run_for id (concat job.outputs) (o.c.t ∷ o.c.ts) ∷ o.c.older) (subst (IsIn found.0) o.c.is found.1.0))
      where
        by : (node : Node) → IsIn t node.pieces → IsIn node o.c.newer ⊎ IsIn node (run_for id (concat job.outputs) (o.c.t ∷ o.c.ts) ∷ o.c.older) → ⊥
        by node held (inl newer) = none_in_both tables node mine.0 t (pairs_of (IsNewer tables) o.c.newer ((o.c.t ∷ o.c.ts) ++ o.c.older) node mine.0 newest newer (in_front mine.0 (o.c.t ∷ o.c.ts) o.c.older mine.1.0)) held mine.1.1 some_rows
        by node held (inr (inl run)) = never_both (was_piece past t) (o.were t source) (o.unused t (subst (λ (n : Node). IsIn t n.pieces) (sym run) held))
        by node held (inr (inr older)) = none_in_both tables mine.0 node t (pairs_of (IsNewer tables) (o.c.t ∷ o.c.ts) o.c.older mine.0 node (pairs_second (IsNewer tables) o.c.newer ((o.c.t ∷ o.c.ts) ++ o.c.older) newest) mine.1.0 older) mine.1.1 held some_rows

    in_s : IsIn t (tree_tables o.c.s)
    in_s = in_flat (λ (node : Node). node.pieces) o.c.s.tree mine.0 t in_tree mine.1.1

    elsewhere : (x : Segment) → IsIn x trees → bytes_eq job.spec.segment x.prefix ≡ false → IsIn t (tree_tables x) → ⊥
    elsewhere x one other held = by (related (λ (a b : Segment). AreApart (tree_tables a) (tree_tables b)) trees o.c.s x o.apart o.c.there one)
      where
        by : (o.c.s ≡ x) ⊎ (AreApart (tree_tables o.c.s) (tree_tables x) ⊎ AreApart (tree_tables x) (tree_tables o.c.s)) → ⊥
        by (inl same) = never_both (bytes_eq job.spec.segment x.prefix) ((bytes_eq-Decides job.spec.segment x.prefix).1 (o.c.same ∙ ap (λ (y : Segment). y.prefix) same)) other
        by (inr (inl none)) = apart_at (tree_tables o.c.s) (tree_tables x) t none in_s held
        by (inr (inr none)) = apart_at (tree_tables x) (tree_tables o.c.s) t none held in_s

    at : (ys : Trees) → IsIn t (flat_map tree_tables ys) → AllByRecursion (λ y. IsIn t (tree_tables y) → ⊥) ys → ⊥
    at [] h all = absurd h
    at (y ∷ ys) h all = by (in_append t (tree_tables y) (flat_map tree_tables ys) h) (λ k. at ys k all.1)
      where
        by : IsIn t (tree_tables y) ⊎ IsIn t (flat_map tree_tables ys) → (IsIn t (flat_map tree_tables ys) → ⊥) → ⊥
        by (inl one) rest = all.0 one
        by (inr one) rest = rest one

-- A source that is not the destination is no node of its tree after the join.
source_node_gone : (tables : Tables) (history : List Entry) (past : List Manifest) (trees : Trees) (job : Job) (id : ℕ) (change : Tree → Tree) (o : OwnJoin tables history past trees job id change) (node : Node) (run : ℕ) → IsIn node (o.c.t ∷ o.c.ts) → node.name ≡ Run run → (run ≡ id → ⊥)
    → IfSome (node_named (Run run) (tree_at job.spec.segment (map (on_segment job.spec.segment job.spec.sources change) trees))) (λ x. x.pieces ≢ [])
source_node_gone tables history past trees job id change o node run source is differs =
    in_tree (tree_at job.spec.segment (map (on_segment job.spec.segment job.spec.sources change) trees)) (tree_here job.spec.segment job.spec.sources change trees o.c.s o.rise o.c.there o.c.same ∙ o.c.is)
    (node_named (Run run) (tree_at job.spec.segment (map (on_segment job.spec.segment job.spec.sources change) trees))) refl
  where
    named : Named (o.c.newer ++ ((o.c.t ∷ o.c.ts) ++ o.c.older))
    named = subst Named o.c.whole o.c.own

    no_node : (x : Node) → Run run ≡ x.name → IsIn x o.c.newer ⊎ IsIn x (run_for id (concat job.outputs) (o.c.t ∷ o.c.ts) ∷ o.c.older) → ⊥
    no_node x same (inl newer) = never_both (name_eq x.name node.name) (ap (name_eq x.name) (is ∙ same) ∙ name_itself x.name)
        (pairs_of (λ (a b : Node). name_eq a.name b.name ≡ false) o.c.newer ((o.c.t ∷ o.c.ts) ++ o.c.older) x node named newer (in_front node (o.c.t ∷ o.c.ts) o.c.older source))
    no_node x same (inr (inl own)) = differs (run_same (same ∙ ap (λ (n : Node). n.name) (sym own)))
      where
        run_same : Run run ≡ Run id → run ≡ id
        run_same e = cc e
    no_node x same (inr (inr older)) = never_both (name_eq node.name x.name) (ap (name_eq node.name) (sym (is ∙ same)) ∙ name_itself node.name)
        (pairs_of (λ (a b : Node). name_eq a.name b.name ≡ false) (o.c.t ∷ o.c.ts) o.c.older node x (pairs_second (λ (a b : Node). name_eq a.name b.name ≡ false) o.c.newer ((o.c.t ∷ o.c.ts) ++ o.c.older) named) source older)

    in_tree : (tree : Tree) → tree ≡ o.c.newer ++ run_for id (concat job.outputs) (o.c.t ∷ o.c.ts) ∷ o.c.older → (found : Option Node) → node_named (Run run) tree ≡ found → IfSome found (λ x. x.pieces ≢ [])
    in_tree tree e None f = tt
    in_tree tree e (Some x) f =
        let found = found_node (Run run) tree x f in
        absurd (no_node x found.1 (in_append x o.c.newer (run_for id (concat job.outputs) (o.c.t ∷ o.c.ts) ∷ o.c.older) (subst (IsIn x) e found.0)))

-- The join of a job stands after the step that joins it: a second one would change no tree.
pub join_stands : (tables : Tables) (history : List Entry) (past : List Manifest) (trees : Trees) (job : Job) (id : ℕ) (change : Tree → Tree) → OwnJoin tables history past trees job id change
    → JoinStands past (map (on_segment job.spec.segment job.spec.sources change) trees) job
join_stands tables history past trees job id change o = by job.source_tables refl
  where
    others : Trees
    others = map (on_segment job.spec.segment job.spec.sources change) trees

    run_of : (node : Node) → IsIn node o.c.s.tree → node.pieces ≡ [] → (run : ℕ) × (node.name ≡ Run run)
    run_of node there none = at node.name refl (all_at (λ (n : Node). IsFlush history n n.name) o.c.s.tree node o.flushed there)
      where
        at : (name : NodeName) → node.name ≡ name → IsFlush history node name → (run : ℕ) × (node.name ≡ Run run)
        at (L0 n) e flush = let clash = sym none ∙ flush.1 in absurd (cc clash)
        at (Run n) e flush = (n, e)

    in_tree : (node : Node) → IsIn node (o.c.t ∷ o.c.ts) → IsIn node o.c.s.tree
    in_tree node there = subst (IsIn node) (sym o.c.whole) (in_back node o.c.newer ((o.c.t ∷ o.c.ts) ++ o.c.older) (in_front node (o.c.t ∷ o.c.ts) o.c.older there))

    no_pieces : (nodes : Tree) → flat_map (λ (node : Node). node.pieces) nodes ≡ [] → AllByRecursion (λ (node : Node). node.pieces ≡ []) nodes
    no_pieces [] e = tt
    no_pieces (x ∷ nodes) e = both x.pieces refl (no_pieces nodes) e
      where
        both : (ps : List ℕ) → x.pieces ≡ ps → (flat_map (λ (node : Node). node.pieces) nodes ≡ [] → AllByRecursion (λ (node : Node). node.pieces ≡ []) nodes) → ps ++ flat_map (λ (node : Node). node.pieces) nodes ≡ []
            → (x.pieces ≡ []) × AllByRecursion (λ (node : Node). node.pieces ≡ []) nodes
        both [] f rest e = (f, rest e)
        both (p ∷ ps) f rest e = absurd (cc e)

    in_sources : (node : Node) → (run : ℕ) → IsIn node (o.c.t ∷ o.c.ts) → node.name ≡ Run run → IsTrue (names_contain job.spec.sources (Run run))
    in_sources node run there is = in_names job.spec.sources (Run run) (subst (IsIn (Run run)) o.c.named (subst (λ n. IsIn n (names (o.c.t ∷ o.c.ts))) is (node_in_names (o.c.t ∷ o.c.ts) node there)))

    not_to : (run : ℕ) → (run ≡ id → ⊥) → job.spec.destination ≢ Some run
    not_to run differs e = differs (some_same (sym e ∙ o.c.to))
      where
        some_same : Some run ≡ Some id → run ≡ id
        some_same e = cc e

    gone : (node : Node) → (run : ℕ) → job.source_tables ≡ [] → IsIn node (o.c.t ∷ o.c.ts) → node.name ≡ Run run → (run ≡ id → ⊥) → JoinStands past others job
    gone node run none there is differs = NotEmpty run (in_sources node run there is) (not_to run differs) none (source_node_gone tables history past trees job id change o node run there is differs)

    sole : job.source_tables ≡ [] → (run : ℕ) → names (o.c.t ∷ o.c.ts) ≡ Run run ∷ [] → JoinStands past others job
    sole none run is = Itself run (sym o.c.named ∙ is) (o.c.to ∙ ap Some (sym (o.lowest run is))) none (o.empty none)

    two : job.source_tables ≡ [] → (u : Node) → (us : Tree) → o.c.ts ≡ u ∷ us → AllByRecursion (λ (node : Node). node.pieces ≡ []) (o.c.t ∷ o.c.ts) → JoinStands past others job
    two none u us e empty = choose (first.0 == id) refl
      where
        u_there : IsIn u (o.c.t ∷ o.c.ts)
        u_there = inr (subst (IsIn u) (sym e) (inl refl))

        first : (run : ℕ) × (o.c.t.name ≡ Run run)
        first = run_of o.c.t (in_tree o.c.t (inl refl)) empty.0

        second : (run : ℕ) × (u.name ≡ Run run)
        second = run_of u (in_tree u u_there) (all_at (λ (node : Node). node.pieces ≡ []) (o.c.t ∷ o.c.ts) u empty u_there)

        differ : name_eq o.c.t.name u.name ≡ false
        differ = all_at (λ (y : Node). name_eq o.c.t.name y.name ≡ false) (o.c.ts ++ o.c.older) u (pairs_second (λ (a b : Node). name_eq a.name b.name ≡ false) o.c.newer ((o.c.t ∷ o.c.ts) ++ o.c.older) (subst Named o.c.whole o.c.own)).0
            (in_front u o.c.ts o.c.older (subst (IsIn u) (sym e) (inl refl)))

        choose : (b : Bool) → (first.0 == id) ≡ b → JoinStands past others job
        choose true f = gone u second.0 none u_there second.1 (λ same. never_both (name_eq o.c.t.name u.name)
            (ap (name_eq o.c.t.name) (second.1 ∙ ap Run (same ∙ sym ((Decides-eqb first.0 id).0 f)) ∙ sym first.1) ∙ name_itself o.c.t.name) differ)
        choose false f = gone o.c.t first.0 none (inl refl) first.1 (λ same. never_both (first.0 == id) ((Decides-eqb first.0 id).1 same) f)

    empty_case : job.source_tables ≡ [] → (ts : Tree) → o.c.ts ≡ ts → AllByRecursion (λ (node : Node). node.pieces ≡ []) (o.c.t ∷ o.c.ts) → JoinStands past others job
    empty_case none [] e empty =
        let run = run_of o.c.t (in_tree o.c.t (inl refl)) empty.0 in
        sole none run.0 (λ i. run.1 i ∷ names (e i))
    empty_case none (u ∷ us) e empty = two none u us e empty

    by : (ts : List ℕ) → job.source_tables ≡ ts → JoinStands past others job
    by [] e = empty_case e o.c.ts refl (no_pieces (o.c.t ∷ o.c.ts) (o.source_tables ∙ e))
    by (t ∷ ts) e =
        let source = subst (IsIn t) (sym e) (inl refl) in
        Gone t (in_contains job.source_tables t source) (o.were t source, contains_no (flat_map tree_tables others) t (source_gone tables history past trees job id change o t source))
