-- What the steps of a commit keep: all trees, and each stored job. First for a step that puts a run in place of its sources.
use Rattle.std.proofs.Common.{◌≡◌, refl, sym, ◌∙◌, ap, subst, ℕ, List, [], ◌∷◌, ◌++◌, cond, Bool, true, false, inl, inr, ◌⊎◌, Option, Some, None}
use Rattle.std.specs.Prelude.{IsTrue, ◌||◌, not, bytes_eq, nat_le}
use Rattle.std.specs.List.{AllByRecursion, list_any, list_all}
use Rattle.std.proofs.lemmas.Slice.Eq.{bytes_eq-Decides}
use Rattle.row_model.specs.Fold.{Operator}
use Rattle.fleet_model.specs.Nodes.{NodeName, Run, is_l0, Node, Tree, Segment, Trees, names, segment_at, tree_at, tree_or_empty}
use Rattle.fleet_model.specs.Jobs.{JobSpec, contains}
use Rattle.fleet_model.specs.Work.Gates.{is_nonempty}
use Rattle.fleet_model.specs.Handles.{tree_tables}
use Rattle.fleet_model.specs.History.{Entry}
use Rattle.fleet_model.specs.Sources.{run_ids, all_run_ids, older_nodes, begins_with_run, reaches_oldest, is_whole_stretch, is_lowest_or_above}
use Rattle.fleet_model.specs.Store.{Store, AreHeld}
use Rattle.fleet_model.specs.Trees.{without_nodes, with_run_for, watermark_after}
use Rattle.step_model.specs.Kept.TablesKept.{IsKnownPiece}
use Rattle.step_laws.proofs.Elements.{IsIn, all_at, in_front, in_back, contains_in}
use Rattle.step_laws.proofs.Deletions.{in_flat}
use Rattle.step_laws.proofs.FlushTrees.{Rising}
use Rattle.commit_laws.proofs.Stretches.{Named, InOrder, Stretch, stretch_of, Between, between_of, node_of, node_in_names, run_in, in_runs, all_flushes, both_true}
use Rattle.commit_laws.proofs.RunTrees.{run_stands}
use Rattle.commit_laws.proofs.TreeReads.{before_these}
use Rattle.commit_laws.proofs.RunRows.{RunFits}
use Rattle.commit_laws.proofs.OtherJobs.{in_replaced}
use Rattle.commit_laws.proofs.Segments.{SegmentFits, segment_with_run}
use Rattle.commit_laws.proofs.StepTrees.{TreesKept, Changes}
use Rattle.commit_laws.proofs.JobSteps.{RunAt, tree_before}
use Rattle.commit_laws.proofs.JoinsStand.{in_pieces}
use Rattle.commit_laws.specs.RunReads.{run_for}

-- ---- the stretch of a step

-- The sources of a step are a stretch of one tree.
pub record StretchAt (trees : Trees) (spec : JobSpec) : Type 0 where
  pub s : Segment
  pub there : IsIn s trees
  pub same : spec.segment ≡ s.prefix
  pub newer : Tree
  pub t : Node
  pub ts : Tree
  pub older : Tree
  pub whole : s.tree ≡ newer ++ ((t ∷ ts) ++ older)
  pub named : names (t ∷ ts) ≡ spec.sources
  pub rest : older_nodes spec.sources (names s.tree) ≡ Some (names older)
  pub reaches : IsTrue (reaches_oldest (names (t ∷ ts)) (Some (names older)))

pub found_there : (p : List ℕ) (trees : Trees) (s : Segment) → segment_at p trees ≡ Some s → IsIn s trees × (p ≡ s.prefix)
found_there p [] s e = absurd (cc e)
found_there p (x ∷ trees) s e = by (bytes_eq p x.prefix) refl (found_there p trees s) e
  where
    same_some : Some x ≡ Some s → x ≡ s
    same_some e = cc e

    by : (b : Bool) → bytes_eq p x.prefix ≡ b → (segment_at p trees ≡ Some s → IsIn s trees × (p ≡ s.prefix)) → cond b (Some x) (segment_at p trees) ≡ Some s → IsIn s (x ∷ trees) × (p ≡ s.prefix)
    by true f rest e = (inl (same_some e), (bytes_eq-Decides p x.prefix).0 f ∙ ap (λ (y : Segment). y.prefix) (same_some e))
    by false f rest e = let more = rest e in (inr more.0, more.1)

-- Sources that are a whole stretch of their tree split this tree into newer nodes, the sources, and older nodes.
pub stretch_at : (trees : Trees) (spec : JobSpec) → IsTrue (is_nonempty spec.sources) → IsTrue (is_whole_stretch (tree_at spec.segment trees) spec.sources) → StretchAt trees spec
stretch_at trees spec some h = by (segment_at spec.segment trees) refl h
  where
    with_nodes : (s : Segment) → IsIn s trees → spec.segment ≡ s.prefix → (d : Stretch spec.sources s.tree) → IsTrue (reaches_oldest spec.sources (older_nodes spec.sources (names s.tree))) → StretchAt trees spec
    with_nodes s there same d reach = at d.taken refl d.named
      where
        no_sources : (xs : List NodeName) → [] ≡ xs → IsTrue (is_nonempty xs) → ⊥
        no_sources [] e k = absurd (cc k)
        no_sources (x ∷ xs) e k = absurd (cc e)

        at : (taken : Tree) → d.taken ≡ taken → names taken ≡ spec.sources → StretchAt trees spec
        at [] e n = absurd (no_sources spec.sources n some)
        at (t ∷ ts) e n = record {
          s = s;
          there = there;
          same = same;
          newer = d.newer;
          t = t;
          ts = ts;
          older = d.older;
          whole = d.whole ∙ ap (λ nodes. d.newer ++ (nodes ++ d.older)) e;
          named = n;
          rest = d.rest;
          reaches = subst (λ ns. IsTrue (reaches_oldest ns (Some (names d.older)))) (sym n) (subst (λ o. IsTrue (reaches_oldest spec.sources o)) d.rest reach);
        }

    in_segment : (s : Segment) → IsIn s trees → spec.segment ≡ s.prefix → (o : Option (List NodeName)) → older_nodes spec.sources (names s.tree) ≡ o → IsTrue (reaches_oldest spec.sources o) → StretchAt trees spec
    in_segment s there same None e k = absurd (cc k)
    in_segment s there same (Some rest) e k = with_nodes s there same (stretch_of spec.sources s.tree rest e) (subst (λ o. IsTrue (reaches_oldest spec.sources o)) (sym e) k)

    nowhere : (xs : List NodeName) → IsTrue (is_nonempty xs) → IsTrue (is_whole_stretch [] xs) → ⊥
    nowhere [] k e = absurd (cc k)
    nowhere (x ∷ xs) k e = absurd (cc e)

    by : (o : Option Segment) → segment_at spec.segment trees ≡ o → IsTrue (is_whole_stretch (tree_or_empty o) spec.sources) → StretchAt trees spec
    by None e k = absurd (nowhere spec.sources some k)
    by (Some s) e k = let found = found_there spec.segment trees s e in in_segment s found.0 found.1 (older_nodes spec.sources (names s.tree)) refl k

abbrev pub as_stretch : (trees : Trees) (spec : JobSpec) (a : StretchAt trees spec) → Stretch spec.sources a.s.tree
as_stretch trees spec a = record { newer = a.newer; taken = a.t ∷ a.ts; older = a.older; whole = a.whole; named = a.named; rest = a.rest }

-- ---- the run in its place

-- Where the run of the step may be: it is the lowest source run, or above the runs of its tree and new.
pub record RunMay (trees : Trees) (spec : JobSpec) (id : ℕ) : Type 0 where
  pub to : spec.destination ≡ Some id
  pub lowest : IsTrue (is_lowest_or_above id (run_ids spec.sources) (run_ids (names (tree_at spec.segment trees))))
  pub fresh : run_ids spec.sources ≡ [] → IsIn id (all_run_ids trees) → ⊥

pub run_between : (trees : Trees) (spec : JobSpec) (id : ℕ) (a : StretchAt trees spec) → Rising trees → InOrder a.s.tree → RunMay trees spec id → Between id a.newer a.older
run_between trees spec id a rise order may = between_of id a.newer a.t a.ts a.older (subst InOrder a.whole order) a.reaches
    (subst (λ ns. IsTrue (is_lowest_or_above id (run_ids ns) (run_ids (names (a.newer ++ ((a.t ∷ a.ts) ++ a.older)))))) (sym a.named)
    (subst (λ tree. IsTrue (is_lowest_or_above id (run_ids spec.sources) (run_ids (names tree)))) (tree_before spec.segment trees a.s rise a.there a.same ∙ a.whole) may.lowest))

-- What a step makes of the trees where its sources are a stretch of one tree: that tree has the run, others stay.
abbrev pub run_at : (trees : Trees) (spec : JobSpec) (id : ℕ) (pieces : List ℕ) (change : Tree → Tree) (a : StretchAt trees spec) → Rising trees → Named a.s.tree → InOrder a.s.tree → RunMay trees spec id
    → change a.s.tree ≡ with_run_for spec.sources id pieces a.s.tree → RunAt trees spec id pieces change
run_at trees spec id pieces change a rise own order may makes = record {
  s = a.s;
  there = a.there;
  same = a.same;
  to = may.to;
  newer = a.newer;
  t = a.t;
  ts = a.ts;
  older = a.older;
  whole = a.whole;
  named = a.named;
  own = own;
  order = order;
  begins = λ none. begins (all_flushes (names (a.t ∷ a.ts)) none).0;
  fresh = fresh (run_ids (names (a.t ∷ a.ts))) refl;
  is = makes ∙ run_stands spec.sources id pieces a.s.tree (as_stretch trees spec a) own (run_between trees spec id a rise order may);
}
  where
    begins : is_l0 a.t.name ≡ true → IsTrue (begins_with_run (names a.older))
    begins flush = subst (λ c. IsTrue (not (c || list_any is_l0 (names a.ts)) || begins_with_run (names a.older))) flush a.reaches

    fresh : (ids : List ℕ) → run_ids (names (a.t ∷ a.ts)) ≡ ids → IsIn (Run id) (names (a.t ∷ a.ts)) ⊎ ((run_ids (names (a.t ∷ a.ts)) ≡ []) × (IsIn id (all_run_ids trees) → ⊥))
    fresh [] e = inr (e, may.fresh (ap run_ids (sym a.named) ∙ e))
    fresh (run ∷ runs) e = inl (run_in (names (a.t ∷ a.ts)) id (subst (IsIn id) (sym e)
        (contains_in (run ∷ runs) id (both_true (contains (run ∷ runs) id) (list_all (nat_le id) (run ∷ runs)) (subst (λ ids. IsTrue (is_lowest_or_above id ids (run_ids (names (tree_at spec.segment trees))))) (ap run_ids (sym a.named) ∙ e) may.lowest)).0)))

-- ---- the trees after the run

-- What is asked of the run's tables and rows.
pub record PiecesMay (merge : Operator) (store : Store) (history : List Entry) (trees : Trees) (spec : JobSpec) (id : ℕ) (pieces : List ℕ) (change : Tree → Tree) (c : RunAt trees spec id pieces change) : Type 1 where
  pub held : AreHeld store pieces
  pub known : AllByRecursion (IsKnownPiece history) pieces
  pub between : Between id c.newer c.older
  pub less : without_nodes spec.sources c.s.tree ≡ c.newer ++ c.older
  pub fits : RunFits merge store (before_these true c.older) (c.t ∷ c.ts) (run_for id pieces (c.t ∷ c.ts))
  pub new_tables : (t : ℕ) → IsIn t pieces → IsIn t (tree_tables c.s) ⊎ ((y : Segment) → IsIn y trees → IsIn t (tree_tables y) → ⊥)

-- A run with held tables and fitting rows keeps what is kept of its segment, and takes no node or table of another one.
pub run_changes : (merge : Operator) (store : Store) (history : List Entry) (trees : Trees) (spec : JobSpec) (id : ℕ) (pieces : List ℕ) (change : Tree → Tree) (c : RunAt trees spec id pieces change) → PiecesMay merge store history trees spec id pieces change c
    → TreesKept merge store history trees → Changes merge store history trees spec.segment spec.sources change c.s
run_changes merge store history trees spec id pieces change c p k = record {
  there = c.there;
  same = c.same;
  fits = subst (λ tree. SegmentFits merge store history (record c.s { tree = tree; watermark = watermark_after spec.sources c.s.tree c.s.watermark })) (sym c.is)
      (segment_with_run merge store history c.s spec.sources c.newer c.t c.ts c.older id pieces c.whole p.between p.less p.held p.known p.fits (all_at (SegmentFits merge store history) trees c.s k.each c.there));
  new_names = λ n there. let found = node_of (change c.s.tree) n there in name_at n found.node found.same (in_replaced c.newer (c.t ∷ c.ts) c.older (run_for id pieces (c.t ∷ c.ts)) found.node (subst (IsIn found.node) c.is found.there));
  new_tables = λ t there. let found = in_pieces (change c.s.tree) t there in table_at t found.0 found.1.1 (in_replaced c.newer (c.t ∷ c.ts) c.older (run_for id pieces (c.t ∷ c.ts)) found.0 (subst (IsIn found.0) c.is found.1.0));
}
  where
    old_name : (node : Node) → IsIn node (c.newer ++ ((c.t ∷ c.ts) ++ c.older)) → IsIn node.name (names c.s.tree)
    old_name node one = node_in_names c.s.tree node (subst (IsIn node) (sym c.whole) one)

    run_name : (n : NodeName) → Run id ≡ n → IsIn (Run id) (names (c.t ∷ c.ts)) ⊎ ((run_ids (names (c.t ∷ c.ts)) ≡ []) × (IsIn id (all_run_ids trees) → ⊥)) → IsIn n (names c.s.tree) ⊎ ((y : Segment) → IsIn y trees → IsIn n (names y.tree) → ⊥)
    run_name n same (inl one) =
        let found = node_of (c.t ∷ c.ts) (Run id) one in
        inl (subst (λ m. IsIn m (names c.s.tree)) (found.same ∙ same) (old_name found.node (in_back found.node c.newer ((c.t ∷ c.ts) ++ c.older) (in_front found.node (c.t ∷ c.ts) c.older found.there))))
    run_name n same (inr f) = inr (λ y there one. f.1 (in_flat (λ (s : Segment). run_ids (names s.tree)) trees y id there (in_runs (names y.tree) id (subst (λ m. IsIn m (names y.tree)) (sym same) one))))

    name_at : (n : NodeName) → (node : Node) → node.name ≡ n → (run_for id pieces (c.t ∷ c.ts) ≡ node) ⊎ IsIn node (c.newer ++ ((c.t ∷ c.ts) ++ c.older)) → IsIn n (names c.s.tree) ⊎ ((y : Segment) → IsIn y trees → IsIn n (names y.tree) → ⊥)
    name_at n node name (inl run) = run_name n (ap (λ (x : Node). x.name) run ∙ name) c.fresh
    name_at n node name (inr one) = inl (subst (λ m. IsIn m (names c.s.tree)) name (old_name node one))

    table_at : (t : ℕ) → (node : Node) → IsIn t node.pieces → (run_for id pieces (c.t ∷ c.ts) ≡ node) ⊎ IsIn node (c.newer ++ ((c.t ∷ c.ts) ++ c.older)) → IsIn t (tree_tables c.s) ⊎ ((y : Segment) → IsIn y trees → IsIn t (tree_tables y) → ⊥)
    table_at t node held (inl run) = p.new_tables t (subst (λ (x : Node). IsIn t x.pieces) (sym run) held)
    table_at t node held (inr one) = inl (in_flat (λ (x : Node). x.pieces) c.s.tree node t (subst (IsIn node) (sym c.whole) one) held)
