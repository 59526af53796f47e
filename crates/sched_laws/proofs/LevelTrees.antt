-- The flushes and the runs of a tree, as the levelled scheduler looks at them.
use Rattle.std.proofs.Common.{◌≡◌, refl, sym, ◌∙◌, ap, subst, ℕ, List, [], ◌∷◌, ◌++◌, cond, true, not, IsTrue, length, arith}
use Rattle.std.specs.Prelude.{◌&&◌, is_some, nat_le, nat_lt}
use Rattle.std.specs.List.{AllByRecursion}
use Rattle.std.proofs.lemmas.Bool.{leb-true, ltb-true}
use Rattle.row_model.specs.Lists.{Pairs}
use Rattle.fleet_model.specs.Work.Gates.{are_distinct, is_nonempty}
use Rattle.fleet_model.specs.Nodes.{NodeName, L0, Run, is_l0, Node, Segment, Tree, Trees, flushes_of, names, runs_of, segment_at, tree_at, tree_or_empty}
use Rattle.fleet_model.specs.Sources.{begins_with_run, run_ids}
use Rattle.fleet_model.specs.Invariants.TreesFit.{StandsBefore}
use Rattle.sched_model.specs.Levels.{LevelOptions, are_allowed}
use Rattle.sched_laws.proofs.Lists.{both_true}
use Rattle.sched_laws.proofs.Trees.{IsAt}

-- The node is a run.
abbrev pub IsRun : Node → Type 0
IsRun node = (id : ℕ) × (node.name ≡ Run id)

pub all_runs : (tree : Tree) → AllByRecursion IsRun (runs_of tree)
all_runs [] = tt
all_runs (node ∷ tree) = by node.name refl (all_runs tree)
  where
    by : (name : NodeName) → node.name ≡ name → AllByRecursion IsRun (runs_of tree) → AllByRecursion IsRun (cond (not (is_l0 name)) (node ∷ runs_of tree) (runs_of tree))
    by (L0 n) e later = later
    by (Run id) e later = ((id, e), later)

pub no_runs : (tree : Tree) → run_ids (names (flushes_of tree)) ≡ []
no_runs [] = refl
no_runs (node ∷ tree) = by node.name refl (no_runs tree)
  where
    flush : (n : ℕ) → node.name ≡ L0 n → run_ids (names (flushes_of tree)) ≡ [] → run_ids (node.name ∷ names (flushes_of tree)) ≡ []
    flush n e later = ap (λ name. run_ids (name ∷ names (flushes_of tree))) e ∙ later

    by : (name : NodeName) → node.name ≡ name → run_ids (names (flushes_of tree)) ≡ [] → run_ids (names (cond (is_l0 name) (node ∷ flushes_of tree) (flushes_of tree))) ≡ []
    by (L0 n) e later = flush n e later
    by (Run id) e later = later

no_flushes : (id : ℕ) (tree : Tree) → AllByRecursion (StandsBefore (Run id)) (names tree) → flushes_of tree ≡ []
no_flushes id [] before = refl
no_flushes id (node ∷ tree) before = by node.name before.0 (no_flushes id tree before.1)
  where
    by : (name : NodeName) → StandsBefore (Run id) name → flushes_of tree ≡ [] → cond (is_l0 name) (node ∷ flushes_of tree) (flushes_of tree) ≡ []
    by (L0 n) one later = absurd one
    by (Run i) one later = later

-- The nodes of a tree in order are its flushes and then its runs.
pub flushes_and_runs : (tree : Tree) → Pairs StandsBefore (names tree) → names tree ≡ names (flushes_of tree) ++ names (runs_of tree)
flushes_and_runs [] order = refl
flushes_and_runs (node ∷ tree) order = by node.name refl (flushes_and_runs tree order.1)
  where
    by : (name : NodeName) → node.name ≡ name → names tree ≡ names (flushes_of tree) ++ names (runs_of tree)
        → ◌≡◌ {A = List NodeName} (node.name ∷ names tree)
        (names (cond (is_l0 name) (node ∷ flushes_of tree) (flushes_of tree)) ++ names (cond (not (is_l0 name)) (node ∷ runs_of tree) (runs_of tree)))
    by (L0 n) e later = ap (λ (l : List NodeName). node.name ∷ l) later
    by (Run id) e later =
        let none = no_flushes id tree (subst (λ name. AllByRecursion (StandsBefore name) (names tree)) e order.0) in
        let runs : List NodeName = names (runs_of tree) in
        ap (λ (l : List NodeName). node.name ∷ l) (later ∙ ap (λ (f : Tree). names f ++ runs) none) ∙ sym (ap (λ (f : Tree). names f ++ (node.name ∷ runs)) none)

pub runs_begin : (runs : Tree) → AllByRecursion IsRun runs → begins_with_run (names runs) ≡ true
runs_begin [] all = refl
runs_begin (run ∷ runs) all = ap (λ name. begins_with_run (name ∷ names runs)) all.0.1

-- The segment's tree is found at its prefix. Its nodes are its flushes and then its runs, in order, and none
-- is named twice.
pub record StandsHere (trees : Trees) (s : Segment) : Type 0 where
  pub found : is_some (segment_at s.prefix trees) ≡ true
  pub nodes : names (tree_at s.prefix trees) ≡ names (flushes_of s.tree) ++ names (runs_of s.tree)
  pub in_order : Pairs StandsBefore (names (flushes_of s.tree) ++ names (runs_of s.tree))
  pub named_once : are_distinct (names (flushes_of s.tree) ++ names (runs_of s.tree)) ≡ true

-- Each tree stands at its prefix.
pub all_stand_here : (trees rest : Trees) → AllByRecursion (IsAt trees) rest → AllByRecursion (λ s. Pairs StandsBefore (names s.tree)) rest
    → AllByRecursion (λ s. IsTrue (are_distinct (names s.tree))) rest → AllByRecursion (StandsHere trees) rest
all_stand_here trees [] at order once = tt
all_stand_here trees (s ∷ rest) at order once =
    let parts = flushes_and_runs s.tree order.0 in (
      record {
        found = ap is_some at.0;
        nodes = ap (λ f. names (tree_or_empty f)) at.0 ∙ parts;
        in_order = subst (Pairs StandsBefore) parts order.0;
        named_once = subst (λ l. are_distinct l ≡ true) parts once.0;
      },
      all_stand_here trees rest at.1 order.1 once.1,
    )

-- Flushes that reach the trigger are some.
pub some_flushes : (o : LevelOptions) → are_allowed o ≡ true → (flushes : List NodeName) → nat_le o.l0_trigger (length flushes) ≡ true → is_nonempty flushes ≡ true
some_flushes o allowed [] many =
    let tests = both_true (nat_lt 0 o.l0_trigger && nat_lt 0 o.base) (nat_lt 1 o.ratio) allowed in
    let some = ltb-true 0 o.l0_trigger (both_true (nat_lt 0 o.l0_trigger) (nat_lt 0 o.base) tests.0).0 in
    let few = leb-true o.l0_trigger 0 many in
    absurd (omega (arith, some, few))
some_flushes o allowed (flush ∷ flushes) many = refl
