-- The stored trees merge with themselves.
use Rattle.std.proofs.Common.{◌≡◌, refl, sym, ◌∙◌, ap, subst, ℕ, List, [], ◌∷◌, ◌++◌, cond, Bool, true, false, inl, inr, Option, Some, None}
use Rattle.std.specs.Prelude.{IsTrue, ◌==◌, bytes_eq, is_some, not}
use Rattle.std.specs.declared.cmp.Ordering.TheVariants.{Less, Equal}
use Rattle.std.specs.List.{AllByRecursion}
use Rattle.std.proofs.lemmas.Bool.Decides.{Decides-eqb}
use Rattle.std.proofs.lemmas.Slice.Eq.{bytes_eq-Decides}
use Rattle.row_model.specs.Lists.{Pairs}
use Rattle.row_model.specs.Rows.{key_cmp}
use Rattle.row_model.specs.Fold.{Operator}
use Rattle.row_laws.proofs.KeyRows.{key_alike}
use Rattle.fleet_model.specs.Nodes.{NodeName, L0, Run, name_eq, is_l0, names_contain, Tree, names, Segment, Trees, segment_at, runs_of}
use Rattle.fleet_model.specs.History.{Entry}
use Rattle.fleet_model.specs.Invariants.TreesFit.{StandsBefore}
use Rattle.step_model.specs.Past.{World}
use Rattle.step_model.specs.Kept.TablesKept.{IsPassed}
use Rattle.step_model.specs.Kept.Keeps.{Keeps}
use Rattle.step_model.specs.Steps.Merging.{is_watermark, flushes_before, merged_segment, merged_trees}
use Rattle.step_laws.proofs.Elements.{IsIn, all_at, all_from}
use Rattle.step_laws.proofs.FlushTrees.{Rising, rising_from}
use Rattle.rival_laws.proofs.TreesMerged.{Stays, each_merges}

-- ---- a tree that merges with itself

abbrev Unmarked : Option ℕ → Tree → Type 0
Unmarked mark tree = AllByRecursion (λ node. is_watermark mark node.name ≡ false) tree

runs_alone : (id : ℕ) (tree : Tree) → AllByRecursion (StandsBefore (Run id)) (names tree) → runs_of tree ≡ tree
runs_alone id [] h = refl
runs_alone id (node ∷ tree) h = by node.name h.0 (runs_alone id tree h.1)
  where
    by : (name : NodeName) → StandsBefore (Run id) name → runs_of tree ≡ tree → cond (not (is_l0 name)) (node ∷ runs_of tree) (runs_of tree) ≡ node ∷ tree
    by (L0 other) before rest = absurd before
    by (Run other) before rest = ap (λ (ns : Tree). node ∷ ns) rest

flushes_then_runs : (mark : Option ℕ) (tree : Tree) → Pairs StandsBefore (names tree) → Unmarked mark tree → flushes_before mark tree ++ runs_of tree ≡ tree
flushes_then_runs mark [] order h = refl
flushes_then_runs mark (node ∷ tree) order h =
    ap (λ b. cond b [] (cond (is_l0 node.name) (node ∷ flushes_before mark tree) []) ++ runs_of (node ∷ tree)) h.0 ∙ by node.name order.0 (flushes_then_runs mark tree order.1 h.1)
  where
    by : (name : NodeName) → AllByRecursion (StandsBefore name) (names tree) → flushes_before mark tree ++ runs_of tree ≡ tree
        → cond (is_l0 name) (node ∷ flushes_before mark tree) [] ++ cond (not (is_l0 name)) (node ∷ runs_of tree) (runs_of tree) ≡ node ∷ tree
    by (L0 flush) before rest = ap (λ (ns : Tree). node ∷ ns) rest
    by (Run id) before rest = ap (λ (ns : Tree). node ∷ ns) (runs_alone id tree before)

-- A watermark that a tree has passed is none of its nodes.
unmarked : (history : List Entry) (mark : Option ℕ) (tree : Tree) → IsPassed history (names tree) mark → Unmarked mark tree
unmarked history None tree passed = all_from _ tree (λ node there. refl)
unmarked history (Some flush) tree passed = each tree passed.1
  where
    turned : (name : NodeName) → name_eq name (L0 flush) ≡ false → name_eq (L0 flush) name ≡ false
    turned (L0 other) e = by (flush == other) refl
      where
        by : (b : Bool) → (flush == other) ≡ b → b ≡ false
        by true f = absurd (cc (e, (Decides-eqb other flush).1 (sym ((Decides-eqb flush other).0 f))))
        by false f = refl
    turned (Run other) e = refl

    each : (ns : Tree) → names_contain (names ns) (L0 flush) ≡ false → Unmarked (Some flush) ns
    each [] e = tt
    each (node ∷ ns) e = by (name_eq node.name (L0 flush)) refl e (each ns)
      where
        by : (b : Bool) → name_eq node.name (L0 flush) ≡ b → cond b true (names_contain (names ns) (L0 flush)) ≡ false → (names_contain (names ns) (L0 flush) ≡ false → Unmarked (Some flush) ns) → Unmarked (Some flush) (node ∷ ns)
        by true f e rest = absurd (cc e)
        by false f e rest = (turned node.name f, rest e)

-- ---- all trees

found_later : (s first : Segment) (trees : Trees) → key_cmp first.prefix s.prefix ≡ Less → segment_at s.prefix trees ≡ Some s → segment_at s.prefix (first ∷ trees) ≡ Some s
found_later s first trees low e = by (bytes_eq s.prefix first.prefix) refl
  where
    clash : key_cmp s.prefix s.prefix ≡ Less → key_cmp s.prefix s.prefix ≡ Equal → ⊥
    clash a b = absurd (cc (a, b))

    by : (b : Bool) → bytes_eq s.prefix first.prefix ≡ b → cond b (Some first) (segment_at s.prefix trees) ≡ Some s
    by true f = absurd (clash (subst (λ p. key_cmp p s.prefix ≡ Less) (sym ((bytes_eq-Decides s.prefix first.prefix).0 f)) low) (key_alike s.prefix))
    by false f = e

-- Each segment is found by its prefix.
pub found_segment : (trees : Trees) (s : Segment) → Rising trees → IsIn s trees → segment_at s.prefix trees ≡ Some s
found_segment [] s rise there = absurd there
found_segment (first ∷ trees) s rise (inl same) = subst (λ (t : Segment). segment_at t.prefix (first ∷ trees) ≡ Some t) same (ap (λ b. cond b (Some first) (segment_at first.prefix trees)) ((bytes_eq-Decides first.prefix first.prefix).1 refl))
found_segment (first ∷ trees) s rise (inr there) = found_later s first trees (all_at (λ (t : Segment). key_cmp first.prefix t.prefix ≡ Less) trees s rise.0 there) (found_segment trees s rise.1 there)

-- The stored trees merge with themselves.
pub stored_merge : (merge : Operator) (world : World) → Keeps merge world → merged_trees world.store.manifest.trees world.store.manifest.trees ≡ world.store.manifest.trees
stored_merge merge world k = each_merges trees trees (all_from (Stays trees) trees (λ s there. ap (λ o. merged_segment o s) (found_segment trees s rise there) ∙ (λ i. record s { tree = itself s there i })))
  where
    trees : Trees
    trees = world.store.manifest.trees

    rise : Rising trees
    rise = rising_from trees k.stored.sound.prefixes

    itself : (s : Segment) → IsIn s trees → flushes_before s.watermark s.tree ++ runs_of s.tree ≡ s.tree
    itself s there = flushes_then_runs s.watermark s.tree (all_at _ trees s k.stored.trees.each there).names_in_order
        (unmarked world.store.history s.watermark s.tree (all_at (λ (t : Segment). IsPassed world.store.history (names t.tree) t.watermark) trees s k.facts.pieces.watermarks there))

pub stored_prefixes : (merge : Operator) (world : World) → Keeps merge world → AllByRecursion (λ s. IsTrue (is_some (segment_at s.prefix world.store.manifest.trees))) world.store.manifest.trees
stored_prefixes merge world k = all_from _ world.store.manifest.trees (λ s there. ap is_some (found_segment world.store.manifest.trees s (rising_from world.store.manifest.trees k.stored.sound.prefixes) there))
