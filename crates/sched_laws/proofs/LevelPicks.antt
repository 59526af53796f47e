-- What each pick of the levelled scheduler keeps, all picks keep.
use Rattle.std.proofs.Common.{◌≡◌, refl, sym, ◌∙◌, subst, ℕ, ◌+◌, List, [], ◌∷◌, ◌++◌, append_assoc, length, cond, Bool, true, false, not, ◌&&◌, ◌||◌, ◌⊎◌, inl, inr}
use Rattle.std.specs.Prelude.{nat_le, nat_lt}
use Rattle.std.specs.List.{AllByRecursion, list_any}
use Rattle.fleet_model.specs.Handles.{Handle}
use Rattle.fleet_model.specs.Nodes.{NodeName, Node, Segment, Tree, Trees, flushes_of, names, names_contain, runs_of}
use Rattle.sched_model.specs.Levels.{LevelOptions, LevelPicking, limit, node_size, pick_flushes, pick_flushes_into, pick_into_run, pick_pair, pick_runs, pick_trees, run_id, with_fresh_pick, with_level_pick}
use Rattle.sched_laws.proofs.Lists.{both_true}
use Rattle.sched_laws.proofs.Names.{In, in_append, in_cases}

-- None of these nodes is used.
abbrev pub Unused : List NodeName → LevelPicking → Type 0
Unused sources p = (x : NodeName) → In x sources → In x p.used → ⊥

none_used : (used sources : List NodeName) → not (list_any (names_contain used) sources) ≡ true → (x : NodeName) → In x sources → In x used → ⊥
none_used used [] none x h there = cc h
none_used used (y ∷ sources) none x h there = by (names_contain used y) refl none (in_cases x y sources h) (λ later h. none_used used sources later x h there)
  where
    by : (b : Bool) → names_contain used y ≡ b → not (b || list_any (names_contain used) sources) ≡ true → (y ≡ x) ⊎ In x sources
        → (not (list_any (names_contain used) sources) ≡ true → In x sources → ⊥) → ⊥
    by true e none at later = cc none
    by false e none (inl same) later = let used_too : names_contain used y ≡ true = subst (λ z. In z used) (sym same) there in cc (used_too, e)
    by false e none (inr h) later = later none h

neither_used : (used : List NodeName) (a b : NodeName) → not (names_contain used a || names_contain used b) ≡ true → (x : NodeName) → In x (a ∷ b ∷ []) → In x used → ⊥
neither_used used a b none = none_used used (a ∷ b ∷ []) (by (names_contain used a) (names_contain used b) none)
  where
    by : (p q : Bool) → not (p || q) ≡ true → not (p || (q || false)) ≡ true
    by true q e = e
    by false true e = e
    by false false e = e

unused_with : (used flushes : List NodeName) (run : NodeName) → ((x : NodeName) → In x flushes → In x used → ⊥) → names_contain used run ≡ false → (x : NodeName) → In x (flushes ++ run ∷ []) → In x used → ⊥
unused_with used flushes run none free x h there = by (in_append x flushes (run ∷ []) h)
  where
    one : (run ≡ x) ⊎ In x [] → ⊥
    one (inl same) = let used_too : names_contain used run ≡ true = subst (λ z. In z used) (sym same) there in cc (used_too, free)
    one (inr never) = cc never

    by : In x flushes ⊎ In x (run ∷ []) → ⊥
    by (inl front) = none x front there
    by (inr back) = one (in_cases x run [] back)

module _ (o : LevelOptions) (handles : List Handle) (F : Segment → Type 0) (P : LevelPicking → Type 0) where
  -- The property is kept by each pick in a tree of which the fact is known: of all flushes into the fresh run,
  -- of all flushes into the newest run, and of a run into the next one.
  pub record KeptByPicks : Type 0 where
    pub fresh : (s : Segment) → F s → (p : LevelPicking) → P p → nat_le o.l0_trigger (length (names (flushes_of s.tree))) ≡ true → Unused (names (flushes_of s.tree)) p
        → P (with_fresh_pick s.prefix (names (flushes_of s.tree)) p)
    pub newest : (s : Segment) → F s → (p : LevelPicking) → P p → (run : Node) (runs : Tree) → runs_of s.tree ≡ run ∷ runs → Unused (names (flushes_of s.tree) ++ run.name ∷ []) p
        → P (with_level_pick (record { segment = s.prefix; sources = names (flushes_of s.tree) ++ run.name ∷ []; destination = run_id run.name }) p)
    pub pair : (s : Segment) → F s → (p : LevelPicking) → P p → (before : Tree) (run next : Node) (after : Tree) → runs_of s.tree ≡ before ++ run ∷ next ∷ after → Unused (run.name ∷ next.name ∷ []) p
        → P (with_level_pick (record { segment = s.prefix; sources = run.name ∷ next.name ∷ []; destination = run_id next.name }) p)

  module _ (kept : KeptByPicks) (s : Segment) (fact : F s) where
    into_run_keeps : (run : Node) (runs : Tree) → runs_of s.tree ≡ run ∷ runs → (p : LevelPicking) → P p → Unused (names (flushes_of s.tree)) p → P (pick_into_run s.prefix (names (flushes_of s.tree)) run.name p)
    into_run_keeps run runs is p holds unused = by (names_contain p.used run.name) refl
      where
        by : (b : Bool) → names_contain p.used run.name ≡ b
            → P (cond b p (with_level_pick (record { segment = s.prefix; sources = names (flushes_of s.tree) ++ run.name ∷ []; destination = run_id run.name }) p))
        by true e = holds
        by false e = kept.newest s fact p holds run runs is (unused_with p.used (names (flushes_of s.tree)) run.name unused e)

    flushes_into_keeps : (p : LevelPicking) → P p → nat_le o.l0_trigger (length (names (flushes_of s.tree))) ≡ true → Unused (names (flushes_of s.tree)) p
        → P (pick_flushes_into o handles s.prefix (names (flushes_of s.tree)) (runs_of s.tree) p)
    flushes_into_keeps p holds many unused = by (runs_of s.tree) refl
      where
        by : (runs : Tree) → runs_of s.tree ≡ runs → P (pick_flushes_into o handles s.prefix (names (flushes_of s.tree)) runs p)
        by [] is = kept.fresh s fact p holds many unused
        by (run ∷ runs) is = small (nat_le (node_size handles run) o.base)
          where
            small : (b : Bool) → P (cond b (pick_into_run s.prefix (names (flushes_of s.tree)) run.name p) (with_fresh_pick s.prefix (names (flushes_of s.tree)) p))
            small true = into_run_keeps run runs is p holds unused
            small false = kept.fresh s fact p holds many unused

    flushes_keep : (p : LevelPicking) → P p → P (pick_flushes o handles s p)
    flushes_keep p holds = by (nat_le o.l0_trigger (length (names (flushes_of s.tree))) && not (list_any (names_contain p.used) (names (flushes_of s.tree)))) refl
      where
        by : (b : Bool) → (nat_le o.l0_trigger (length (names (flushes_of s.tree))) && not (list_any (names_contain p.used) (names (flushes_of s.tree)))) ≡ b
            → P (cond b (pick_flushes_into o handles s.prefix (names (flushes_of s.tree)) (runs_of s.tree) p) p)
        by true e =
            let tests = both_true (nat_le o.l0_trigger (length (names (flushes_of s.tree)))) (not (list_any (names_contain p.used) (names (flushes_of s.tree)))) e in
            flushes_into_keeps p holds tests.0 (none_used p.used (names (flushes_of s.tree)) tests.1)
        by false e = holds

    pair_keeps : (place : ℕ) (before : Tree) (run next : Node) (after : Tree) → runs_of s.tree ≡ before ++ run ∷ next ∷ after → (p : LevelPicking) → P p → P (pick_pair o handles s.prefix place run next p)
    pair_keeps place before run next after is p holds = by (nat_lt (limit o place) (node_size handles run) && not (names_contain p.used run.name || names_contain p.used next.name)) refl
      where
        by : (b : Bool) → (nat_lt (limit o place) (node_size handles run) && not (names_contain p.used run.name || names_contain p.used next.name)) ≡ b
            → P (cond b (with_level_pick (record { segment = s.prefix; sources = run.name ∷ next.name ∷ []; destination = run_id next.name }) p) p)
        by true e =
            let tests = both_true (nat_lt (limit o place) (node_size handles run)) (not (names_contain p.used run.name || names_contain p.used next.name)) e in
            kept.pair s fact p holds before run next after is (neither_used p.used run.name next.name tests.1)
        by false e = holds

    pub runs_keep : (place : ℕ) (before runs : Tree) → runs_of s.tree ≡ before ++ runs → (p : LevelPicking) → P p → P (pick_runs o handles s.prefix place runs p)
    runs_keep place before [] is p holds = holds
    runs_keep place before (run ∷ []) is p holds = holds
    runs_keep place before (run ∷ next ∷ runs) is p holds =
        runs_keep (place + 1) (before ++ run ∷ []) (next ∷ runs) (is ∙ sym (append_assoc before (run ∷ []) (next ∷ runs))) (pick_pair o handles s.prefix place run next p) (pair_keeps place before run next runs is p holds)

  pub picks_keep : KeptByPicks → (trees : Trees) → AllByRecursion F trees → (p : LevelPicking) → P p → P (pick_trees o handles trees p)
  picks_keep kept [] facts p holds = holds
  picks_keep kept (s ∷ trees) facts p holds =
      picks_keep kept trees facts.1 (pick_runs o handles s.prefix 0 (runs_of s.tree) (pick_flushes o handles s p))
      (runs_keep kept s facts.0 0 [] (runs_of s.tree) refl (pick_flushes o handles s p) (flushes_keep kept s facts.0 p holds))
