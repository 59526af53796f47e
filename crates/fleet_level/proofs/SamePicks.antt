-- The order of the used nodes changes no pick.
use Rattle.std.proofs.Common.{◌≡◌, refl, sym, ◌∙◌, ap, ℕ, ◌+◌, List, [], ◌∷◌, ◌++◌, cond, Bool, true, false, not}
use Rattle.std.specs.Prelude.{Some, nat_le, nat_lt, ◌&&◌, ◌||◌, length}
use Rattle.std.specs.List.{list_any}
use Rattle.fleet_model.specs.Handles.{Handle}
use Rattle.fleet_model.specs.Jobs.{JobSpec, nodes_of}
use Rattle.fleet_model.specs.Nodes.{NodeName, Node, Segment, Tree, Trees, flushes_of, name_eq, names, names_contain, runs_of}
use Rattle.sched_model.specs.FreshRuns.{capped_id}
use Rattle.sched_model.specs.Levels.{LevelOptions, LevelPicking, limit, node_size, pick_flushes, pick_flushes_into, pick_into_run, pick_pair, pick_runs, pick_trees, run_id, with_fresh_pick, with_level_pick}
use Rattle.fleet_level.specs.Picks.{SamePicks}

-- The lists have the same names.
abbrev pub SameNames : List NodeName → List NodeName → Type 0
SameNames xs ys = (name : NodeName) → names_contain xs name ≡ names_contain ys name

pub same_picks : (p : LevelPicking) → SamePicks p p
same_picks p = record { used = λ name. refl; fresh = refl; picks = refl }

pub then_same : {a b c : LevelPicking} → SamePicks a b → SamePicks b c → SamePicks a c
then_same one two = record { used = λ name. one.used name ∙ two.used name; fresh = one.fresh ∙ two.fresh; picks = one.picks ∙ two.picks }

contain-append : (xs ys : List NodeName) (name : NodeName) → names_contain (xs ++ ys) name ≡ (names_contain xs name || names_contain ys name)
contain-append [] ys name = refl
contain-append (x ∷ xs) ys name = by (name_eq x name) (contain-append xs ys name)
  where
    by : (b : Bool) → names_contain (xs ++ ys) name ≡ (names_contain xs name || names_contain ys name)
        → cond b true (names_contain (xs ++ ys) name) ≡ (cond b true (names_contain xs name) || names_contain ys name)
    by true later = refl
    by false later = later

-- The order of two lists does not change which names they have.
pub swapped : (xs ys : List NodeName) → SameNames (xs ++ ys) (ys ++ xs)
swapped xs ys name = contain-append xs ys name ∙ either (names_contain xs name) (names_contain ys name) ∙ sym (contain-append ys xs name)
  where
    either : (a b : Bool) → (a || b) ≡ (b || a)
    either true true = refl
    either true false = refl
    either false true = refl
    either false false = refl

same_after : (nodes xs ys : List NodeName) → SameNames xs ys → SameNames (nodes ++ xs) (nodes ++ ys)
same_after [] xs ys same name = same name
same_after (node ∷ nodes) xs ys same name = ap (cond (name_eq node name) true) (same_after nodes xs ys same name)

any_same : (xs ys names : List NodeName) → SameNames xs ys → list_any (names_contain xs) names ≡ list_any (names_contain ys) names
any_same xs ys [] same = refl
any_same xs ys (name ∷ names) same = by (names_contain xs name) (names_contain ys name) (same name) (any_same xs ys names same)
  where
    by : (s t : Bool) → s ≡ t → list_any (names_contain xs) names ≡ list_any (names_contain ys) names
        → (s || list_any (names_contain xs) names) ≡ (t || list_any (names_contain ys) names)
    by s t e later = ap (λ b. b || list_any (names_contain xs) names) e ∙ ap (λ b. t || b) later

-- Equal tests choose picks that are the same.
chosen : {a b c d : LevelPicking} (s t : Bool) → s ≡ t → SamePicks a b → SamePicks c d → SamePicks (cond s a c) (cond t b d)
chosen true true e first second = first
chosen true false e first second = absurd (cc e)
chosen false true e first second = absurd (cc e)
chosen false false e first second = second

pub with_pick_same : (spec : JobSpec) (a b : LevelPicking) → SamePicks a b → SamePicks (with_level_pick spec a) (with_level_pick spec b)
with_pick_same spec a b same = record {
  used = same_after (nodes_of spec) a.used b.used same.used;
  fresh = same.fresh;
  picks = ap (λ l. l ++ spec ∷ []) same.picks;
}

fresh_pick_same : (segment : List ℕ) (sources : List NodeName) (a b : LevelPicking) → SamePicks a b → SamePicks (with_fresh_pick segment sources a) (with_fresh_pick segment sources b)
fresh_pick_same segment sources a b same =
    let spec : ℕ → JobSpec = λ fresh. record { segment = segment; sources = sources; destination = Some fresh } in
    record {
      used = λ name. ap (λ fresh. names_contain (nodes_of (spec fresh) ++ a.used) name) same.fresh ∙ same_after (nodes_of (spec b.fresh)) a.used b.used same.used name;
      fresh = ap (λ id. capped_id (id + 1)) same.fresh;
      picks = ap (λ fresh. a.picks ++ spec fresh ∷ []) same.fresh ∙ ap (λ l. l ++ spec b.fresh ∷ []) same.picks;
    }

module _ (o : LevelOptions) (handles : List Handle) where
  into_run_same : (segment : List ℕ) (flushes : List NodeName) (run : NodeName) (a b : LevelPicking) → SamePicks a b → SamePicks (pick_into_run segment flushes run a) (pick_into_run segment flushes run b)
  into_run_same segment flushes run a b same =
      chosen (names_contain a.used run) (names_contain b.used run) (same.used run) same
      (with_pick_same (record { segment = segment; sources = flushes ++ run ∷ []; destination = run_id run }) a b same)

  flushes_into_same : (segment : List ℕ) (flushes : List NodeName) (runs : Tree) (a b : LevelPicking) → SamePicks a b
      → SamePicks (pick_flushes_into o handles segment flushes runs a) (pick_flushes_into o handles segment flushes runs b)
  flushes_into_same segment flushes [] a b same = fresh_pick_same segment flushes a b same
  flushes_into_same segment flushes (run ∷ runs) a b same =
      chosen (nat_le (node_size handles run) o.base) (nat_le (node_size handles run) o.base) refl (into_run_same segment flushes run.name a b same) (fresh_pick_same segment flushes a b same)

  pub flushes_same : (s : Segment) (a b : LevelPicking) → SamePicks a b → SamePicks (pick_flushes o handles s a) (pick_flushes o handles s b)
  flushes_same s a b same =
      let flushes = names (flushes_of s.tree) in
      chosen (nat_le o.l0_trigger (length flushes) && not (list_any (names_contain a.used) flushes)) (nat_le o.l0_trigger (length flushes) && not (list_any (names_contain b.used) flushes))
      (ap (λ any. nat_le o.l0_trigger (length flushes) && not any) (any_same a.used b.used flushes same.used))
      (flushes_into_same s.prefix flushes (runs_of s.tree) a b same) same

  pair_same : (segment : List ℕ) (place : ℕ) (run next : Node) (a b : LevelPicking) → SamePicks a b → SamePicks (pick_pair o handles segment place run next a) (pick_pair o handles segment place run next b)
  pair_same segment place run next a b same =
      let above = nat_lt (limit o place) (node_size handles run) in
      chosen (above && not (names_contain a.used run.name || names_contain a.used next.name)) (above && not (names_contain b.used run.name || names_contain b.used next.name))
      (ap (λ t. above && not (t || names_contain a.used next.name)) (same.used run.name) ∙ ap (λ t. above && not (names_contain b.used run.name || t)) (same.used next.name))
      (with_pick_same (record { segment = segment; sources = run.name ∷ next.name ∷ []; destination = run_id next.name }) a b same) same

  pub runs_same : (segment : List ℕ) (place : ℕ) (runs : Tree) (a b : LevelPicking) → SamePicks a b → SamePicks (pick_runs o handles segment place runs a) (pick_runs o handles segment place runs b)
  runs_same segment place [] a b same = same
  runs_same segment place (run ∷ []) a b same = same
  runs_same segment place (run ∷ next ∷ runs) a b same =
      runs_same segment (place + 1) (next ∷ runs) (pick_pair o handles segment place run next a) (pick_pair o handles segment place run next b) (pair_same segment place run next a b same)

  pub trees_same : (trees : Trees) (a b : LevelPicking) → SamePicks a b → SamePicks (pick_trees o handles trees a) (pick_trees o handles trees b)
  trees_same [] a b same = same
  trees_same (s ∷ trees) a b same =
      trees_same trees (pick_runs o handles s.prefix 0 (runs_of s.tree) (pick_flushes o handles s a)) (pick_runs o handles s.prefix 0 (runs_of s.tree) (pick_flushes o handles s b))
      (runs_same s.prefix 0 (runs_of s.tree) (pick_flushes o handles s a) (pick_flushes o handles s b) (flushes_same s a b same))
