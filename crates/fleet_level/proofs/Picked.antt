-- The picks of a program, exit by exit.
use Rattle.std.proofs.Common.{◌≡◌, refl, sym, ◌∙◌, ap, subst, ℕ, ◌+◌, ◌<◌, ◌≤◌, List, [], ◌∷◌, ◌++◌, cond, Bool, true, false, not, length}
use Rattle.std.specs.Prelude.{Some, nat_le, nat_lt, ◌&&◌, ◌||◌}
use Rattle.std.specs.List.{list_any}
use Rattle.std.proofs.lemmas.Bool.{le-leb, lt-leb, lt-ltb, le-ltb}
use Rattle.fleet_model.specs.Handles.{Handle}
use Rattle.fleet_model.specs.Jobs.{JobSpec, nodes_of}
use Rattle.fleet_model.specs.Nodes.{NodeName, Node, Segment, Tree, flushes_of, names, names_contain, runs_of}
use Rattle.sched_model.specs.FreshRuns.{capped_id}
use Rattle.sched_model.specs.Levels.{LevelOptions, LevelPicking, limit, node_size, pick_flushes, pick_flushes_into, pick_into_run, pick_pair, run_id, with_fresh_pick, with_level_pick}
use Rattle.fleet_level.specs.Picks.{SamePicks}
use Rattle.fleet_level.proofs.SamePicks.{same_picks, swapped}

-- A pick was added, and its nodes after the others.
pub added : (spec : JobSpec) (old new : LevelPicking) → new.used ≡ old.used ++ nodes_of spec → new.fresh ≡ old.fresh → new.picks ≡ old.picks ++ spec ∷ [] → SamePicks new (with_level_pick spec old)
added spec old new used fresh picks = record { used = λ name. ap (λ l. names_contain l name) used ∙ swapped old.used (nodes_of spec) name; fresh = fresh; picks = picks }

-- After the pick into the fresh run the next id is higher.
pub raised : (segment : List ℕ) (sources : List NodeName) (old mid new : LevelPicking) → SamePicks mid (with_level_pick (record { segment = segment; sources = sources; destination = Some old.fresh }) old)
    → new.used ≡ mid.used → new.fresh ≡ capped_id (mid.fresh + 1) → new.picks ≡ mid.picks → SamePicks new (with_fresh_pick segment sources old)
raised segment sources old mid new same used fresh picks = record {
  used = λ name. ap (λ l. names_contain l name) used ∙ same.used name;
  fresh = fresh ∙ ap (λ id. capped_id (id + 1)) same.fresh;
  picks = picks ∙ same.picks;
}

-- The picks are those that a test chooses.
pub chose_first : (p first second : LevelPicking) (test : Bool) → test ≡ true → SamePicks p first → SamePicks p (cond test first second)
chose_first p first second test is same = subst (λ b. SamePicks p (cond b first second)) (sym is) same

pub chose_second : (p first second : LevelPicking) (test : Bool) → test ≡ false → SamePicks p second → SamePicks p (cond test first second)
chose_second p first second test is same = subst (λ b. SamePicks p (cond b first second)) (sym is) same

module _ (segment : List ℕ) where
  -- Flushes went into a run, or did not since the run is used.
  pub went_into : (flushes : List NodeName) (run : NodeName) (old new : LevelPicking) → names_contain old.used run ≡ false
      → SamePicks new (with_level_pick (record { segment = segment; sources = flushes ++ run ∷ []; destination = run_id run }) old) → SamePicks new (pick_into_run segment flushes run old)
  went_into flushes run old new free same = chose_second new old (with_level_pick (record { segment = segment; sources = flushes ++ run ∷ []; destination = run_id run }) old) (names_contain old.used run) free same

  pub stayed_out : (flushes : List NodeName) (run : NodeName) (old : LevelPicking) → names_contain old.used run ≡ true → SamePicks old (pick_into_run segment flushes run old)
  stayed_out flushes run old used = chose_first old old (with_level_pick (record { segment = segment; sources = flushes ++ run ∷ []; destination = run_id run }) old) (names_contain old.used run) used (same_picks old)

module _ (o : LevelOptions) (handles : List Handle) (segment : List ℕ) where
  -- Flushes went into the newest run, or into a fresh one.
  pub into_newest : (flushes : List NodeName) (run : Node) (runs : Tree) (size : ℕ) (old new : LevelPicking) → size ≡ node_size handles run → size ≤ o.base → SamePicks new (pick_into_run segment flushes run.name old)
      → SamePicks new (pick_flushes_into o handles segment flushes (run ∷ runs) old)
  into_newest flushes run runs size old new is small same =
      chose_first new (pick_into_run segment flushes run.name old) (with_fresh_pick segment flushes old) (nat_le (node_size handles run) o.base) (ap (λ n. nat_le n o.base) (sym is) ∙ le-leb size o.base small) same

  pub into_fresh : (flushes : List NodeName) (run : Node) (runs : Tree) (size : ℕ) (old new : LevelPicking) → size ≡ node_size handles run → o.base < size → SamePicks new (with_fresh_pick segment flushes old)
      → SamePicks new (pick_flushes_into o handles segment flushes (run ∷ runs) old)
  into_fresh flushes run runs size old new is large same =
      chose_second new (pick_into_run segment flushes run.name old) (with_fresh_pick segment flushes old) (nat_le (node_size handles run) o.base) (ap (λ n. nat_le n o.base) (sym is) ∙ lt-leb size o.base large) same

  -- A run went into the next one, or did not since it is within its limit or one of both is used.
  abbrev pair_spec : Node → Node → JobSpec
  pair_spec run next = record { segment = segment; sources = run.name ∷ next.name ∷ []; destination = run_id next.name }

  pub pair_went : (place : ℕ) (run next : Node) (most size : ℕ) (old new : LevelPicking) → most ≡ limit o place → size ≡ node_size handles run → most < size
      → (names_contain old.used run.name || names_contain old.used next.name) ≡ false → SamePicks new (with_level_pick (pair_spec run next) old) → SamePicks new (pick_pair o handles segment place run next old)
  pair_went place run next most size old new at is above free same =
      chose_first new (with_level_pick (pair_spec run next) old) old (nat_lt (limit o place) (node_size handles run) && not (names_contain old.used run.name || names_contain old.used next.name))
      (ap (λ n. nat_lt n (node_size handles run) && not (names_contain old.used run.name || names_contain old.used next.name)) (sym at)
      ∙ ap (λ n. nat_lt most n && not (names_contain old.used run.name || names_contain old.used next.name)) (sym is)
      ∙ ap (λ b. b && not (names_contain old.used run.name || names_contain old.used next.name)) (lt-ltb most size above)
      ∙ ap not free) same

  pub pair_is_small : (place : ℕ) (run next : Node) (most size : ℕ) (old : LevelPicking) → most ≡ limit o place → size ≡ node_size handles run → size ≤ most → SamePicks old (pick_pair o handles segment place run next old)
  pair_is_small place run next most size old at is small =
      chose_second old (with_level_pick (pair_spec run next) old) old (nat_lt (limit o place) (node_size handles run) && not (names_contain old.used run.name || names_contain old.used next.name))
      (ap (λ n. nat_lt n (node_size handles run) && not (names_contain old.used run.name || names_contain old.used next.name)) (sym at)
      ∙ ap (λ n. nat_lt most n && not (names_contain old.used run.name || names_contain old.used next.name)) (sym is)
      ∙ ap (λ b. b && not (names_contain old.used run.name || names_contain old.used next.name)) (le-ltb most size small)) (same_picks old)

  pub pair_is_used : (place : ℕ) (run next : Node) (old : LevelPicking) → (names_contain old.used run.name || names_contain old.used next.name) ≡ true → SamePicks old (pick_pair o handles segment place run next old)
  pair_is_used place run next old used =
      chose_second old (with_level_pick (pair_spec run next) old) old (nat_lt (limit o place) (node_size handles run) && not (names_contain old.used run.name || names_contain old.used next.name))
      (ap (λ b. nat_lt (limit o place) (node_size handles run) && not b) used ∙ by (nat_lt (limit o place) (node_size handles run))) (same_picks old)
    where
      by : (b : Bool) → (b && false) ≡ false
      by true = refl
      by false = refl

-- The flushes of a tree were picked, or were not since they are too few or one of them is used.
module _ (o : LevelOptions) (handles : List Handle) (s : Segment) (flushes : List NodeName) (are : names (flushes_of s.tree) ≡ flushes) where
  abbrev flush_test : LevelPicking → Bool
  flush_test p = nat_le o.l0_trigger (length flushes) && not (list_any (names_contain p.used) flushes)

  over_these : (old new : LevelPicking) → SamePicks new (cond (flush_test old) (pick_flushes_into o handles s.prefix flushes (runs_of s.tree) old) old) → SamePicks new (pick_flushes o handles s old)
  over_these old new same =
      subst (λ names. SamePicks new (cond (nat_le o.l0_trigger (length names) && not (list_any (names_contain old.used) names)) (pick_flushes_into o handles s.prefix names (runs_of s.tree) old) old)) (sym are) same

  pub flushes_went : (old new : LevelPicking) → o.l0_trigger ≤ length flushes → list_any (names_contain old.used) flushes ≡ false → SamePicks new (pick_flushes_into o handles s.prefix flushes (runs_of s.tree) old)
      → SamePicks new (pick_flushes o handles s old)
  flushes_went old new many free same =
      over_these old new
      (chose_first new (pick_flushes_into o handles s.prefix flushes (runs_of s.tree) old) old (flush_test old)
      (ap (λ b. b && not (list_any (names_contain old.used) flushes)) (le-leb o.l0_trigger (length flushes) many) ∙ ap not free) same)

  pub flushes_are_few : (old : LevelPicking) → length flushes < o.l0_trigger → SamePicks old (pick_flushes o handles s old)
  flushes_are_few old few =
      over_these old old
      (chose_second old (pick_flushes_into o handles s.prefix flushes (runs_of s.tree) old) old (flush_test old)
      (ap (λ b. b && not (list_any (names_contain old.used) flushes)) (lt-leb o.l0_trigger (length flushes) few)) (same_picks old))

  pub flushes_are_used : (old : LevelPicking) → list_any (names_contain old.used) flushes ≡ true → SamePicks old (pick_flushes o handles s old)
  flushes_are_used old used =
      over_these old old
      (chose_second old (pick_flushes_into o handles s.prefix flushes (runs_of s.tree) old) old (flush_test old)
      (ap (λ b. nat_le o.l0_trigger (length flushes) && not b) used ∙ by (nat_le o.l0_trigger (length flushes))) (same_picks old))
    where
      by : (b : Bool) → (b && false) ≡ false
      by true = refl
      by false = refl
