-- The runs that are left to look at.
use Rattle.std.proofs.Common.{◌≡◌, refl, sym, ap, subst, ℕ, ◌+◌, ◌-◌, List, [], ◌∷◌, length, map, arith}
use Rattle.fleet_model.specs.Handles.{Handle}
use Rattle.sched_model.specs.Levels.{LevelOptions, LevelPicking, pick_pair, pick_runs}
use Rattle.fleet_tree.specs.Trees.{run_node}
use Rattle.fleet_tree.specs.declared.run.SortedRun.{SortedRun}
use Rattle.fleet_level.specs.Picks.{SamePicks}
use Rattle.fleet_level.proofs.SamePicks.{runs_same, same_picks, then_same}

module _ (o : LevelOptions) (handles : List Handle) (flushes : ℕ → List ℕ) (segment : List ℕ) where
  -- The picks from a run on, which stands at a place.
  abbrev pub picks_from : ℕ → List SortedRun → LevelPicking → LevelPicking
  picks_from i runs p = pick_runs o handles segment i (map (run_node flushes) runs) p

  -- The first run was read, and none was looked at.
  pub begins : (run : SortedRun) (left all : List SortedRun) (p : LevelPicking) → all ≡ run ∷ left
      → SamePicks (picks_from (length all - (1 + length left)) (run ∷ left) p) (picks_from 0 all p)
  begins run left all p is =
      let count = ap (λ (runs : List SortedRun). length runs) is in
      let place : length all - (1 + length left) ≡ 0 = omega (arith, count) in
      subst (λ n. SamePicks (picks_from n (run ∷ left) p) (picks_from 0 all p)) (sym place)
      (subst (λ (runs : List SortedRun). SamePicks (picks_from 0 (run ∷ left) p) (picks_from 0 runs p)) (sym is) (same_picks (picks_from 0 (run ∷ left) p)))

  -- One run more was looked at.
  pub looked_at : (i : ℕ) (run next : SortedRun) (rest : List SortedRun) (now made all : LevelPicking) → SamePicks (picks_from i (run ∷ next ∷ rest) now) all
      → SamePicks made (pick_pair o handles segment i (run_node flushes run) (run_node flushes next) now) → SamePicks (picks_from (i + 1) (next ∷ rest) made) all
  looked_at i run next rest now made all so step =
      then_same (runs_same o handles segment (i + 1) (map (run_node flushes) (next ∷ rest)) made (pick_pair o handles segment i (run_node flushes run) (run_node flushes next) now) step) so
