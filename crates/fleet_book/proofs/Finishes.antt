-- Finishes of jobs: where their runs go.
use Rattle.std.proofs.Common.{◌≡◌, refl, ◌∙◌, ap, suc, ◌+◌, List, [], ◌∷◌, ◌++◌, take, drop, Bool, true, false, cond, not, arith}
use Rattle.std.specs.Prelude.{ℕ, nat_lt}
use Rattle.std.specs.List.{prefix_len}
use Rattle.fleet_tree.specs.declared.run.SortedRun.{SortedRun}
use Rattle.fleet_book.specs.Finishes.{put_run}

-- How many runs at the front have ids that are not below this one.
abbrev pub place_of : ℕ → List SortedRun → ℕ
place_of id runs = prefix_len (λ run. not (nat_lt run.id id)) runs

pub put_run_is : (run : SortedRun) (runs : List SortedRun) → take (place_of run.id runs) runs ++ run ∷ drop (place_of run.id runs) runs ≡ put_run run runs
put_run_is run [] = refl
put_run_is run (other ∷ others) = by (nat_lt other.id run.id) (put_run_is run others)
  where
    by : (b : Bool) → take (place_of run.id others) others ++ run ∷ drop (place_of run.id others) others ≡ put_run run others
        → take (cond (not b) (1 + place_of run.id others) 0) (other ∷ others) ++ run ∷ drop (cond (not b) (1 + place_of run.id others) 0) (other ∷ others) ≡ cond b (run ∷ other ∷ others) (other ∷ put_run run others)
    by true rest = refl
    by false rest =
        let e : 1 + place_of run.id others ≡ suc (place_of run.id others) = omega arith in
        ap (λ m. take m (other ∷ others) ++ run ∷ drop m (other ∷ others)) e ∙ ap (λ os. other ∷ os) rest
