-- Runs whose ids fall.
use Rattle.std.specs.Prelude.{ℕ, Bool, true, ◌&&◌, nat_lt, take, drop, List, [], ◌∷◌, Option, Some, None}
use Rattle.fleet_tree.specs.declared.run.SortedRun.{SortedRun}

-- True if the first of these runs has a lower id than the given run, or if there is none.
abbrev pub is_above_first : SortedRun → List SortedRun → Bool
is_above_first run [] = true
is_above_first run (next ∷ runs) = nat_lt next.id run.id

-- True if the ids of the runs fall strictly.
abbrev pub are_falling : List SortedRun → Bool
are_falling [] = true
are_falling (run ∷ runs) = is_above_first run runs && are_falling runs

-- True if the last of these runs has a higher id than the given run, or if there is none.
abbrev pub is_below_last : SortedRun → List SortedRun → Bool
is_below_last run [] = true
is_below_last run (last ∷ []) = nat_lt run.id last.id
is_below_last run (other ∷ next ∷ runs) = is_below_last run (next ∷ runs)

-- True if the run, if one is given, is below the run before `start`, and above the one at `end`.
abbrev pub fits_between : List SortedRun → (start end : ℕ) → Option SortedRun → Bool
fits_between runs start end None = true
fits_between runs start end (Some run) = is_below_last run (take start runs) && is_above_first run (drop end runs)

-- True if the run has a lower id than the one before it, or if there is none.
abbrev pub is_below_one : SortedRun → Option SortedRun → Bool
is_below_one run None = true
is_below_one run (Some last) = nat_lt run.id last.id

-- True if the run has a higher id than the one after it, or if there is none.
abbrev pub is_above_one : SortedRun → Option SortedRun → Bool
is_above_one run None = true
is_above_one run (Some next) = nat_lt next.id run.id
