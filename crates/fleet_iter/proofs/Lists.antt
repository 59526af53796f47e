-- Iterators that hold all their rows.
use Rattle.std.proofs.Common.{◌≡◌, refl, ap, List, [], ◌∷◌, map}
use Rattle.std.specs.List.{AllByRecursion}
use Rattle.row_model.specs.Rows.{Row}
use Rattle.fleet_iter.specs.Iteration.{AreRising}
use Rattle.fleet_iter.specs.List.{Listed, giving_state}
use Rattle.fleet_iter.specs.Merge.{NoneFailed, rows_left}

pub none_failed : (ls : List Listed) → NoneFailed (map giving_state ls)
none_failed [] = tt
none_failed (l ∷ ls) = (refl, none_failed ls)

pub rows_of_lists : (ls : List Listed) → rows_left (map giving_state ls) ≡ map (λ l. l.rows) ls
rows_of_lists [] = refl
rows_of_lists (l ∷ ls) = ap (λ (w : List (List Row)). l.rows ∷ w) (rows_of_lists ls)

pub rising_rows : (ls : List Listed) → AllByRecursion (λ l. AreRising l.rows) ls → AllByRecursion AreRising (map (λ l. l.rows) ls)
rising_rows [] h = tt
rising_rows (l ∷ ls) h = (h.0, rising_rows ls h.1)
