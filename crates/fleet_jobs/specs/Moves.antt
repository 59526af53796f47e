-- The run of a move, which is made of tables as they are.
use Rattle.std.specs.Prelude.{ℕ, Bool, true, not, ◌&&◌, List, [], ◌∷◌, Option, Some, None, is_some, if◌then◌else◌}
use Rattle.std.specs.Ordering.{is_lt}
use Rattle.row_model.specs.Rows.{key_cmp}
use Rattle.fleet_model.specs.Work.Gates.{is_nonempty}
use Rattle.fleet_range.specs.Ranges.{intersection}
use Rattle.fleet_tree.specs.Views.{View, key_range}
use Rattle.fleet_tree.specs.declared.run.SortedRun.{SortedRun}

-- Inserts a table in front of the first table whose first key is not below its own.
abbrev pub put_view : View → List View → List View
put_view view [] = view ∷ []
put_view view (other ∷ others) = if is_lt (key_cmp other.sst.first_key view.sst.first_key)
    then other ∷ put_view view others else view ∷ other ∷ others

-- The tables by rising first key. Tables with one first key keep their order.
abbrev pub by_start : List View → List View
by_start [] = []
by_start (view ∷ views) = put_view view (by_start views)

-- True if the ranges of keys of two tables intersect.
abbrev pub intersect : (a b : View) → Bool
intersect a b = is_some (intersection key_cmp (key_range a.sst) (key_range b.sst))

-- True if no table's range intersects the next one's.
abbrev pub are_disjoint : List View → Bool
are_disjoint [] = true
are_disjoint (a ∷ []) = true
are_disjoint (a ∷ b ∷ views) = not (intersect a b) && are_disjoint (b ∷ views)

-- The run with this id that is made of these tables as they are, in their order. It is None if there are no
-- tables, or if two neighbours' ranges intersect.
abbrev pub run_of_disjoint : ℕ → List View → Option SortedRun
run_of_disjoint id views =
    if is_nonempty views && are_disjoint views then Some (record { id = id; views = views }) else None

-- The run that a move makes of these tables, by rising first key. A drain, which has no destination, makes
-- none.
abbrev pub moved_run : Option ℕ → List View → Option SortedRun
moved_run None views = None
moved_run (Some id) views = run_of_disjoint id (by_start views)
