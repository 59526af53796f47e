-- The bounds of a `StartBound`, of an `EndBound` and of a `ComparableRange`.
use Rattle.std.specs.declared.ops.Bound.{Bound}
use Rattle.fleet_range.specs.Ranges.{Ends}
use Rattle.fleet_range.specs.declared.start_bound.StartBound.{StartBound}
use Rattle.fleet_range.specs.declared.end_bound.EndBound.{EndBound}
use Rattle.fleet_range.specs.declared.comparable_range.ComparableRange.{ComparableRange}

abbrev pub start_of : {K : Type 0} → StartBound K → Bound K
start_of start = start.bound

abbrev pub end_of : {K : Type 0} → EndBound K → Bound K
end_of end = end.bound

abbrev pub ends_of : {K : Type 0} → ComparableRange K → Ends K
ends_of range = (range.start.bound, range.end.bound)
