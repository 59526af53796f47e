-- How an error of a merge operator or of a compaction filter becomes an error of the fleet.
use Rattle.fleet_rows.specs.declared.errors.MergeOperatorError.{MergeOperatorError}
use Rattle.fleet_rows.specs.declared.errors.MergeOperatorError.TheVariants as merge
use Rattle.fleet_rows.specs.declared.errors.CompactionFilterError.{CompactionFilterError}
use Rattle.fleet_rows.specs.declared.errors.CompactionFilterError.TheVariants as filter
use Rattle.fleet_rows.specs.declared.errors.SlateDBError.{SlateDBError}
use Rattle.fleet_rows.specs.declared.errors.SlateDBError.TheVariants.{MergeOperator, CompactionFilter, Memory}

-- The error of the fleet for an error of a merge operator. `Memory` stays `Memory`.
abbrev pub raised_error : MergeOperatorError → SlateDBError
raised_error merge.EmptyBatch = MergeOperator merge.EmptyBatch
raised_error (merge.Callback message) = MergeOperator (merge.Callback message)
raised_error merge.Memory = Memory

-- The error of the fleet for an error of a compaction filter. `Memory` stays `Memory`.
abbrev pub raised_by_filter : CompactionFilterError → SlateDBError
raised_by_filter (filter.CreationError text) = CompactionFilter (filter.CreationError text)
raised_by_filter (filter.FilterError text) = CompactionFilter (filter.FilterError text)
raised_by_filter (filter.CompactionEndError text) = CompactionFilter (filter.CompactionEndError text)
raised_by_filter filter.Memory = Memory
