-- The size of a run in bytes: the sum of its tables' sizes, which stops at 2^64 - 1.
use Rattle.std.specs.Prelude.{ℕ, List, sum_by}
use Rattle.row_model.specs.Written.Sizes.{saturated_sum}
use Rattle.fleet_tree.specs.Views.{View}

abbrev pub run_size : List View → ℕ
run_size views = saturated_sum (sum_by (λ view. view.sst.size) views)
