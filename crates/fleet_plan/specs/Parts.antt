-- One range of a job, and the tables that were written for it.
use Rattle.std.specs.Prelude.{ℕ, List}
use Rattle.fleet_range.specs.Ranges.{Ends}
use Rattle.fleet_tree.specs.declared.handle.SsTableHandle.{SsTableHandle}

-- What a `Subcompaction` shows: its range of keys, and the tables that were written for it so far.
pub record Part : Type 0 where
  pub range : Ends (List ℕ)
  pub output_ssts : List SsTableHandle
