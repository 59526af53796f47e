-- The state of a scan, and what holds inside it.
use Rattle.std.specs.Prelude.{Bool, true, false, ⊤}
use Rattle.row_model.specs.Rows.{IsStrictlyOrdered}
use Rattle.row_model.specs.Fold.{Operator}
use Rattle.fleet_iter.specs.Iteration.{IteratorState}
use Rattle.fleet_scan.specs.Answered.{Scanning}
use Rattle.fleet_scan.specs.Answers.{answers_of}
use Rattle.fleet_scan.specs.Walk.{IsReading}
use Rattle.fleet_scan.specs.declared.key_rows.ReadPoint.{ReadPoint}

-- The answers of the rows left.
abbrev pub scanning : (merge : Operator) (point : ReadPoint) (rows : IteratorState) (failed : Bool) → Scanning
scanning merge point rows failed =
    record { left = answers_of merge point.seq point.moment rows.rows; failed = failed }

-- The rows left can be read, and are in order.
pub record ReadsOn (rows : IteratorState) : Type 0 where
  pub reading : IsReading rows
  pub ordered : IsStrictlyOrdered rows.rows

-- What holds of the rows left until a call fails the scan.
abbrev pub Holds : Bool → IteratorState → Type 0
Holds true rows = ⊤
Holds false rows = ReadsOn rows
