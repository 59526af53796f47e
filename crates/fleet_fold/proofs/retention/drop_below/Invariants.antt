use Rattle.std.proofs.Common.{◌≡◌, vec_len}
use Rattle.std.specs.Prelude.{reverse}
use Rattle.fleet_rows.specs.Row.{rows_of}
use Rattle.fleet_iter.specs.Iteration.{from_key}
use Rattle.fleet_fold.proofs.retention.drop_below.Given as goal

abbrev pub invariant-below : goal.invariant-below
invariant-below l = from_key l.key (rows_of (reverse l.buffer.items)) ≡ from_key l.key (rows_of (reverse l.fn.buffer.items))

abbrev pub decreases-below : goal.decreases-below
decreases-below l = vec_len l.buffer
