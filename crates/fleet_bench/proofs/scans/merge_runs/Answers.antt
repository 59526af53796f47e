use Rattle.std.proofs.Common.{sym, subst}
use Rattle.fleet_iter.specs.Merge.{NoneFailed}
use Rattle.fleet_range.specs.Keys.{range_of}
use Rattle.fleet_exec.proofs.Opened.{none_failed}
use Rattle.fleet_bench.proofs.scans.merge_runs.Goals as goal

pub new-requires-clause-alive : goal.new-requires-clause-alive
new-requires-clause-alive c _ = subst NoneFailed (sym c.in_ok-iterators.ensures.rows) (none_failed (range_of c.args.range.now) c.as_slice.result.now)
