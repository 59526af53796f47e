use Rattle.std.proofs.Common.{sym, ap, subst}
use Rattle.row_model.specs.Rows.{IsStrictlyOrdered}
use Rattle.fleet_iter.specs.Iteration.{IteratorState}
use Rattle.fleet_range.specs.Keys.{range_of}
use Rattle.fleet_exec.proofs.Opened.{from_ordered}
use Rattle.fleet_exec.proofs.open.open_range.Goals as goal

pub job_iterator-requires-clause-ordered : goal.job_iterator-requires-clause-ordered
job_iterator-requires-clause-ordered g c _ _ =
    let job = c.args.job.now in
    subst IsStrictlyOrdered (sym (ap (λ (s : IteratorState). s.rows) c.in_ok-rows.ensures.rows)) (from_ordered (range_of job.range) job.cursor c.args.sources.now c.requires)
