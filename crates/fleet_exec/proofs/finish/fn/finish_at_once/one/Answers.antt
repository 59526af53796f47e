use Rattle.std.proofs.Common.{rules, ◌≡◌, subst, get_or}
use Rattle.fleet_exec.specs.Cut.{FinishesRange}
use Rattle.fleet_exec.specs.declared.range_job.RangeJob.{RangeJob}
use Rattle.fleet_exec.proofs.Finished.{same_within, finishes_from}
use Rattle.fleet_exec.proofs.finish.fn.finish_at_once.one.Goals as goal

pub returns : goal.returns
returns g c job =
    let folds = g.O.MergeOperator.merged (g.O.MergeOperator.settings c.captures.operator.now) in
    let sources = c.captures.sources.now in
    let here = c.index-jobs-i.result in
    let is : here ≡ get_or c.captures.jobs.now c.args.i here = search rules in
    let A : RangeJob → _ = λ j. FinishesRange folds sources c.captures.size j c.finish_range.result in
    subst A (same_within c.captures.jobs.now c.args.i here job c.requires.0 is) (finishes_from folds sources c.captures.size here c.finish_range.result c.finish_range.ensures.ok c.finish_range.ensures.err)
