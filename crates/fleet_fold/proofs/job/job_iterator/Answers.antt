use Rattle.std.proofs.Common.{◌∙◌, sym, ap, subst}
use Rattle.fleet_iter.specs.Iteration.{IteratorState}
use Rattle.fleet_rows.specs.Settings.{settings_of}
use Rattle.fleet_fold.specs.Jobs.{GivesJob}
use Rattle.fleet_fold.specs.Retention.{kept_given}
use Rattle.fleet_fold.proofs.JobsGiven.{gives_job, keeps_reads}
use Rattle.fleet_fold.proofs.job.job_iterator.Goals as goal

pub returns-clause-job : goal.returns-clause-job
returns-clause-job g c =
    let merge = g.O.MergeOperator.merged (g.O.MergeOperator.settings c.args.operator.now) in
    let inner = g.T.RowEntryIterator.state c.args.rows in
    let settings = settings_of c.args.settings in
    let same = c.new.ensures.rows ∙ ap (λ (t : IteratorState). record t { rows = kept_given settings t.whole t.rows }) c.new-folded.ensures.rows in
    subst (λ (t : IteratorState). GivesJob merge settings inner.rows t) (sym same) (gives_job merge c.is_lawful.ensures settings inner c.requires.whole c.requires.ordered)

pub returns-clause-reads : goal.returns-clause-reads
returns-clause-reads g c =
    let merge = g.O.MergeOperator.merged (g.O.MergeOperator.settings c.args.operator.now) in
    let inner = g.T.RowEntryIterator.state c.args.rows in
    keeps_reads merge c.is_lawful.ensures (settings_of c.args.settings) inner.rows _ c.requires.ordered (returns-clause-job g c)
