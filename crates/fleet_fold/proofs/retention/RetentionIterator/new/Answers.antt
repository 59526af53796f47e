use Rattle.std.proofs.Common.{◌++◌, sym, subst, List}
use Rattle.std.specs.Prelude.{reverse}
use Rattle.fleet_iter.specs.Iteration.{AreRising}
use Rattle.fleet_rows.specs.Row.{rows_of}
use Rattle.fleet_rows.specs.declared.row.RowEntry.{RowEntry}
use Rattle.fleet_rows.specs.Settings.{settings_of}
use Rattle.fleet_fold.specs.Retention.{kept_given}
use Rattle.fleet_fold.proofs.Rising.{given_rise}
use Rattle.fleet_fold.proofs.retention.RetentionIterator.new.Goals as goal

pub returns-clause-rising : goal.returns-clause-rising
returns-clause-rising g c =
    let settings = settings_of c.args.settings in
    let inner = g.T.RowEntryIterator.state c.args.inner in
    subst (λ (w : List RowEntry). AreRising (rows_of (reverse w) ++ kept_given settings inner.whole inner.rows)) (sym c.new.ensures.items) (given_rise settings inner.whole inner.rows c.requires.rising)
