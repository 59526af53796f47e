use Rattle.std.proofs.Common.{◌∙◌, sym, ap, subst}
use Rattle.row_laws.proofs.ApartRows.{ordered_filter}
use Rattle.fleet_iter.specs.Iteration.{AreRising, IteratorState}
use Rattle.fleet_table.specs.Iterator.{RowsLeft, state_of}
use Rattle.fleet_tests.proofs.seeks.sought.Goals as goal

pub taken-init : goal.taken-init
taken-init c =
    let is = c.iter-rows.ensures in
    let same = c.in_ok-init.ensures.init.answers (ap (λ (t : RowsLeft). (state_of t).failure) is) in
    let left = ap (λ (s : IteratorState). s.rows) same ∙ ap (λ (t : RowsLeft). t.left) is in
    subst AreRising (sym left) (c.ordered_rows_rise.ensures _ (ordered_filter _ c.args.table.now c.requires))
