use Rattle.std.proofs.Common.{◌∙◌, sym, ap, List, length, ◌-◌}
use Rattle.std.specs.Prelude.{slice_get}
use Rattle.fleet_rows.specs.declared.row.RowEntry.{RowEntry}
use Rattle.fleet_fold.proofs.KeptRows.{strip_goes, strip_stays}
use Rattle.fleet_fold.proofs.keeping.remove_old_tombstones.Goals as goal

pub old-preserved-then-is_tombstone-5 : goal.old-preserved-then-is_tombstone-5
old-preserved-then-is_tombstone-5 c =
    strip_goes _ _ c.in-Some.row.now c.pop.result (ap (λ (w : List RowEntry). slice_get w (length w - 1)) (sym c.deref.ensures.value) ∙ sym c.in-Some.ensures.value) c.pop.ensures.items (sym c.if-is_tombstone.ensures)
    ∙ c.old.invariant

pub returns-else-is_tombstone : goal.returns-else-is_tombstone
returns-else-is_tombstone c =
    strip_stays _ c.in-Some.row.now (ap (λ (w : List RowEntry). slice_get w (length w - 1)) (sym c.deref.ensures.value) ∙ sym c.in-Some.ensures.value) (sym c.if-is_tombstone.ensures) ∙ c.old.invariant
