use Rattle.std.proofs.Common.{refl, arith}
use Rattle.fleet_text.proofs.Cuts.{cut_first, cut_next, no_fields, no_row, row_of_fields}
use Rattle.fleet_text.proofs.row.row_at.Goals as goal

pub returns-in_default : goal.returns-in_default
returns-in_default c = no_fields c.in_default.ensures

pub returns-in_default-cut : goal.returns-in_default-cut
returns-in_default-cut c = no_row (cut_first _ _ c.in-Some.ensures) c.in_default-cut.ensures (omega arith)

pub returns-in_default-cut-2 : goal.returns-in_default-cut-2
returns-in_default-cut-2 c = no_row (cut_next _ _ (cut_first _ _ c.in-Some.ensures) c.in-Some-cut.ensures) c.in_default-cut-2.ensures (omega arith)

pub returns-in_default-cut-3 : goal.returns-in_default-cut-3
returns-in_default-cut-3 c = no_row (cut_next _ _ (cut_next _ _ (cut_first _ _ c.in-Some.ensures) c.in-Some-cut.ensures) c.in-Some-cut-2.ensures) c.in_default-cut-3.ensures (omega arith)

pub returns-in_default-cut-4 : goal.returns-in_default-cut-4
returns-in_default-cut-4 c = no_row (cut_next _ _ (cut_next _ _ (cut_next _ _ (cut_first _ _ c.in-Some.ensures) c.in-Some-cut.ensures) c.in-Some-cut-2.ensures) c.in-Some-cut-3.ensures) c.in_default-cut-4.ensures (omega arith)

pub returns : goal.returns
returns c =
    row_of_fields c.row_from.result
    (cut_next _ _ (cut_next _ _ (cut_next _ _ (cut_next _ _ (cut_first _ _ c.in-Some.ensures) c.in-Some-cut.ensures) c.in-Some-cut-2.ensures) c.in-Some-cut-3.ensures) c.in-Some-cut-4.ensures)
    refl c.row_from.ensures
