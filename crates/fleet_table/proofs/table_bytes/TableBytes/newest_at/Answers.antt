use Rattle.std.proofs.Common.{sym, ◌∙◌, ap, cond, subst, length, Some, None, arith}
use Rattle.std.specs.Prelude.{bytes_eq}
use Rattle.std.proofs.lemmas.Option.{slice_get_past}
use Rattle.row_model.specs.Rows.{Row}
use Rattle.fleet_rows.specs.Row.{row_of}
use Rattle.fleet_table.specs.Table.{IsTableRows}
use Rattle.fleet_table.proofs.Newest.{newest_found}
use Rattle.fleet_table.proofs.table_bytes.TableBytes.newest_at.Goals as goal

pub returns-then-cursor-self-clause-row : goal.returns-then-cursor-self-clause-row
returns-then-cursor-self-clause-row c =
    let rows = c.args.self.now in
    let table = subst IsTableRows c.self.view_is c.self.invariant.table in
    let all = ap length c.self.view_is in
    newest_found c.args.key.now c.args.seq rows c.find-cursor.result.row None table.ordered c.find-cursor.ensures.row
    (slice_get_past rows c.find-cursor.result.row (omega (arith, all, c.self.invariant.counted, c.if-cursor-self.true)))

pub returns-then-eq-clause-row : goal.returns-then-eq-clause-row
returns-then-eq-clause-row c =
    let key = c.args.key.now in
    let rows = c.args.self.now in
    let table = subst IsTableRows c.self.view_is c.self.invariant.table in
    let row : Row = row_of c.in_ok-row.row in
    let same = ap (bytes_eq key) (sym c.as_slice.ensures) ∙ sym c.eq.ensures ∙ c.if-eq.true in
    sym (ap (λ b. cond b (Some row) None) same)
    ∙ newest_found key c.args.seq rows c.find-cursor.result.row (Some row) table.ordered c.find-cursor.ensures.row c.in_ok-row.ensures.value

pub returns-else-eq-clause-row : goal.returns-else-eq-clause-row
returns-else-eq-clause-row c =
    let key = c.args.key.now in
    let rows = c.args.self.now in
    let table = subst IsTableRows c.self.view_is c.self.invariant.table in
    let row : Row = row_of c.in_ok-row.row in
    let other = ap (bytes_eq key) (sym c.as_slice.ensures) ∙ sym c.eq.ensures ∙ c.if-eq.false in
    sym (ap (λ b. cond b (Some row) None) other)
    ∙ newest_found key c.args.seq rows c.find-cursor.result.row (Some row) table.ordered c.find-cursor.ensures.row c.in_ok-row.ensures.value
