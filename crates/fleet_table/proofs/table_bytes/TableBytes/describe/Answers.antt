use Rattle.std.proofs.Common.{◌∙◌, ap, subst}
use Rattle.std.specs.Ordering.{is_le}
use Rattle.row_model.specs.Rows.{key_cmp}
use Rattle.fleet_model.specs.Trees.{first_key}
use Rattle.fleet_table.specs.Table.{IsTableRows}
use Rattle.fleet_table.proofs.LastRow.{first_up_to_last}
use Rattle.fleet_table.proofs.table_bytes.TableBytes.describe.Goals as goal

pub returns-clause-keys : goal.returns-clause-keys
returns-clause-keys c =
    let rows = c.args.self.now in
    let table = subst IsTableRows c.self.view_is c.self.invariant.table in
    ap (λ key. is_le (key_cmp key c.args.last_key)) c.requires.begins ∙ ap (λ key. is_le (key_cmp (first_key rows) key)) c.requires.ends
    ∙ first_up_to_last rows table.some table.ordered
