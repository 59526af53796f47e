use Rattle.std.proofs.Common.{◌≡◌, sym, ◌∙◌, ap, true, []}
use Rattle.std.specs.Ordering.{is_gt, is_lt}
use Rattle.row_model.specs.Rows.{key_cmp}
use Rattle.fleet_model.specs.Trees.{first_key, last_key}
use Rattle.fleet_table.proofs.Newest.{none_before, none_after_last}
use Rattle.fleet_table.proofs.Spots.{is_true}
use Rattle.fleet_table.proofs.table.TableData.is_outside.Goals as goal

pub returns-then-is_lt-clause-none : goal.returns-then-is_lt-clause-none
returns-then-is_lt-clause-none c outside =
    let key = c.args.key.now in
    let rows = c.args.self.now in
    let table = c.know_table.ensures in
    let first = c.as_slice.ensures ∙ c.self.invariant.begins ∙ ap first_key c.self.view_is in
    let low : is_lt (key_cmp key (first_key rows)) ≡ true = sym (c.is_lt.ensures ∙ ap is_lt (c.cmp.ensures ∙ ap (key_cmp key) first)) ∙ is_true c.is_lt.result outside in
    none_before key rows table.some table.ordered low

pub returns-else-is_lt-clause-none : goal.returns-else-is_lt-clause-none
returns-else-is_lt-clause-none c outside =
    let key = c.args.key.now in
    let rows = c.args.self.now in
    let table = c.know_table.ensures in
    let last = c.as_slice-else-is_lt.ensures ∙ c.self.invariant.ends ∙ ap (last_key []) c.self.view_is in
    let high : is_gt (key_cmp key (last_key [] rows)) ≡ true = sym (c.is_gt.ensures ∙ ap is_gt (c.cmp-else-is_lt.ensures ∙ ap (key_cmp key) last)) ∙ is_true c.is_gt.result outside in
    none_after_last key rows table.ordered high
