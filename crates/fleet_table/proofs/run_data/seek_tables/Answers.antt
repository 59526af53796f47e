use Rattle.std.proofs.Common.{ap, sym, ◌∙◌, ◌++◌, subst, rules, false}
use Rattle.std.specs.Prelude.{IsTrue}
use Rattle.fleet_iter.specs.Iteration.{from_key}
use Rattle.fleet_range.specs.Keys.{range_of}
use Rattle.fleet_table.specs.Run.{rows_of_tables}
use Rattle.fleet_table.proofs.SoughtRows.{sought_first, sought_next, sought_last}
use Rattle.fleet_table.proofs.run_data.seek_tables.Goals as goal

pub tables-init : goal.tables-init
tables-init c =
    let sought = sought_first c.args.key.now (range_of c.args.range.now) c.skip_to.new.self.left c.args.current.now.left c.args.later.now.now (ap (λ t. t.left) c.skip_to.ensures) in
    (sought.0, sought.1, ap (λ t. t.broken) c.skip_to.ensures ∙ c.requires)

pub tables-preserved : goal.tables-preserved
tables-preserved c =
    let key = c.args.key.now in
    let range = range_of c.args.range.now in
    let all = c.args.current.now.left ++ rows_of_tables range c.args.later.now.now in
    let ended = c.has_ended.ensures.0 (subst IsTrue (sym c.tables-test.true) (search rules)) in
    let taken = ap (λ t. t.left) c.skip_to-in-tables.ensures ∙ ap (λ t. from_key key t.left) c.iter_in.ensures in
    let sought = sought_next key range c.tables.current.left c.skip_to-in-tables.new.self.left c.tables.later.now c.table-item.result c.table-item.result all
    (c.tables.invariant.0, c.tables.invariant.1) ended.0 c.in-len1-up.len_at_least c.table-item.is taken in
    (sought.0, sought.1, ap (λ t. t.broken) c.skip_to-in-tables.ensures ∙ ap (λ t. t.broken) c.iter_in.ensures)

pub returns-after-tables-clause-rows : goal.returns-after-tables-clause-rows
returns-after-tables-clause-rows c =
    let key = c.args.key.now in
    let range = range_of c.args.range.now in
    let all = c.args.current.now.left ++ rows_of_tables range c.args.later.now.now in
    sought_last key range c.tables.current.left c.tables.later.now all (c.tables.invariant.0, c.tables.invariant.1)
    (λ none. let ended : IsTrue false = subst IsTrue c.tables-test.false (c.has_ended.ensures.1 (none, c.tables.invariant.2)) in absurd (search rules))
