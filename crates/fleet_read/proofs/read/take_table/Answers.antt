use Rattle.std.proofs.Common.{rules, ◌≡◌, ◌∷◌, [], ap, sym, ◌∙◌, Some, None}
use Rattle.std.specs.Option.{option_copied}
use Rattle.fleet_range.specs.Keys.{range_of}
use Rattle.fleet_store.specs.Tables.{held_rows}
use Rattle.fleet_tree.specs.Views.{View}
use Rattle.fleet_read.specs.Stored.{view_rows}
use Rattle.fleet_read.proofs.OneKey.{outside_none}
use Rattle.fleet_read.proofs.Taken.{takes_none}
use Rattle.fleet_read.proofs.Views.{missing_none, table_taken}
use Rattle.fleet_read.proofs.read.take_table.Goals as goal

pub returns-then-is_outside-clause-taken : goal.returns-then-is_outside-clause-taken
returns-then-is_outside-clause-taken c =
    let store = c.args.store.now.world.store in
    takes_none c.args.read.now (view_rows store c.args.key.now (c.args.view.now ∷ [])) (outside_none store c.args.view.now c.args.key.now c.requires.held (sym c.is_outside.ensures ∙ c.if-is_outside.true))

pub returns-in_default-clause-taken : goal.returns-in_default-clause-taken
returns-in_default-clause-taken c =
    let store = c.args.store.now.world.store in
    let none : option_copied c.table.result ≡ None = search rules in
    let found = c.table.ensures ∙ ap (λ (v : View). held_rows v.sst.id store) c.view.view_is in
    takes_none c.args.read.now (view_rows store c.args.key.now (c.args.view.now ∷ [])) (missing_none store c.args.view.now c.args.key.now (option_copied c.table.result) c.requires.held found none)

pub returns-clause-taken : goal.returns-clause-taken
returns-clause-taken c =
    let store = c.args.store.now.world.store in
    let there : option_copied c.table.result ≡ Some c.in-Some.table.now = search rules in
    let found = c.table.ensures ∙ ap (λ (v : View). held_rows v.sst.id store) c.view.view_is in
    table_taken store c.args.view.now c.args.key.now (range_of c.args.range.now) c.in-Some.table.now c.iter.result.left (option_copied c.table.result) c.take.result c.args.read.now c.take.new.self c.requires.held c.requires.range found there (search rules) c.take.ensures.taken
