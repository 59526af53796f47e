use Rattle.std.proofs.Common.{◌∙◌, ap, subst}
use Rattle.std.specs.List.{AllByRecursion}
use Rattle.row_model.specs.Rows.{IsStrictlyOrdered}
use Rattle.row_model.specs.Written.TableBytes.{IsWritable}
use Rattle.fleet_table.specs.Cursors.{before_by}
use Rattle.fleet_table.proofs.Cursors.{bytes_after, read_on, read_there, row_there, writable_there}
use Rattle.fleet_table.proofs.Spots.{is_ahead, is_after}
use Rattle.fleet_table.proofs.table_bytes.TableBytes.look.Goals as goal

pub unreachable-requires : goal.unreachable-requires
unreachable-requires c =
    let rows = c.args.self.now in
    let at = c.requires.stands.1 c.requires.row in
    let fits = writable_there rows c.args.cursor at (subst (AllByRecursion IsWritable) c.self.view_is c.self.invariant.writable) in
    c.in_default.ensures.found at.here (bytes_after rows c.args.cursor at) fits (read_there rows _ c.self.inside.bytes c.key_before-first.result.now c.args.cursor at c.self.view_is c.self.invariant.spelt (c.key_before-first.ensures at))

pub next-requires-clause-place : goal.next-requires-clause-place
next-requires-clause-place c at =
    let rows = c.args.self.now in
    let fits = writable_there rows c.args.cursor at (subst (AllByRecursion IsWritable) c.self.view_is c.self.invariant.writable) in
    let found = c.in-Some.ensures.found at.here (bytes_after rows c.args.cursor at) fits (read_there rows _ c.self.inside.bytes c.key_before-first.result.now c.args.cursor at c.self.view_is c.self.invariant.spelt (c.key_before-first.ensures at)) in
    read_on rows _ c.self.inside.bytes (bytes_after rows c.args.cursor at) c.in-Some.place c.self.view_is c.self.invariant.spelt found.1

pub returns-clause-before : goal.returns-clause-before
returns-clause-before c holds =
    let rows = c.args.self.now in
    let at = c.requires.stands.1 c.requires.row in
    let fits = writable_there rows c.args.cursor at (subst (AllByRecursion IsWritable) c.self.view_is c.self.invariant.writable) in
    let found = c.in-Some.ensures.found at.here (bytes_after rows c.args.cursor at) fits (read_there rows _ c.self.inside.bytes c.key_before-first.result.now c.args.cursor at c.self.view_is c.self.invariant.spelt (c.key_before-first.ensures at)) in
    is_ahead c.args.key.now c.args.ties rows (subst IsStrictlyOrdered c.self.view_is c.self.invariant.table.ordered) c.args.cursor.row at.here c.is_before_spot.result (row_there rows c.args.cursor at)
    (c.is_before_spot.ensures ∙ ap (λ held. before_by held.0 c.args.ties held.1) found.0) holds

pub returns-clause-after : goal.returns-clause-after
returns-clause-after c fails =
    let rows = c.args.self.now in
    let at = c.requires.stands.1 c.requires.row in
    let fits = writable_there rows c.args.cursor at (subst (AllByRecursion IsWritable) c.self.view_is c.self.invariant.writable) in
    let found = c.in-Some.ensures.found at.here (bytes_after rows c.args.cursor at) fits (read_there rows _ c.self.inside.bytes c.key_before-first.result.now c.args.cursor at c.self.view_is c.self.invariant.spelt (c.key_before-first.ensures at)) in
    is_after c.args.key.now c.args.ties rows c.args.cursor.row at.here c.is_before_spot.result (row_there rows c.args.cursor at)
    (c.is_before_spot.ensures ∙ ap (λ held. before_by held.0 c.args.ties held.1) found.0) fails
