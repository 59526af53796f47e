use Rattle.std.proofs.Common.{◌∙◌, ap, List, length, arith}
use Rattle.row_model.specs.Written.TableBytes.{blocks_of_rows}
use Rattle.row_model.specs.Rows.{Row}
use Rattle.fleet_block.specs.Places.{places_from}
use Rattle.fleet_block.proofs.Places.{places_count}
use Rattle.fleet_table.proofs.Cursors.{before_start, row_within, start_stands, start_within}
use Rattle.fleet_table.proofs.table_bytes.TableBytes.block_start.Goals as goal

pub index-start-requires : goal.index-start-requires
index-start-requires c =
    let counted = ap length (c.self.invariant.placed ∙ ap (λ (rows : List Row). places_from 0 0 (blocks_of_rows 0 rows)) c.self.view_is) ∙ places_count 0 0 (blocks_of_rows 0 c.args.self.now) in
    omega (arith, counted, c.requires)

pub returns-clause-row : goal.returns-clause-row
returns-clause-row c =
    let placed = c.self.invariant.placed ∙ ap (λ (rows : List Row). places_from 0 0 (blocks_of_rows 0 rows)) c.self.view_is in
    let counted = ap length placed ∙ places_count 0 0 (blocks_of_rows 0 c.args.self.now) in
    before_start c.args.self.now c.self.inside.places.items c.args.block c.index-start.result.now c.index-start.result.now placed (omega (arith, counted, c.requires)) c.index-start.ensures

pub overflow_mul-headers : goal.overflow_mul-headers
overflow_mul-headers c =
    let placed = c.self.invariant.placed ∙ ap (λ (rows : List Row). places_from 0 0 (blocks_of_rows 0 rows)) c.self.view_is in
    let counted = ap length placed ∙ places_count 0 0 (blocks_of_rows 0 c.args.self.now) in
    let within = start_within c.args.self.now _ c.self.inside.bytes c.self.inside.places.items c.args.block c.len.result c.index-start.result.now c.index-start.result.now c.self.view_is c.self.invariant.spelt placed
    (omega (arith, counted, c.requires)) c.index-start.ensures (omega arith) in
    omega (arith, within, c.len-small.ensures.value, c.len-small.ensures.bound)

pub overflow_add-headers : goal.overflow_add-headers
overflow_add-headers c =
    let placed = c.self.invariant.placed ∙ ap (λ (rows : List Row). places_from 0 0 (blocks_of_rows 0 rows)) c.self.view_is in
    let counted = ap length placed ∙ places_count 0 0 (blocks_of_rows 0 c.args.self.now) in
    let within = start_within c.args.self.now _ c.self.inside.bytes c.self.inside.places.items c.args.block c.len.result c.index-start.result.now c.index-start.result.now c.self.view_is c.self.invariant.spelt placed
    (omega (arith, counted, c.requires)) c.index-start.ensures (omega arith) in
    omega (arith, within, c.len-small.ensures.value, c.len-small.ensures.bound)

pub overflow_add-result : goal.overflow_add-result
overflow_add-result c =
    let placed = c.self.invariant.placed ∙ ap (λ (rows : List Row). places_from 0 0 (blocks_of_rows 0 rows)) c.self.view_is in
    let counted = ap length placed ∙ places_count 0 0 (blocks_of_rows 0 c.args.self.now) in
    let within = start_within c.args.self.now _ c.self.inside.bytes c.self.inside.places.items c.args.block c.len.result c.index-start.result.now c.index-start.result.now c.self.view_is c.self.invariant.spelt placed
    (omega (arith, counted, c.requires)) c.index-start.ensures (omega arith) in
    omega (arith, within, c.len-small.ensures.value, c.len-small.ensures.bound)

pub returns-clause-stands : goal.returns-clause-stands
returns-clause-stands c =
    let placed = c.self.invariant.placed ∙ ap (λ (rows : List Row). places_from 0 0 (blocks_of_rows 0 rows)) c.self.view_is in
    let counted = ap length placed ∙ places_count 0 0 (blocks_of_rows 0 c.args.self.now) in
    let at = start_stands c.args.self.now c.self.inside.places.items c.args.block c.len.result c.index-start.result.now c.index-start.result.now placed (omega (arith, counted, c.requires)) c.index-start.ensures (omega arith) in
    let within = row_within c.args.self.now _ at in
    (omega (arith, within), λ more. at)

pub returns-clause-within : goal.returns-clause-within
returns-clause-within c =
    let placed = c.self.invariant.placed ∙ ap (λ (rows : List Row). places_from 0 0 (blocks_of_rows 0 rows)) c.self.view_is in
    let counted = ap length placed ∙ places_count 0 0 (blocks_of_rows 0 c.args.self.now) in
    let at = start_stands c.args.self.now c.self.inside.places.items c.args.block c.len.result c.index-start.result.now c.index-start.result.now placed (omega (arith, counted, c.requires)) c.index-start.ensures (omega arith) in
    row_within c.args.self.now _ at
