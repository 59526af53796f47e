use Rattle.std.proofs.Common.{◌≡◌, rules, ℕ, ap, ◌∙◌, ◌+◌, ◌++◌, ◌∷◌, [], length, arith}
use Rattle.std.proofs.lemmas.List.{length-append, length-map}
use Rattle.row_model.specs.Written.TableBytes.{blocks_of_rows, header_bytes, rows_bytes}
use Rattle.fleet_rows.specs.Row.{row_of, rows_of}
use Rattle.fleet_block.specs.Places.{places_from}
use Rattle.fleet_block.proofs.Cuts as cuts
use Rattle.fleet_block.proofs.Places.{placed}
use Rattle.fleet_block.proofs.write.written_rows.Goals as goal

pub split_block-requires-clause-some : goal.split_block-requires-clause-some
split_block-requires-clause-some c = cuts.not_empty c.rest.rest.now (grind (arith, c.rest-test.true, c.is_empty.ensures))

pub put_block-requires-clause-in_bounds : goal.put_block-requires-clause-in_bounds
put_block-requires-clause-in_bounds c = cuts.front_in_bounds c.rest.rest.now c.split_block.result.0.now c.split_block.result.1.now c.split_block.ensures.all c.rest.invariant.in_bounds

pub rest-smaller : goal.rest-smaller
rest-smaller c =
    let some = cuts.filled_some c.split_block.result.0.now c.split_block.ensures.filled in
    let parts = ap length c.split_block.ensures.all in
    omega (arith, some, parts, length-append c.split_block.result.0.now c.split_block.result.1.now)

pub rest-preserved : goal.rest-preserved
rest-preserved c =
    let cut = c.split_block.ensures.cut in
    let parts = ap length c.split_block.ensures.all in
    let at : c.len-place.result ≡ length c.rest.written.items = search rules in
    record {
      in_bounds = cuts.back_in_bounds c.rest.rest.now c.split_block.result.0.now c.split_block.result.1.now c.split_block.ensures.all c.rest.invariant.in_bounds;
      fit = λ later. c.rest.invariant.fit (cuts.both_writable c.rest.rest.now c.split_block.result.0.now c.split_block.result.1.now c.split_block.ensures.all c.in_ok-put_block.ensures.fit later);
      headers_left = cuts.onward header_bytes c.rest.headers.items _ (rows_of c.split_block.result.0.now) (blocks_of_rows 0 (rows_of c.rest.rest.now)) (blocks_of_rows 0 (rows_of c.split_block.result.1.now)) (blocks_of_rows 0 (rows_of c.args.rows.now)) cut c.rest.invariant.headers_left c.in_ok-put_block.ensures.header;
      rows_left = cuts.onward rows_bytes c.rest.written.items _ (rows_of c.split_block.result.0.now) (blocks_of_rows 0 (rows_of c.rest.rest.now)) (blocks_of_rows 0 (rows_of c.split_block.result.1.now)) (blocks_of_rows 0 (rows_of c.args.rows.now)) cut c.rest.invariant.rows_left c.in_ok-put_block.ensures.rows;
      places_left = placed c.rest.places.items c.push.new.self.items c.rest.row (length c.rest.written.items) (c.rest.row + length c.split_block.result.0.now) (length c.put_block.new.written.items)
          (rows_of c.split_block.result.0.now) (blocks_of_rows 0 (rows_of c.rest.rest.now)) (blocks_of_rows 0 (rows_of c.split_block.result.1.now)) (places_from 0 0 (blocks_of_rows 0 (rows_of c.args.rows.now)))
          cut c.rest.invariant.places_left (c.in_ok-push.ensures.items ∙ ap (λ (n : ℕ). c.rest.places.items ++ record { row = c.rest.row; place = n } ∷ []) at)
          (let counted = length-map c.split_block.result.0.now row_of in omega (arith, counted))
          (ap length c.in_ok-put_block.ensures.rows ∙ length-append c.rest.written.items (rows_bytes (rows_of c.split_block.result.0.now)));
      blocks_left = let one = ap length cut in omega (arith, one, c.in_ok-push.ensures.len, c.rest.invariant.blocks_left);
      counted = omega (arith, c.rest.invariant.counted, parts, length-append c.split_block.result.0.now c.split_block.result.1.now);
    }
