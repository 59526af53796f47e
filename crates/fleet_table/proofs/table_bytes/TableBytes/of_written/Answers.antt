use Rattle.std.proofs.Common.{◌≡◌, sym, ◌∙◌, ap, subst, List, length, ◌<◌, ◌^◌, rules, arith}
use Rattle.std.proofs.lemmas.List.{length-map}
use Rattle.row_model.specs.Rows.{Row}
use Rattle.fleet_block.specs.Decoded.{decoded_rows}
use Rattle.fleet_rows.specs.Row.{row_of, rows_of}
use Rattle.fleet_block.proofs.Cuts.{all_in_bounds}
use Rattle.fleet_table.specs.Table.{IsKept}
use Rattle.fleet_table.proofs.table_bytes.TableBytes.of_written.Goals as goal

pub invariant_of-result : goal.invariant_of-result
invariant_of-result c =
    let rows : List Row = rows_of c.args.rows.now in
    let taken = c.requires.taken in
    let counted : length rows ≡ length c.args.rows.now = length-map c.args.rows.now row_of in
    let small : length c.args.rows.now < 2 ^ 64 = search rules in
    let is : decoded_rows c.args.bytes ≡ rows = ap decoded_rows c.requires.bytes ∙ c.bytes_are_decoded.ensures rows taken.writable (omega (arith, counted, small)) in
    subst (λ (rs : List Row). IsKept rs c.args.bytes c.args.places.items c.in_ok-size.blocks c.in_ok-size.size (length c.args.rows.now) c.last_of.result.now.seq) (sym is) (record {
      table = record { some = taken.some; ordered = taken.ordered; in_bounds = all_in_bounds rows taken.writable };
      writable = taken.writable;
      spelt = c.requires.bytes;
      placed = c.requires.places;
      index = c.in_ok-size.ensures.blocks;
      size = c.in_ok-size.ensures.size;
      counted = sym counted;
      ends_at = c.last_of.ensures.seq;
    })
