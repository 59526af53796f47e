use Rattle.std.proofs.Common.{◌∙◌}
use Rattle.fleet_block.proofs.Fields.{after_key, row_parts}
use Rattle.fleet_block.proofs.Found.{found_some}
use Rattle.fleet_block.proofs.RowsFound.{row_found}
use Rattle.fleet_block.proofs.row.packed_row_at.Goals as goal

pub returns-clause-found : goal.returns-clause-found
returns-clause-found c =
    row_found c.args.first.now c.args.bytes.now c.in-Some.key c.args.place c.in-Some.place c.row_with.result
    (λ r others fits e. found_some (λ k. k) r.key (after_key r others) c.args.bytes.now c.in_ok-key.field-0 c.in-Some.key c.in-Some.place c.in-Some.is (c.in_ok-key.ensures.found r.key (after_key r others) fits.in_bounds.key (e ∙ row_parts c.args.first.now r others)))
    c.row_with.ensures.found
