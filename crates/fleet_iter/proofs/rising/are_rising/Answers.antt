use Rattle.std.proofs.Common.{◌≡◌, false, true, sym, ◌∙◌, arith}
use Rattle.std.proofs.lemmas.Grind.{common_steps}
use Rattle.fleet_rows.specs.Row.{rows_of}
use Rattle.fleet_iter.specs.Iteration.{are_rising}
use Rattle.fleet_iter.proofs.RisingRows.{decided, rising_short}
use Rattle.fleet_iter.proofs.rising.are_rising.Goals as goal

pub returns-then-has_greater_key : goal.returns-then-has_greater_key
returns-then-has_greater_key c =
    let unordered : false ≡ are_rising (rows_of c.args.rows.now) = grind (arith, common_steps) in
    decided (rows_of c.args.rows.now) false unordered

pub returns : goal.returns
returns c = decided (rows_of c.args.rows.now) true (sym (rising_short c.rest.rest.now (omega arith)) ∙ c.rest.invariant)
