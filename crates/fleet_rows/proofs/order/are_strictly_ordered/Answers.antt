use Rattle.std.proofs.Common.{◌≡◌, false, true, sym, ◌∙◌, arith}
use Rattle.std.proofs.lemmas.Grind.{common_steps}
use Rattle.row_model.specs.Rows.{are_ordered}
use Rattle.fleet_rows.specs.Row.{rows_of}
use Rattle.fleet_rows.proofs.Ordered.{decided, ordered_short}
use Rattle.fleet_rows.proofs.order.are_strictly_ordered.Goals as goal

pub returns-then-not-is_lt-clause-ordered : goal.returns-then-not-is_lt-clause-ordered
returns-then-not-is_lt-clause-ordered c =
    let unordered : false ≡ are_ordered (rows_of c.args.rows.now) = grind (arith, common_steps) in
    decided (rows_of c.args.rows.now) false unordered

pub returns-clause-test : goal.returns-clause-test
returns-clause-test c = sym (ordered_short c.rest.rest.now (omega arith)) ∙ c.rest.invariant

pub returns-clause-ordered : goal.returns-clause-ordered
returns-clause-ordered c = decided (rows_of c.args.rows.now) true (sym (ordered_short c.rest.rest.now (omega arith)) ∙ c.rest.invariant)
