use Rattle.std.proofs.Common.{rules}
use Rattle.std.proofs.lemmas.Iterator.{cases_from_all, YieldsList-from_slice}
use Rattle.row_model.specs.Bounds.{IsInBounds}
use Rattle.fleet_rows.specs.Row.{row_of}
use Rattle.fleet_rows.proofs.Tested.{all_decided}
use Rattle.fleet_rows.proofs.order.are_in_bounds.Goals as goal

pub returns : goal.returns
returns c = all_decided IsInBounds c.args.rows.now c.all.result
    (cases_from_all _ _ _ (λ r. IsInBounds (row_of r)) (λ r. IsInBounds (row_of r) → ⊥) c.all.ensures.ran (YieldsList-from_slice c.args.rows.now cc) (λ r f h. search rules) (λ r f h. search rules))
