use Rattle.std.proofs.Common.{◌++◌, length}
use Rattle.fleet_block.proofs.Numbers.{part_found}
use Rattle.fleet_block.proofs.field.value_at.Goals as goal

pub returns-clause-found : goal.returns-clause-found
returns-clause-found c v others fits e =
    let found = c.in-Some.ensures.found (length v) (v ++ others) fits e in
    part_found v c.args.bytes.now others c.in_ok-slice.field-0 c.in-Some.place c.in-Some.len found.0 found.1 c.in_ok-slice.ensures.ok
