use Rattle.fleet_block.proofs.Numbers.{number_4}
use Rattle.fleet_block.proofs.number.u32_at.Goals as goal

pub returns-clause-found : goal.returns-clause-found
returns-clause-found c x others fits e = number_4 x c.as_slice.result.now c.args.bytes.now others c.in_ok-part.part.now c.args.place c.from_be_bytes.result fits e c.as_slice.ensures c.in_ok-part.ensures.cases.same c.from_be_bytes.ensures
