use Rattle.std.proofs.Common.{arith}
use Rattle.fleet_block.proofs.Comparisons.{content_passed}
use Rattle.fleet_block.proofs.comparing.content_end.Goals as goal

pub returns-clause-passed : goal.returns-clause-passed
returns-clause-passed c x others fits kind e =
    content_passed x c.args.flags c.args.bytes.now others c.args.place c.in-Some.place c.in-Some.len fits kind (λ h. grind (arith, h, c.if-flags-eq1.false)) e c.in-Some.ensures.found
