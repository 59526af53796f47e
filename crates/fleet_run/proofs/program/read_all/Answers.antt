use Rattle.std.proofs.Common.{arith}
use Rattle.fleet_run.proofs.Given.{given_more}
use Rattle.fleet_run.proofs.program.read_all.Goals as goal

pub returns-then-n-len-clause-front : goal.returns-then-n-len-clause-front
returns-then-n-len-clause-front g c =
    let so_far = c.pieces.invariant in
    let read = c.in-Ok.ensures in
    given_more _ (g.S.Source.view c.pieces.source) _ c.pieces.text.items _ c.in-Ok.n c.requires so_far.bytes so_far.given so_far.limit read.bytes.0 read.given (omega arith) (omega arith)

pub returns-then-is_err-clause-front : goal.returns-then-is_err-clause-front
returns-then-is_err-clause-front g c =
    let so_far = c.pieces.invariant in
    let read = c.in-Ok.ensures in
    given_more _ (g.S.Source.view c.pieces.source) _ c.pieces.text.items _ c.in-Ok.n c.requires so_far.bytes so_far.given so_far.limit read.bytes.0 read.given (omega arith) (omega arith)
