use Rattle.std.proofs.Common.{Option, subst}
use Rattle.fleet_read.specs.Pages.{EndsPage, TakesPair}
use Rattle.fleet_read.specs.declared.answer.PageEnd.{PageEnd}
use Rattle.fleet_read.proofs.Pages.{ends}
use Rattle.fleet_read.proofs.page.take_page.Goals as goal

pub returns-in-Some-clause-page : goal.returns-in-Some-clause-page
returns-in-Some-clause-page g c =
    let taken = c.take_pair.new in
    let ended : EndsPage c.pairs.scan c.pairs.pairs taken.pairs c.in-Some.ends = subst (λ (o : Option PageEnd). TakesPair c.pairs.scan taken.scan c.pairs.pairs taken.pairs o) c.in-Some.is c.in_ok-ends.ensures.taken in
    ends c.args.limit c.pairs.counter c.args.scan.now c.pairs.scan c.pairs.pairs taken.pairs c.in-Some.ends c.pairs-test.true c.pairs.invariant ended
