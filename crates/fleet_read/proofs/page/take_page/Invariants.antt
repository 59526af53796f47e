use Rattle.fleet_read.proofs.Pages.{IsPage}
use Rattle.fleet_read.proofs.page.take_page.Given as goal

abbrev pub invariant-pairs : goal.invariant-pairs
invariant-pairs g l = IsPage l.limit l.counter l.fn.scan l.scan l.pairs
