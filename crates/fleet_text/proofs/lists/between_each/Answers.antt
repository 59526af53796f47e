use Rattle.std.proofs.Common.{append-nil, sym}
use Rattle.fleet_text.proofs.Between.{all_between, one_more}
use Rattle.fleet_text.proofs.lists.between_each.Goals as goal

pub items-init : goal.items-init
items-init g c = sym (append-nil _)

pub items-preserved : goal.items-preserved
items-preserved g c = one_more _ g.T.Prints.text _ _ _ _ _ _ _ c.items-test.true c.item-item.is c.items.invariant c.in_ok-append_next.ensures

pub returns : goal.returns
returns g c = λ cut one. all_between _ cut g.T.Prints.text _ _ _ _ _ _ _ one c.in-Some.ensures.cases.0 c.items-test.false c.new-out.ensures.bytes c.in_ok-print.ensures c.items.invariant
