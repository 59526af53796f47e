use Rattle.std.proofs.Common.{rules, ◌∙◌, ◌++◌, sym, ap, map, List, arith}
use Rattle.std.proofs.lemmas.Grind.{common_steps}
use Rattle.fleet_scan.specs.Answered.{pair_of}
use Rattle.fleet_scan.specs.declared.answer.KeyAnswer.{KeyAnswer}
use Rattle.fleet_uses.proofs.Taken.{still_alive, one_more, none_left, limit_reached}
use Rattle.fleet_uses.proofs.scanning.next_answers.Goals as goal

pub keys-init : goal.keys-init
keys-init g c = record {
  alive = c.requires;
  few = grind (arith, common_steps);
  all = sym (ap (λ (w : List KeyAnswer). map pair_of w ++ c.args.scan.now.left) c.new-answers.ensures.items);
}

pub keys-preserved : goal.keys-preserved
keys-preserved g c = record {
  alive = still_alive c.keys.scan c.next.new.self c.in-Some.answer c.keys.invariant.alive (search rules);
  few = grind (arith, common_steps);
  all = one_more c.args.scan.now.left c.keys.answers.items c.keys.scan c.next.new.self c.in-Some.answer c.keys.invariant.alive (search rules) c.keys.invariant.all
      ∙ ap (λ (w : List KeyAnswer). map pair_of w ++ c.next.new.self.left) (sym c.in_ok-push-in-Some.ensures.items);
}

pub returns-in-None-clause-answers : goal.returns-in-None-clause-answers
returns-in-None-clause-answers g c = none_left c.args.limit c.args.scan.now.left c.keys.answers.items c.keys.scan (search rules) c.keys.invariant.all c.keys.invariant.few

pub returns-clause-answers : goal.returns-clause-answers
returns-clause-answers g c = limit_reached c.args.limit c.args.scan.now.left c.keys.answers.items c.keys.scan c.keys.invariant.all c.keys.invariant.few (search rules)
