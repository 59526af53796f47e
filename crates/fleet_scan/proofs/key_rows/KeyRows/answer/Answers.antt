use Rattle.std.proofs.Common.{rules, ◌≡◌, [], Some, None, arith}
use Rattle.std.proofs.lemmas.Grind.{common_steps}
use Rattle.fleet_scan.specs.KeyRows.{base_of}
use Rattle.fleet_scan.proofs.Folds.{alone}
use Rattle.fleet_scan.proofs.key_rows.KeyRows.answer.Goals as goal

pub returns-in-Some-clause-answer : goal.returns-in-Some-clause-answer
returns-in-Some-clause-answer g c =
    let none : c.args.self.operands.items ≡ [] = grind (arith, common_steps) in
    let base : base_of c.args.self.ground ≡ Some c.in-Some.value = search rules in
    alone (g.B.BatchMerger.fold c.args.operator.now) c.args.self.key (base_of c.args.self.ground) (Some c.in-Some.value) c.args.self.operands.items none base

pub returns-in-None-clause-answer : goal.returns-in-None-clause-answer
returns-in-None-clause-answer g c =
    let none : c.args.self.operands.items ≡ [] = grind (arith, common_steps) in
    let base : base_of c.args.self.ground ≡ None = search rules in
    alone (g.B.BatchMerger.fold c.args.operator.now) c.args.self.key (base_of c.args.self.ground) None c.args.self.operands.items none base
