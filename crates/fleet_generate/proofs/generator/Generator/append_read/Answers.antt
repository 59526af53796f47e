use Rattle.std.proofs.Common.{rules, append_assoc}
use Rattle.std.proofs.lemmas.Result.{IfOk-equal}
use Rattle.fleet_generate.proofs.Turns.{decimal_zero}
use Rattle.fleet_generate.proofs.generator.Generator.append_read.Goals as goal

pub returns-clause-text : goal.returns-clause-text
returns-clause-text c = search (rules, IfOk-equal, append_assoc, decimal_zero)
