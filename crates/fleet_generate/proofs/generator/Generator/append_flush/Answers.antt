use Rattle.std.proofs.Common.{rules, append_assoc}
use Rattle.std.proofs.lemmas.Result.{IfOk-equal}
use Rattle.script_model.specs.Generated.{generated_flush}
use Rattle.fleet_generate.proofs.Turns.{decimal_zero}
use Rattle.fleet_generate.proofs.generator.Generator.append_flush.Goals as goal

pub returns-clause-text : goal.returns-clause-text
unfolding generated_flush
returns-clause-text c = search (rules, IfOk-equal, append_assoc, decimal_zero)

pub returns-clause-state : goal.returns-clause-state
unfolding generated_flush
returns-clause-state c = search (rules, IfOk-equal)
