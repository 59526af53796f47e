use Rattle.std.proofs.Common.{rules, append_assoc}
use Rattle.std.proofs.lemmas.Result.{IfOk-equal}
use Rattle.script_model.specs.Generated.{generated_row}
use Rattle.fleet_generate.proofs.generator.Generator.append_row.Goals as goal

pub returns-clause-text : goal.returns-clause-text
unfolding generated_row
returns-clause-text c = search (rules, IfOk-equal, append_assoc)

pub returns-clause-state : goal.returns-clause-state
unfolding generated_row
returns-clause-state c = search (rules, IfOk-equal)
