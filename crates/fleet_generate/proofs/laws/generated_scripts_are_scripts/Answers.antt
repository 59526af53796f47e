use Rattle.fleet_generate.proofs.ScriptLines.{is_script, are_of_kinds, count_of_lines}
use Rattle.fleet_generate.proofs.laws.generated_scripts_are_scripts.Goals as goal

pub returns-clause-script : goal.returns-clause-script
returns-clause-script c = is_script

pub returns-clause-kinds : goal.returns-clause-kinds
returns-clause-kinds c = are_of_kinds

pub returns-clause-count : goal.returns-clause-count
returns-clause-count c = count_of_lines
