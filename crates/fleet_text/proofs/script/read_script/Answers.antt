use Rattle.fleet_text.specs.Lines.{lines_of}
use Rattle.fleet_text.proofs.First.{first_bad, script_is_read}
use Rattle.fleet_text.proofs.script.read_script.Goals as goal

pub returns-clause-exact : goal.returns-clause-exact
returns-clause-exact c = first_bad lines_of c.args.text.now c.read_lines.result c.read_lines.ensures.found c.read_lines.ensures.bad

pub returns-clause-valid : goal.returns-clause-valid
returns-clause-valid c = script_is_read c.args.text.now c.read_lines.result c.read_lines.ensures.bad
