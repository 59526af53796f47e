use Rattle.std.proofs.Common.{rules, append_assoc}
use Rattle.std.proofs.lemmas.Result.{IfOk-equal}
use Rattle.script_model.specs.Generated.{generated_job}
use Rattle.fleet_generate.proofs.Turns.{decimal_one}
use Rattle.fleet_generate.proofs.printing.append_job.Goals as goal

pub returns : goal.returns
unfolding generated_job
returns c = search (rules, IfOk-equal, append_assoc, decimal_one)
