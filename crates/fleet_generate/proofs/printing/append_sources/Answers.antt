use Rattle.std.proofs.Common.{rules, append_assoc}
use Rattle.std.proofs.lemmas.Result.{IfOk-equal}
use Rattle.fleet_generate.proofs.Turns.{decimal_one}
use Rattle.fleet_generate.proofs.printing.append_sources.Goals as goal

pub returns : goal.returns
returns c = search (rules, IfOk-equal, append_assoc, decimal_one)
