use Rattle.std.proofs.Common.{◌-◌, string_bytes}
use Rattle.script_model.specs.Script.{script_text}
use Rattle.script_model.specs.Generated.{generated_round}
use Rattle.fleet_generate.proofs.Turns.{IsOnTheWay}
use Rattle.fleet_generate.proofs.script.make_script.Given as goal

abbrev pub invariant-rounds : goal.invariant-rounds
invariant-rounds l =
    IsOnTheWay script_text generated_round l.rounds 0 (string_bytes l.initial.text) l.initial.generator.state
    (l.rounds - l.round) l.round (string_bytes l.text) l.generator.state
