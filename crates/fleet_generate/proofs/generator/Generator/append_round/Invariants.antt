use Rattle.std.proofs.Common.{◌+◌, ◌-◌, string_bytes}
use Rattle.script_model.specs.Script.{spelt_line}
use Rattle.script_model.specs.Generated.{generated_flush}
use Rattle.fleet_generate.proofs.Turns.{IsOnTheWay}
use Rattle.fleet_generate.proofs.generator.Generator.append_round.Given as goal

abbrev pub invariant-flushes : goal.invariant-flushes
invariant-flushes l =
    IsOnTheWay spelt_line (generated_flush l.floor) 3 (l.floor + 1) (string_bytes l.initial.out) l.initial.self.state
    (l.floor + 4 - l.name) l.name (string_bytes l.out) l.self.state
