use Rattle.std.proofs.Common.{◌-◌, ◌∷◌, string_bytes}
use Rattle.script_model.specs.Words.{row_text, comma}
use Rattle.script_model.specs.Generated.{generated_row}
use Rattle.fleet_generate.proofs.Turns.{IsOnTheWay}
use Rattle.fleet_generate.proofs.generator.Generator.append_rows.Given as goal

abbrev pub invariant-rows : goal.invariant-rows
invariant-rows l =
    IsOnTheWay (λ r. comma ∷ row_text r) (generated_row l.seq) 3 1 (string_bytes l.initial.out) l.initial.self.state
    (4 - l.place) l.place (string_bytes l.out) l.self.state
