-- The proof of the script that is generated.
use Rattle.std.proofs.Common.{◌≡◌, map, refl}
use Rattle.std.specs.Fmt.{digits}
use Rattle.std.specs.List.{concat}
use Rattle.hex.specs.Hex.{encode_with}
use Rattle.script_model.specs.Script.{script_text}
use Rattle.script_model.specs.Generated.{made_in_turn, generated_row, generated_flush, generated_job, generated_round, generated_lines}
use Rattle.script_model.specs.Examples.Worked.{newline}
use Rattle.script_model.specs.Examples.WorkedGenerated.{generated_from_seven}

pub generated_from_seven_is : script_text (generated_lines 7 2) ≡ concat (map newline generated_from_seven)
unfolding digits encode_with made_in_turn generated_row generated_flush generated_job generated_round generated_lines
generated_from_seven_is = refl
