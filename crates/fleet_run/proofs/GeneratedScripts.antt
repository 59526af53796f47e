-- Generated scripts are in the grammar that the program serves.
use Rattle.std.proofs.Common.{◌≡◌, refl, ℕ, ◌≤◌, List, [], ◌∷◌, ◌++◌, true}
use Rattle.std.specs.List.{AllByRecursion}
use Rattle.script_model.specs.Script.{Line, Options, Together, AreLines, IsScript, script_text}
use Rattle.script_model.specs.Grammars.{full_grammar, is_served, served_grammar}
use Rattle.script_model.specs.Generated.{generated_lines}
use Rattle.fleet_generate.specs.Laws.{is_of_generated_kind}
use Rattle.fleet_generate.proofs.ScriptLines.{are_of_kinds, is_script}

kind_is_served : (line : Line) → is_of_generated_kind line ≡ true → is_served line ≡ true
kind_is_served (Together workers turns) kind = absurd (cc kind)
kind_is_served _ kind = refl

lines_are_served : (before lines : List Line) → AllByRecursion (λ line. is_of_generated_kind line ≡ true) lines → AreLines full_grammar before lines → AreLines served_grammar before lines
lines_are_served before [] kinds each = tt
lines_are_served before (line ∷ lines) kinds each = ((each.0, kind_is_served line kinds.0), lines_are_served (before ++ line ∷ []) lines kinds.1 each.1)

pub generated_is_served : (number rounds : ℕ) → rounds ≤ 2000 → IsScript served_grammar (script_text (generated_lines number rounds)) (generated_lines number rounds)
generated_is_served number rounds few = record { whole = refl; each = lines_are_served [] (generated_lines number rounds) (are_of_kinds number rounds few) (is_script number rounds few).each }
