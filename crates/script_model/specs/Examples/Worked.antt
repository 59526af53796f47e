-- Worked scripts. Each is a list of lines with the replies to them.
use Rattle.std.specs.Prelude.{◌≡◌, ℕ, List, [], ◌∷◌, ◌++◌, map}
use Rattle.std.specs.List.{concat}
use Rattle.script_model.specs.Script.{Line, IsScript}
use Rattle.script_model.specs.Grammars.{full_grammar}
use Rattle.script_model.specs.States.{Inputs, State, fresh_state}
use Rattle.script_model.specs.Defaults.{default_options}
use Rattle.script_model.specs.Follows.{ScriptRun}
use Rattle.script_model.specs.Tests.Passing.{PassesAlong}

-- The lines of a script, each with the reply to it. Both are without their newlines.
abbrev pub Conversation : Type 0
Conversation = List (List ℕ × List ℕ)

-- The text with a newline after it.
abbrev pub newline : List ℕ → List ℕ
newline text = text ++ 10 ∷ []

-- The text of the script: all lines in order, each with its newline.
abbrev pub typed_text : Conversation → List ℕ
typed_text conversation = concat (map (λ said. newline said.0) conversation)

-- The replies in order, each with its newline.
abbrev pub replies : Conversation → List (List ℕ)
replies conversation = map (λ said. newline said.1) conversation

-- The text is a script, and a fresh fleet with the default options may give exactly these replies. Each
-- line leaves a state that passes the tests of `Passing`.
pub record MayReply (inputs : Inputs) (conversation : Conversation) : Type 0 where
  pub lines : List Line
  pub script : IsScript full_grammar (typed_text conversation) lines
  pub last : State
  pub run : ScriptRun inputs 1 (fresh_state default_options) lines (replies conversation) last
  pub passes : PassesAlong inputs 1 (fresh_state default_options) lines (replies conversation) last run

-- The text is a script. A fresh fleet with the default options may give exactly these replies to
-- its lines, and no others.
pub record MustReply (inputs : Inputs) (conversation : Conversation) : Type 0 where
  pub may : MayReply inputs conversation
  pub only : (answers : List (List ℕ)) (end : State)
      → ScriptRun inputs 1 (fresh_state default_options) may.lines answers end → answers ≡ replies conversation
