-- Two grammars: that of all lines, and that of the lines that the program serves.
use Rattle.std.specs.Prelude.{◌≡◌, Bool, true, false, []}
use Rattle.script_model.specs.Script.{Line, Options, Together, IsInBounds, Grammar}

-- The line sets the options.
abbrev pub is_options : Line → Bool
is_options (Options timeout concurrent slots ranges table_size moves retention) = true
is_options _ = false

-- The grammar of all lines that are in bounds. Only the first line may set the options.
abbrev pub full_grammar : Grammar
full_grammar before line = IsInBounds line × (is_options line ≡ true → before ≡ [])

-- The program serves lines of this kind.
abbrev pub is_served : Line → Bool
is_served (Together workers turns) = false
is_served _ = true

-- The grammar of the lines that the program serves.
abbrev pub served_grammar : Grammar
served_grammar before line = full_grammar before line × (is_served line ≡ true)
