-- The law that each text is one of two: a script, or a text with a first bad line.
use Rattle.std.specs.Prelude.{ℕ, List, ◌⊎◌}
use Rattle.script_model.specs.Script.{Line, Grammar, IsScript, IsBadAt}

-- Of each text, the lines that it spells as a script, or the number of its first bad line.
abbrev pub OneOfThem : Grammar → Type 0
OneOfThem grammar = (text : List ℕ) → ((lines : List Line) × IsScript grammar text lines)
    ⊎ ((n : ℕ) × IsBadAt grammar text n)
