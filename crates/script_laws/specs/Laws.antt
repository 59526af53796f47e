-- Laws about scripts: a text spells exactly one script, or has exactly one first bad line.
use Rattle.std.specs.Prelude.{◌≡◌, ℕ, List}
use Rattle.std.specs.List.{AllByRecursion}
use Rattle.script_model.specs.Script.{Line, IsInBounds, script_text, Grammar, IsScript, IsBadAt}

-- Two lists of lines in bounds with the same text are equal.
abbrev pub TextIsOneScript : Type 0
TextIsOneScript = (lines others : List Line) → AllByRecursion IsInBounds lines → AllByRecursion IsInBounds others
    → script_text lines ≡ script_text others → lines ≡ others

-- Each line that the grammar allows is in bounds.
abbrev pub IsBounded : Grammar → Type 0
IsBounded grammar = (before : List Line) (line : Line) → grammar before line → IsInBounds line

-- A text that is a script has no bad line.
abbrev pub ScriptHasNoBadLine : Grammar → Type 0
ScriptHasNoBadLine grammar = (text : List ℕ) (lines : List Line) (n : ℕ) → IsScript grammar text lines
    → IsBadAt grammar text n → ⊥

-- A text that is no script has a first bad line: it is never neither.
abbrev pub NotNeither : Grammar → Type 0
NotNeither grammar = (text : List ℕ) → ((lines : List Line) → IsScript grammar text lines → ⊥)
    → ((n : ℕ) → IsBadAt grammar text n → ⊥) → ⊥

-- A text has at most one first bad line.
abbrev pub BadLineIsOne : Grammar → Type 0
BadLineIsOne grammar = (text : List ℕ) (m n : ℕ) → IsBadAt grammar text m → IsBadAt grammar text n → m ≡ n
