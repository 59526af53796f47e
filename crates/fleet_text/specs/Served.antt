-- Which lines the program serves, and where.
use Rattle.std.specs.Prelude.{◌≡◌, Bool, true}
use Rattle.script_model.specs.Script.{Line, Options, IsInBounds}
use Rattle.script_model.specs.Grammars.{is_served}

-- The program serves the line there: as the first line of a script, or as a later one.
abbrev pub may_stand : (first : Bool) → Line → Bool
may_stand first (Options timeout concurrent slots ranges table_size moves retention) = first
may_stand first line = is_served line

-- The line is in bounds, and the program serves it there.
abbrev pub MayStand : (first : Bool) → Line → Type 0
MayStand first line = IsInBounds line × (may_stand first line ≡ true)
