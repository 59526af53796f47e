-- The laws on texts: a fleet that follows a script ran its lines, with the options that the first line sets.
use Rattle.std.specs.Prelude.{◌≡◌, ℕ, false, List, [], ◌∷◌, ⊤}
use Rattle.std.specs.List.{AllByRecursion, concat}
use Rattle.row_model.specs.Fold.{IsLawful}
use Rattle.fleet_model.specs.Store.{Store}
use Rattle.script_model.specs.Script.{Line, script_text}
use Rattle.script_model.specs.States.{Inputs, State, FleetOptions, fresh_state}
use Rattle.script_model.specs.LineCourses.{prepared_state}
use Rattle.script_model.specs.Grammars.{is_options, full_grammar, served_grammar}
use Rattle.script_model.specs.Follows.{Follows}
use Rattle.line_laws.specs.Alone.{HadRoom}
use Rattle.line_laws.specs.Scripts.{HasRun}

-- ---- options

-- The options of a fleet that runs these lines: those that the first line sets, or else the given ones.
abbrev pub options_of : List Line → FleetOptions → FleetOptions
options_of [] given = given
options_of (line ∷ lines) given = (prepared_state line (fresh_state given)).options

-- No line sets the options, unless it is the first one.
abbrev pub OptionsComeFirst : List Line → Type 0
OptionsComeFirst [] = ⊤
OptionsComeFirst (line ∷ lines) = AllByRecursion (λ later. is_options later ≡ false) lines

-- Lines whose options come first leave these options. The first lines of such lines are such lines too, so
-- the options hold after each of them.
abbrev pub OptionsStay : Type 0
OptionsStay = (inputs : Inputs) (lines : List Line) (last : State) (run : HasRun inputs lines last)
    → OptionsComeFirst lines → last.options ≡ options_of lines run.options

-- ---- texts

-- A fresh fleet with these options ran the lines that the text spells, and left this store. Its replies, in
-- the order of the lines, are what was written.
pub record RanText (inputs : Inputs) (options : FleetOptions) (text : List ℕ) (store : Store) (written : List ℕ)
    : Type 0 where
  pub lines : List Line
  pub spelt : text ≡ script_text lines
  pub last : State
  pub run : HasRun inputs lines last
  pub begun : run.options ≡ options
  pub replies : written ≡ concat run.answers
  pub options_first : OptionsComeFirst lines
  pub stored : last.store ≡ store

-- A fleet that follows a script of the one grammar or of the other ran its lines, if the operator is
-- lawful and the history had room. So the laws on runs of lines hold for it.
pub record TextsRun (inputs : Inputs) (options : FleetOptions) : Type 0 where
  pub full : (text : List ℕ) (store : Store) (written : List ℕ) → IsLawful inputs.merge → HadRoom store
      → Follows full_grammar inputs options text store written → RanText inputs options text store written
  pub served : (text : List ℕ) (store : Store) (written : List ℕ) → IsLawful inputs.merge → HadRoom store
      → Follows served_grammar inputs options text store written → RanText inputs options text store written
