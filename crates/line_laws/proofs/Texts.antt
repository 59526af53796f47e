-- A fleet that follows a script ran its lines.
use Rattle.std.proofs.Common.{◌≡◌, ◌≢◌, refl, sym, subst, ℕ, List, [], ◌∷◌, ◌++◌, Bool, true, false}
use Rattle.std.specs.List.{AllByRecursion}
use Rattle.row_model.specs.Fold.{IsLawful}
use Rattle.fleet_model.specs.Store.{Store}
use Rattle.script_model.specs.Script.{Line, Grammar, AreLines, IsInBounds}
use Rattle.script_model.specs.Grammars.{is_options, full_grammar}
use Rattle.script_model.specs.States.{Inputs, FleetOptions}
use Rattle.script_model.specs.Follows.{Follows}
use Rattle.line_laws.specs.Alone.{HadRoom}
use Rattle.line_laws.specs.Texts.{OptionsComeFirst, RanText, TextsRun}

-- The lines of a grammar whose lines are in bounds are in bounds.
pub all_in_bounds : (grammar : Grammar) → ((before : List Line) (line : Line) → grammar before line → IsInBounds line) → (before lines : List Line) → AreLines grammar before lines → AllByRecursion IsInBounds lines
all_in_bounds grammar bound before [] are = tt
all_in_bounds grammar bound before (line ∷ lines) are = (bound before line are.0, all_in_bounds grammar bound (before ++ line ∷ []) lines are.1)

-- The options of a grammar's lines come first, if its later lines set none.
later_set_none : (grammar : Grammar) → ((before : List Line) (line : Line) → before ≢ [] → grammar before line → is_options line ≡ false) → (before lines : List Line) → before ≢ [] → AreLines grammar before lines → AllByRecursion (λ line. is_options line ≡ false) lines
later_set_none grammar none before [] some are = tt
later_set_none grammar none before (line ∷ lines) some are = (none before line some are.0, later_set_none grammar none (before ++ line ∷ []) lines (not_empty before line) are.1)
  where
    not_empty : (before : List Line) (line : Line) → before ++ line ∷ [] ≢ []
    not_empty [] line e = absurd (cc e)
    not_empty (x ∷ before) line e = absurd (cc e)

come_first : (grammar : Grammar) → ((before : List Line) (line : Line) → before ≢ [] → grammar before line → is_options line ≡ false) → (lines : List Line) → AreLines grammar [] lines → OptionsComeFirst lines
come_first grammar none [] are = tt
come_first grammar none (line ∷ lines) are = later_set_none grammar none (line ∷ []) lines (λ e. absurd (cc e)) are.1

full_none : (before : List Line) (line : Line) → before ≢ [] → full_grammar before line → is_options line ≡ false
full_none before line some are = by (is_options line) refl
  where
    by : (b : Bool) → is_options line ≡ b → b ≡ false
    by true e = absurd (some (are.1 e))
    by false e = refl

-- A fleet that follows a script ran the lines that its text spells, if its grammar bounds lines and sets options first.
ran_text : (grammar : Grammar) → ((before : List Line) (line : Line) → grammar before line → IsInBounds line) → ((before : List Line) (line : Line) → before ≢ [] → grammar before line → is_options line ≡ false)
    → (inputs : Inputs) (options : FleetOptions) (text : List ℕ) (store : Store) (written : List ℕ) → IsLawful inputs.merge → HadRoom store → Follows grammar inputs options text store written → RanText inputs options text store written
ran_text grammar bound none inputs options text store written lawful room follows = record {
  lines = follows.lines;
  spelt = follows.script.whole;
  last = follows.last;
  run = record { lawful = lawful; in_bounds = all_in_bounds grammar bound [] follows.lines follows.script.each; options = options; answers = follows.answers; run = follows.run; had_room = subst HadRoom (sym follows.stored) room };
  begun = refl;
  replies = follows.replies;
  options_first = come_first grammar none follows.lines follows.script.each;
  stored = follows.stored;
}

pub texts_run : (inputs : Inputs) (options : FleetOptions) → TextsRun inputs options
texts_run inputs options = record {
  full = λ text store written lawful room follows. ran_text _ (λ before line is. is.0) full_none inputs options text store written lawful room follows;
  served = λ text store written lawful room follows. ran_text _ (λ before line is. is.0.0) (λ before line some is. full_none before line some is.0) inputs options text store written lawful room follows;
}
