-- The options of a fleet are those that its first line sets.
use Rattle.std.proofs.Common.{◌≡◌, refl, sym, ◌∙◌, ap, ℕ, ◌+◌, List, [], ◌∷◌, false}
use Rattle.std.specs.List.{AllByRecursion}
use Rattle.script_model.specs.Script.{Line, Options, Clock, SetFault, Poll, ClaimJobs, FinishJob, Settle, Together}
use Rattle.script_model.specs.States.{Inputs, State, fresh_state}
use Rattle.script_model.specs.LineCourses.{prepared_state}
use Rattle.script_model.specs.LineSteps.{OneCourse}
use Rattle.script_model.specs.Grammars.{is_options}
use Rattle.script_model.specs.Lines.Settles.{are_live}
use Rattle.script_model.specs.Follows.{LineStep, ScriptRun}
use Rattle.line_laws.specs.Ran.{IsStepOf}
use Rattle.line_laws.specs.Texts.{options_of, OptionsStay}
use Rattle.line_laws.proofs.Scripts.{StepsRun, settle_steps}

-- ---- one line

course_options : (inputs : Inputs) (number : ℕ) (old : State) (line : Line) (answer : List ℕ) (new : State) → OneCourse inputs number old line answer new → new.options ≡ (prepared_state line old).options
course_options inputs number old line answer new one = ap (λ (p : List ℕ × State). p.1.options) (sym one.ends)

others_prepared : (line : Line) (s : State) → is_options line ≡ false → (prepared_state line s).options ≡ s.options
others_prepared (Options timeout concurrent slots ranges table_size moves retention) s e = absurd (cc e)
others_prepared (Clock moment) s e = refl
others_prepared (SetFault k stands) s e = refl
others_prepared line s e = refl

step_sets_none : (coordinator worker : ℕ) (line : Line) → IsStepOf coordinator worker line → is_options line ≡ false
step_sets_none coordinator worker (Poll n) is = refl
step_sets_none coordinator worker (ClaimJobs n) is = refl
step_sets_none coordinator worker (FinishJob n job) is = refl
step_sets_none coordinator worker line is = absurd is

steps_options : (inputs : Inputs) (number coordinator worker : ℕ) (old : State) (steps : List Line) (answer : List ℕ) (new : State) → AllByRecursion (IsStepOf coordinator worker) steps → StepsRun inputs number old steps answer new → new.options ≡ old.options
steps_options inputs number coordinator worker old [] answer new each same = ap (λ (s : State). s.options) same
steps_options inputs number coordinator worker old (step ∷ others) answer new each (replied, mid, one, stops, more) =
    steps_options inputs number coordinator worker mid others answer new each.1 more ∙ course_options inputs number old step replied mid one ∙ others_prepared step old (step_sets_none coordinator worker step each.0)

-- A line leaves the options that it prepares.
line_options : (inputs : Inputs) (number : ℕ) (old : State) (line : Line) (answer : List ℕ) (new : State) → LineStep inputs number old line answer new → new.options ≡ (prepared_state line old).options
line_options inputs number old (Settle coordinator worker rounds) answer new step =
    let s = settle_steps (are_live coordinator worker old) inputs number old coordinator worker rounds answer new step in
    steps_options inputs number coordinator worker old s.steps answer new s.each s.run
line_options inputs number old (Together workers turns) answer new step = absurd step
line_options inputs number old line answer new step = course_options inputs number old line answer new step

-- ---- all lines

others_options : (inputs : Inputs) (number : ℕ) (old : State) (lines : List Line) (answers : List (List ℕ)) (new : State) → AllByRecursion (λ line. is_options line ≡ false) lines → ScriptRun inputs number old lines answers new → new.options ≡ old.options
others_options inputs number old [] [] new none run = ap (λ (s : State). s.options) run
others_options inputs number old (line ∷ lines) (answer ∷ answers) new none (mid, step, rest) =
    others_options inputs (number + 1) mid lines answers new none.1 rest ∙ line_options inputs number old line answer mid step ∙ others_prepared line old none.0
others_options inputs number old [] (answer ∷ answers) new none run = absurd run
others_options inputs number old (line ∷ lines) [] new none run = absurd run

-- Lines of which at most the first sets options leave the options that it sets.
pub options_stay : OptionsStay
options_stay inputs [] last run first = by run.answers run.run
  where
    by : (answers : List (List ℕ)) → ScriptRun inputs 1 (fresh_state run.options) [] answers last → last.options ≡ run.options
    by [] same = ap (λ (s : State). s.options) same
    by (answer ∷ answers) bad = absurd bad
options_stay inputs (line ∷ lines) last run first = by run.answers run.run
  where
    by : (answers : List (List ℕ)) → ScriptRun inputs 1 (fresh_state run.options) (line ∷ lines) answers last → last.options ≡ options_of (line ∷ lines) run.options
    by [] bad = absurd bad
    by (answer ∷ answers) (mid, step, rest) = others_options inputs 2 mid lines answers last first rest ∙ line_options inputs 1 (fresh_state run.options) line answer mid step
