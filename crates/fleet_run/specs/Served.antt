-- The result of running a script: the replies that were written, and the state of the fleet that is left.
use Rattle.std.specs.Prelude.{◌≡◌, ◌≢◌, ℕ, List, [], ◌∷◌, ◌++◌}
use Rattle.std.specs.List.{concat}
use Rattle.script_model.specs.Script.{Line, IsScript}
use Rattle.script_model.specs.Grammars.{served_grammar}
use Rattle.script_model.specs.States.{Inputs, FleetOptions, State, fresh_state}
use Rattle.script_model.specs.Follows.{LineStep, ScriptRun, Follows}
use Rattle.fleet_run.specs.SourceAndSink.{SinkView, Took, TookShort}

-- ---- one line

-- The line took the old state to the new one, and the sink took exactly its reply.
pub record RanLine (inputs : Inputs) (number : ℕ) (line : Line) (old new : State) (sink_old sink_new : SinkView)
    : Type 0 where
  pub answer : List ℕ
  pub step : LineStep inputs number old line answer new
  pub took : Took answer sink_old sink_new

-- The line took the old state to the new one. The sink did not take its reply to the end.
pub record RanLineShort (inputs : Inputs) (number : ℕ) (line : Line) (old new : State) (sink_old sink_new : SinkView)
    : Type 0 where
  pub answer : List ℕ
  pub step : LineStep inputs number old line answer new
  pub short : TookShort answer sink_old sink_new

-- ---- lines

-- A fresh fleet with these options ran these lines and has this state. The sink took exactly their replies.
pub record Ran (inputs : Inputs) (options : FleetOptions) (lines : List Line) (last : State) (old new : SinkView)
    : Type 0 where
  pub answers : List (List ℕ)
  pub run : ScriptRun inputs 1 (fresh_state options) lines answers last
  pub took : Took (concat answers) old new

-- A fresh fleet ran these lines. The sink took all their replies, except that it did not take the
-- last one to its end.
pub record RanButTheEnd (inputs : Inputs) (options : FleetOptions) (lines : List Line) (last : State)
    (old new : SinkView) : Type 0 where
  pub answers : List (List ℕ)
  pub answer : List ℕ
  pub run : ScriptRun inputs 1 (fresh_state options) lines (answers ++ answer ∷ []) last
  pub front : List ℕ
  pub end : List ℕ
  pub parts : answer ≡ front ++ end
  pub some_left : end ≢ []
  pub took : Took (concat answers ++ front) old new

-- A fresh fleet ran the first of these lines. The sink took their replies, except that it did not
-- take the last one to its end.
pub record RunsUpToFault (inputs : Inputs) (options : FleetOptions) (lines : List Line) (last : State)
    (old new : SinkView) : Type 0 where
  pub run : List Line
  pub left : List Line
  pub parts : lines ≡ run ++ left
  pub ran : RanButTheEnd inputs options run last old new

-- A fresh fleet ran the first of these lines to their ends, and the sink took exactly their replies.
pub record RunsFront (inputs : Inputs) (options : FleetOptions) (lines : List Line) (old new : SinkView)
    : Type 0 where
  pub run : List Line
  pub left : List Line
  pub parts : lines ≡ run ++ left
  pub last : State
  pub ran : Ran inputs options run last old new

-- ---- texts

-- The text is a script. A fresh fleet with these options ran it and has this state. The sink took exactly the
-- replies.
pub record Served (inputs : Inputs) (options : FleetOptions) (text : List ℕ) (last : State) (old new : SinkView)
    : Type 0 where
  pub written : List ℕ
  pub follows : Follows served_grammar inputs options text last.store written
  pub left : follows.last ≡ last
  pub took : Took written old new

-- The text is a script. It was run up to a line whose reply the sink did not take to its end.
pub record ServedUpToFault (inputs : Inputs) (options : FleetOptions) (text : List ℕ) (last : State)
    (old new : SinkView) : Type 0 where
  pub lines : List Line
  pub script : IsScript served_grammar text lines
  pub runs : RunsUpToFault inputs options lines last old new

-- The text is a script that begins with these lines.
pub record BeginsScript (text : List ℕ) (lines : List Line) : Type 0 where
  pub left : List Line
  pub script : IsScript served_grammar text (lines ++ left)

-- A fresh fleet ran some lines to their ends, or none, and the sink took exactly their replies. If a line was
-- run, the text is a script that begins with the lines that were run.
pub record ServedFront (inputs : Inputs) (options : FleetOptions) (text : List ℕ) (old new : SinkView) : Type 0 where
  pub run : List Line
  pub last : State
  pub ran : Ran inputs options run last old new
  pub begins : run ≢ [] → BeginsScript text run
