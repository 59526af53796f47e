-- What the program reads, and what each of its statuses means.
use Rattle.std.specs.Prelude.{◌≡◌, ◌≢◌, ◌==◌, ℕ, ◌+◌, ◌≤◌, true, List, [], ◌∷◌, ◌++◌, length, IsTrue, codes, decimal}
use Rattle.std.specs.List.{list_any}
use Rattle.std.specs.Io.KnownBytes.{Consumes, IsAtEnd}
use Rattle.script_model.specs.Script.{Line, IsBadAt, script_text}
use Rattle.script_model.specs.Grammars.{served_grammar}
use Rattle.script_model.specs.Generated.{generated_lines}
use Rattle.script_model.specs.Follows.{Follows}
use Rattle.script_model.specs.States.{Inputs, FleetOptions, State}
use Rattle.fleet_run.specs.SourceAndSink.{SourceView, SinkView, Took, TookShort, counted_bytes}
use Rattle.fleet_run.specs.Served.{Served, ServedUpToFault, Ran, BeginsScript}

-- The most bytes that a script may have: 64 MiB.
abbrev pub longest : ℕ
longest = 67108864

-- The source gave exactly this text, at most `longest` bytes, and then ended.
pub record ReadWhole (text : List ℕ) (old new : SourceView) : Type 0 where
  pub bytes : Consumes old.left new.left text
  pub at_end : IsAtEnd new.left
  pub ended : new.ended ≡ true
  pub given : new.given ≡ old.given + length text
  pub limit : length text ≤ longest

-- The source gave some bytes, and no more than these.
pub record ReadFront (old new : SourceView) : Type 0 where
  pub text : List ℕ
  pub bytes : Consumes old.left new.left text
  pub given : new.given ≡ old.given + length text

-- ---- run

-- Status 0: the source gave a script and ended, and a fresh fleet with these options ran the script.
pub record RunsScript (inputs : Inputs) (options : FleetOptions) (last : State) (source_old source_new : SourceView)
    (sink_old sink_new : SinkView) : Type 0 where
  pub text : List ℕ
  pub read : ReadWhole text source_old source_new
  pub served : Served inputs options text last sink_old sink_new

-- Status 3: the source gave a text with a bad line, and ended.
pub record HasBadLine (source_old source_new : SourceView) : Type 0 where
  pub text : List ℕ
  pub read : ReadWhole text source_old source_new
  pub number : ℕ
  pub bad : IsBadAt served_grammar text number

-- Status 5: the source gave a script and ended. The script was run up to a line whose reply the
-- sink did not take to its end.
pub record RunsUpTo (inputs : Inputs) (options : FleetOptions) (last : State) (source_old source_new : SourceView)
    (sink_old sink_new : SinkView) : Type 0 where
  pub text : List ℕ
  pub read : ReadWhole text source_old source_new
  pub served : ServedUpToFault inputs options text last sink_old sink_new

-- The source gave a script that begins with these lines, and ended.
pub record ReadsScript (lines : List Line) (old new : SourceView) : Type 0 where
  pub text : List ℕ
  pub read : ReadWhole text old new
  pub begins : BeginsScript text lines

-- Status 6: some lines, or none, were run to their ends, and the sink took exactly their replies. If a line was
-- run, the source had given a script that begins with the lines that were run, and had ended.
pub record RunsFirst (inputs : Inputs) (options : FleetOptions) (source_old source_new : SourceView)
    (sink_old sink_new : SinkView) : Type 0 where
  pub run : List Line
  pub last : State
  pub front : ReadFront source_old source_new
  pub ran : Ran inputs options run last sink_old sink_new
  pub reads : run ≢ [] → ReadsScript run source_old source_new

-- ---- generate

-- A fresh fleet with these options ran the script that the number and the rounds make, and has this state. `written`
-- is the replies.
pub record RunsGenerated (inputs : Inputs) (options : FleetOptions) (number rounds : ℕ) (last : State) : Type 0 where
  pub written : List ℕ
  pub follows : Follows served_grammar inputs options (script_text (generated_lines number rounds)) last.store written
  pub left : follows.last ≡ last

-- The line that tells of the run of a generated script: how many rounds and lines the script has, and how many bytes
-- the script and its replies have. The last count stops at the greatest u64.
abbrev pub summary : (rounds lines script replies : ℕ) → List ℕ
summary rounds lines script replies =
    codes "rounds " ++ decimal rounds ++ codes " lines " ++ decimal lines ++ codes " script " ++ decimal script
    ++ codes " replies " ++ decimal replies ++ 10 ∷ []

-- The summary of the run of the script that the number and the rounds make, with these replies.
abbrev pub summary_of : (number rounds : ℕ) → (written : List ℕ) → List ℕ
summary_of number rounds written =
    summary rounds (length (generated_lines number rounds)) (length (script_text (generated_lines number rounds)))
    (counted_bytes 0 (length written))

-- Status 0: the generated script ran, and the sink took exactly its summary.
pub record WritesSummary (inputs : Inputs) (options : FleetOptions) (number rounds : ℕ) (last : State)
    (sink_old sink_new : SinkView) : Type 0 where
  pub ran : RunsGenerated inputs options number rounds last
  pub took : Took (summary_of number rounds ran.written) sink_old sink_new

-- Status 5: the generated script ran, and the sink did not take its summary to the end.
pub record WritesSummaryShort (inputs : Inputs) (options : FleetOptions) (number rounds : ℕ) (last : State)
    (sink_old sink_new : SinkView) : Type 0 where
  pub ran : RunsGenerated inputs options number rounds last
  pub short : TookShort (summary_of number rounds ran.written) sink_old sink_new

-- ---- statuses

-- The number is one of the program's statuses.
abbrev pub IsStatus : ℕ → Type 0
IsStatus status = IsTrue (list_any (λ known. status == known) (0 ∷ 2 ∷ 3 ∷ 4 ∷ 5 ∷ 6 ∷ 7 ∷ []))

-- The number is one of the statuses of a run of the source's script.
abbrev pub IsRunStatus : ℕ → Type 0
IsRunStatus status = IsTrue (list_any (λ known. status == known) (0 ∷ 3 ∷ 4 ∷ 5 ∷ 6 ∷ 7 ∷ []))

-- The number is one of the statuses of a run of a generated script.
abbrev pub IsGenerateStatus : ℕ → Type 0
IsGenerateStatus status = IsTrue (list_any (λ known. status == known) (0 ∷ 5 ∷ 6 ∷ []))

-- The status is one with which the program ends before it runs a line.
abbrev pub RunsNothing : ℕ → Type 0
RunsNothing status = IsTrue (list_any (λ known. status == known) (2 ∷ 3 ∷ 4 ∷ 7 ∷ []))
