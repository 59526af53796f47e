-- Laws about generated scripts.
use Rattle.std.specs.Prelude.{◌≡◌, ℕ, ◌+◌, ◌*◌, ◌≤◌, Bool, true, false, length}
use Rattle.std.specs.List.{AllByRecursion}
use Rattle.script_model.specs.Script.{Line, StartCoordinator, StartWorker, FlushRows, ReadKey, SubmitJob, Poll, ClaimJobs, FinishJob, script_text, IsScript}
use Rattle.script_model.specs.Grammars.{full_grammar}
use Rattle.script_model.specs.Generated.{generated_lines}

-- The lines of a generated script are a script of the full grammar, so they are in bounds.
abbrev pub GeneratedIsScript : Type 0
GeneratedIsScript = (number rounds : ℕ) → rounds ≤ 2000
    → IsScript full_grammar (script_text (generated_lines number rounds)) (generated_lines number rounds)

-- The line is of one of the kinds that generated scripts have.
abbrev pub is_of_generated_kind : Line → Bool
is_of_generated_kind (StartCoordinator n) = true
is_of_generated_kind (StartWorker n release) = true
is_of_generated_kind (FlushRows name segment floor tick rows) = true
is_of_generated_kind (ReadKey segment key seq now) = true
is_of_generated_kind (SubmitJob segment destination sources) = true
is_of_generated_kind (Poll n) = true
is_of_generated_kind (ClaimJobs n) = true
is_of_generated_kind (FinishJob n job) = true
is_of_generated_kind _ = false

-- Each line of a generated script is of one of these kinds.
abbrev pub GeneratedKinds : Type 0
GeneratedKinds = (number rounds : ℕ) → rounds ≤ 2000
    → AllByRecursion (λ line. is_of_generated_kind line ≡ true) (generated_lines number rounds)

-- A generated script has nine lines for each round, after the two that start the parties.
abbrev pub GeneratedCount : Type 0
GeneratedCount = (number rounds : ℕ) → length (generated_lines number rounds) ≡ 9 * rounds + 2
