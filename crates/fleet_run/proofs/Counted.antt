-- The run of a generated script whose replies are counted alone.
use Rattle.std.proofs.Common.{◌≡◌, ◌⊎◌, inl, inr, sym, ap, ◌∙◌, subst, ℕ, ◌+◌, ◌*◌, List, length, Result, Ok, Err}
use Rattle.std.specs.Prelude.{OnErr, OnOk}
use Rattle.fleet_generate.proofs.ScriptLines.{count_of_lines}
use Rattle.script_model.specs.Script.{script_text}
use Rattle.script_model.specs.Generated.{generated_lines}
use Rattle.script_model.specs.States.{Inputs, FleetOptions, State}
use Rattle.fleet_run.specs.Commands.{Asks, IsAllowed, command_words}
use Rattle.fleet_run.specs.Generating.{RunsCounted}
use Rattle.fleet_run.specs.Program.{WritesSummary, WritesSummaryShort, summary, summary_of}
use Rattle.fleet_run.specs.Served.{Served}
use Rattle.fleet_run.specs.SourceAndSink.{SinkView, Took, TookShort, counted_bytes}
use Rattle.fleet_run.specs.declared.command.Command.{Command}
use Rattle.fleet_run.specs.declared.command.Command.TheVariants.{Generate}
use Rattle.fleet_run.specs.declared.generated_runs.Sizes.{Sizes}
use Rattle.fleet_run.specs.declared.script.FleetError.{FleetError}
use Rattle.fleet_run.specs.declared.script.FleetError.TheVariants.{BadLine, Memory, WriteFault}
use Rattle.fleet_run.proofs.CommandWords.{for_asked}

-- If a fresh sink counted the replies, the sizes are those of the script and of its replies.
pub counted : (inputs : Inputs) (options : FleetOptions) (number rounds : ℕ) (text : List ℕ) (last : State) (old new : SinkView) (script replies : ℕ) → text ≡ script_text (generated_lines number rounds) → old.taken ≡ 0 → new.taken ≡ replies → script ≡ length text
    → Served inputs options text last old new → RunsCounted inputs options number rounds last (record { script = script; replies = replies })
counted inputs options number rounds text last old new script replies is fresh taken size ran =
    let served = subst (λ text. Served inputs options text last old new) is ran in
    record {
      ran = record { written = served.written; follows = served.follows; left = served.left };
      script = size ∙ ap length is;
      replies = sym taken ∙ served.took.taken ∙ ap (λ n. counted_bytes n (length served.written)) fresh;
    }

module _ (inputs : Inputs) (options : FleetOptions) (number rounds : ℕ) (last : State) (sizes : Sizes) (ran : RunsCounted inputs options number rounds last sizes) (line : List ℕ) (is : line ≡ summary rounds (9 * rounds + 2) sizes.script sizes.replies) (old new : SinkView) (r : Result (Unit {0}) FleetError) where
  -- The line is the summary of the run.
  sums_up : line ≡ summary_of number rounds ran.ran.written
  sums_up =
      is ∙ ap (λ n. summary rounds n sizes.script sizes.replies) (sym (count_of_lines number rounds))
      ∙ ap (λ n. summary rounds (length (generated_lines number rounds)) n sizes.replies) ran.script
      ∙ ap (λ n. summary rounds (length (generated_lines number rounds)) (length (script_text (generated_lines number rounds))) n) ran.replies

  -- If the sink took the line, the summary was written.
  pub wrote : OnOk r (Took line old new) → OnOk r (WritesSummary inputs options number rounds last old new)
  wrote took = by r took
    where
      by : (r : Result (Unit {0}) FleetError) → OnOk r (Took line old new) → OnOk r (WritesSummary inputs options number rounds last old new)
      by (Ok x) took = record { ran = ran.ran; took = subst (λ text. Took text old new) sums_up took }
      by (Err e) took = took

  -- If the sink took a front of the line, a front of the summary was written.
  pub wrote_short : OnErr r (TookShort line old new) → r ≡ Err WriteFault → WritesSummaryShort inputs options number rounds last old new
  wrote_short took failed = by r took failed
    where
      by : (r : Result (Unit {0}) FleetError) → OnErr r (TookShort line old new) → r ≡ Err WriteFault → WritesSummaryShort inputs options number rounds last old new
      by (Ok x) took failed = absurd (cc failed)
      by (Err e) took failed = record { ran = ran.ran; short = subst (λ text. TookShort text old new) sums_up took }

-- ---- the words

module _ (inputs : Inputs) (options : FleetOptions) (last : State) (old new : SinkView) (words : List (List ℕ)) (command : Command) (n r m s : ℕ) (is : command ≡ Generate m s) (reads : IsAllowed command × (words ≡ command_words command)) (asks : Asks words (Generate n r)) where
  -- The summary of the numbers that were read is that of the numbers that the words ask for.
  pub wrote_as_asked : WritesSummary inputs options m s last old new → WritesSummary inputs options n r last old new
  wrote_as_asked wrote = for_asked (λ n r. WritesSummary inputs options n r last old new) words command n r m s is reads asks wrote

  pub wrote_short_as_asked : WritesSummaryShort inputs options m s last old new → WritesSummaryShort inputs options n r last old new
  wrote_short_as_asked wrote = for_asked (λ n r. WritesSummaryShort inputs options n r last old new) words command n r m s is reads asks wrote

-- A refusal of a script in the grammar names no line.
pub names_no_line : (e : FleetError) (n : ℕ) → e ≡ BadLine n → (e ≡ WriteFault) ⊎ (e ≡ Memory) → ⊥
names_no_line e n is (inl h) = absurd (cc (is, h))
names_no_line e n is (inr h) = absurd (cc (is, h))
