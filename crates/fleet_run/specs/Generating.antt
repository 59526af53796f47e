-- How a generated script runs when its replies are counted alone.
use Rattle.std.specs.Prelude.{◌≡◌, ℕ, length}
use Rattle.script_model.specs.Generated.{generated_lines}
use Rattle.script_model.specs.Script.{script_text}
use Rattle.script_model.specs.States.{Inputs, FleetOptions, State}
use Rattle.fleet_run.specs.SourceAndSink.{counted_bytes}
use Rattle.fleet_run.specs.Program.{RunsGenerated}
use Rattle.fleet_run.specs.declared.generated_runs.Sizes.{Sizes}

-- The generated script ran, and these are the sizes of the script and of its replies.
pub record RunsCounted (inputs : Inputs) (options : FleetOptions) (number rounds : ℕ) (last : State) (sizes : Sizes)
    : Type 0 where
  pub ran : RunsGenerated inputs options number rounds last
  pub script : sizes.script ≡ length (script_text (generated_lines number rounds))
  pub replies : sizes.replies ≡ counted_bytes 0 (length ran.written)
