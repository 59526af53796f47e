-- The words of the command line.
use Rattle.std.specs.Prelude.{◌≡◌, ℕ, ◌<◌, ◌≤◌, ◌^◌, Bool, true, false, List, [], ◌∷◌, codes, decimal, ⊤}
use Rattle.fleet_level.specs.Options.{FitOptions, option_words}
use Rattle.fleet_run.specs.declared.command.Command.{Command}
use Rattle.fleet_run.specs.declared.command.Command.TheVariants.{Run, RunLevels, Generate}

-- The words that ask for this: `run`, `run level` with the numbers of the level scheduler's options, or `generate` with
-- a number and a count of rounds. Numbers are in decimal digits, without a sign and without leading zeros.
abbrev pub command_words : Command → List (List ℕ)
command_words Run = codes "run" ∷ []
command_words (RunLevels options) = option_words options
command_words (Generate number rounds) = codes "generate" ∷ decimal number ∷ decimal rounds ∷ []

-- The options are allowed, the number is an unsigned 64-bit one, and the rounds are at most 2,000.
abbrev pub IsAllowed : Command → Type 0
IsAllowed Run = ⊤
IsAllowed (RunLevels options) = FitOptions options
IsAllowed (Generate number rounds) = (number < 2 ^ 64) × (rounds ≤ 2000)

-- The words ask for this.
pub record Asks (words : List (List ℕ)) (command : Command) : Type 0 where
  pub allowed : IsAllowed command
  pub spelt : words ≡ command_words command

-- The command runs the script that the source gives.
abbrev pub is_run : Command → Bool
is_run Run = true
is_run (RunLevels options) = true
is_run (Generate number rounds) = false

-- The words ask for a run of the script that the source gives.
pub record AskToRun (words : List (List ℕ)) : Type 0 where
  pub command : Command
  pub asks : Asks words command
  pub runs : is_run command ≡ true
