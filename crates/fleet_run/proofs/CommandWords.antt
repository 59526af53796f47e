-- Which words name no command.
use Rattle.std.proofs.Common.{◌≡◌, ◌≢◌, sym, ◌∙◌, ap, subst, ℕ, ◌<◌, ◌^◌, List, [], ◌∷◌, length, arith}
use Rattle.std.specs.Prelude.{decimal}
use Rattle.std.proofs.lemmas.Fmt.{decimal_injective}
use Rattle.sched_model.specs.Levels.{LevelOptions}
use Rattle.fleet_level.specs.Options.{FitOptions, option_words}
use Rattle.fleet_run.specs.Commands.{Asks, IsAllowed, command_words}
use Rattle.fleet_run.specs.declared.command.Command.{Command}
use Rattle.fleet_run.specs.declared.command.Command.TheVariants.{Run, RunLevels, Generate}

-- Three words of which the last one spells more than 2,000 rounds name no command.
pub too_many_rounds : (word number : List ℕ) (rounds : ℕ) (command : Command) → rounds < 2 ^ 64 → 2000 < rounds → IsAllowed command → word ∷ number ∷ decimal rounds ∷ [] ≢ command_words command
too_many_rounds word number rounds Run fits many allowed same = cc same
too_many_rounds word number rounds (RunLevels options) fits many allowed same = cc same
too_many_rounds word number rounds (Generate n r) fits many allowed same =
    absurd (omega (arith, many, allowed.1, decimal_injective rounds r fits (omega (arith, allowed.1)) (cc same)))

-- Words that ask for these numbers and spell the others name the same numbers.
same_numbers : (words : List (List ℕ)) (n r m s : ℕ) → Asks words (Generate n r) → IsAllowed (Generate m s) → words ≡ command_words (Generate m s) → (m ≡ n) × (s ≡ r)
same_numbers words n r m s asks allowed spelt =
    let same : command_words (Generate m s) ≡ command_words (Generate n r) = sym spelt ∙ asks.spelt in
    (decimal_injective m n allowed.0 asks.allowed.0 (cc same), decimal_injective s r (omega (arith, allowed.1)) (omega (arith, asks.allowed.1)) (cc same))

-- What holds for the numbers that were read holds for those that the words ask for.
pub for_asked : (P : ℕ → ℕ → Type 0) (words : List (List ℕ)) (command : Command) (n r m s : ℕ) → command ≡ Generate m s → IsAllowed command × (words ≡ command_words command) → Asks words (Generate n r) → P m s → P n r
for_asked P words command n r m s is reads asks holds =
    let fits = subst (λ c. IsAllowed c × (words ≡ command_words c)) is reads in
    let same = same_numbers words n r m s asks fits.0 fits.1 in
    subst (λ n. P n r) same.0 (subst (λ r. P m r) same.1 holds)

-- Five words that name no level options name no command.
pub no_levels : (words : List (List ℕ)) → length words ≡ 5 → ((options : LevelOptions) → FitOptions options → words ≢ option_words options) → (command : Command) → IsAllowed command → words ≢ command_words command
no_levels words five none Run allowed same = absurd (cc (sym five ∙ ap length same))
no_levels words five none (RunLevels options) allowed same = none options allowed same
no_levels words five none (Generate number rounds) allowed same = absurd (cc (sym five ∙ ap length same))
