-- The passes of a shared store.
use Rattle.std.specs.Prelude.{◌≡◌, ℕ, ◌≤◌, List}
use Rattle.row_model.specs.Append.{append}
use Rattle.row_model.specs.Fold.{Operator}
use Rattle.step_model.specs.Kept.Keeps.{Keeps}
use Rattle.fleet_history.specs.declared.party.Party.TheVariants.{Writer}
use Rattle.fleet_lock.specs.Passes.{PassValue, pass_view}
use Rattle.fleet_lock.specs.Rule.{HoldsName, seen_of}
use Rattle.party_tests.specs.Callers.{MayHire}
use Rattle.party_tests.specs.Starts.{MayStart}

-- Rows are merged by appending, whatever the settings.
abbrev pub folds_append : List ℕ → Operator
folds_append settings = append

-- Passes with this name and all later ones can be split off. The pass has seen a store that meets the invariant.
pub record MayLend (least : ℕ) (pass : PassValue) : Type 0 where
  pub writer : pass.party ≡ Writer
  pub names : (name : ℕ) → least ≤ name → HoldsName pass.sight name
  pub keeps : Keeps append (seen_of pass.sight).world

-- A coordinator may start through the pass.
abbrev pub Leads : PassValue → Type 0
Leads pass = (lent : ℕ) → MayStart (pass_view folds_append lent pass)

-- The worker with this number may start through the pass.
abbrev pub Serves : ℕ → PassValue → Type 0
Serves number pass = (lent : ℕ) → MayHire (pass_view folds_append lent pass) number
