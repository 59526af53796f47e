-- The law on commits: lawful ones keep the invariant.
use Rattle.std.specs.Prelude.{List}
use Rattle.row_model.specs.Fold.{Operator}
use Rattle.fleet_model.specs.History.{Commit, Step}
use Rattle.step_laws.specs.CallLaws.{ManifestPutKeeps}

-- Commits keep the invariant, whatever their steps are.
abbrev pub CommitsKeep : Operator → Type 0
CommitsKeep merge = (steps : List Step) → ManifestPutKeeps merge (Commit steps)
