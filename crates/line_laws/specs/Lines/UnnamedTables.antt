-- The law on tables of a finish whose attempt is not live: nothing names them.
use Rattle.std.specs.Prelude.{◌≡◌, ℕ, false, List, [], ◌∷◌, ◌++◌, filter, codes}
use Rattle.std.specs.List.{AllByRecursion}
use Rattle.fleet_model.specs.Nodes.{Tables}
use Rattle.fleet_model.specs.Jobs.{contains, is_active}
use Rattle.fleet_model.specs.Store.{Store, stored_jobs}
use Rattle.fleet_model.specs.Handles.{named_tables}
use Rattle.script_model.specs.Script.{FinishJob}
use Rattle.script_model.specs.States.{Inputs, State}
use Rattle.script_model.specs.Replies.{reply}
use Rattle.line_laws.specs.Ran.{CourseRan}

-- No node of a tree and no active job names the table.
abbrev pub IsUnnamed : Store → ℕ → Type 0
IsUnnamed store table =
    contains (named_tables store.manifest.trees (filter is_active (stored_jobs store))) table ≡ false

-- Tables were put beside the old ones, and nothing names them.
pub record PutUnnamed (old new : Store) : Type 0 where
  pub made : Tables
  pub beside : new.tables ≡ old.tables ++ made
  pub unnamed : AllByRecursion (λ table. IsUnnamed new table.0) made

-- So it is after each course of a finish that is refused since its attempt is not live.
abbrev pub UnownedTablesAreUnnamed : Type 0
UnownedTablesAreUnnamed = (inputs : Inputs) (old new : State) (n job : ℕ) (answer : List ℕ)
    → CourseRan inputs old (FinishJob n job) answer new → answer ≡ reply (codes "notowner" ∷ [])
    → PutUnnamed old.store new.store
