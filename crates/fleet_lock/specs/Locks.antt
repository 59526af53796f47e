-- Which shared store a lock is, and through which pass it is called.
use Rattle.std.specs.Prelude.{ℕ, List}
use Rattle.row_model.specs.Fold.{Operator}
use Rattle.step_model.specs.Views.{StoreView}
use Rattle.atomic_table.specs.Seated.{TableId}
use Rattle.fleet_lock.specs.Passes.{PassValue, pass_view}
use Rattle.fleet_lock.specs.declared.lock.Lock.{Lock}
use Rattle.fleet_lock.specs.declared.pass_store.Through.{Through}

-- What no other shared store has.
abbrev pub table_of : {S : Type 0} → Lock S → TableId
table_of lock = lock.table.shared.table_id

-- The pass.
abbrev pub pass_of : {S R : Type 0} → Through S R → PassValue
pass_of through = through.pass.now

-- The name of the reference to it.
abbrev pub lent_of : {S R : Type 0} → Through S R → ℕ
lent_of through = through.pass.ghost_name

-- What the pass shows of the store.
abbrev pub view_through : {S R : Type 0} → (folds : List ℕ → Operator) → Through S R → StoreView
view_through folds through = pass_view folds (lent_of through) (pass_of through)
