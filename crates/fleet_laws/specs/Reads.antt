-- A store answers reads as if it still had every flush. Some rows of one key may be replaced by others
-- without a change to any read.
use Rattle.std.specs.Prelude.{ℕ, ◌≤◌, int_le, IsTrue, Bool, true, false, List, ◌++◌}
use Rattle.row_model.specs.Rows.{Row}
use Rattle.row_model.specs.Fold.{Operator}
use Rattle.fleet_model.specs.Store.{Manifest, Store}
use Rattle.fleet_model.specs.Invariants.ReadsFit.{SameReads}
use Rattle.fleet_model.specs.Invariants.Invariant.{StoreInvariant}
use Rattle.fleet_model.specs.Reads.{StoredReadsAgree}

-- Replacements of a key's rows that change no read add up. Newer and older rows may each be replaced, and a
-- replacement may be replaced again. Rows that may be replaced above older rows may also be replaced if no
-- rows are older. Rows that may be replaced may still be replaced after the horizon or the tick has risen.
pub record ReplacementsAddUp (merge : Operator) (manifest : Manifest) (key : List ℕ) : Type 0 where
  pub side_by_side : (oldest : Bool) (newer newer' older older' : List Row)
      → SameReads merge manifest false key newer newer' → SameReads merge manifest oldest key older older'
      → SameReads merge manifest oldest key (newer ++ older) (newer' ++ older')
  pub in_turn : (oldest : Bool) (a b c : List Row) → SameReads merge manifest oldest key a b
      → SameReads merge manifest oldest key b c → SameReads merge manifest oldest key a c
  pub as_oldest : (a b : List Row) → SameReads merge manifest false key a b → SameReads merge manifest true key a b
  pub later_on : (oldest : Bool) (later : Manifest) (a b : List Row) → manifest.horizon ≤ later.horizon
      → IsTrue (int_le manifest.tick later.tick)
      → SameReads merge manifest oldest key a b → SameReads merge later oldest key a b

-- In a store that meets the invariant, a read over the rows that the nodes hold answers as a read over all
-- rows that were flushed into them. This is so for reads from the horizon and the tick on.
abbrev pub StoresAnswerReads : Operator → Type 0
StoresAnswerReads merge = (store : Store) → StoreInvariant merge store → StoredReadsAgree merge store
