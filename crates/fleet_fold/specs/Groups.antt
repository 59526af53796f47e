-- A group of operands while its rows are taken, and the calls that take and merge them.
use Rattle.std.specs.Prelude.{◌≡◌, ◌≢◌, ℕ, ◌≤◌, length, true, false, List, [], ◌∷◌, ◌++◌, Option, Some, None, reverse, map, Result, Ok, Err, ⊤}
use Rattle.std.specs.List.{AllByRecursion}
use Rattle.std.specs.Option.{option_or, option_to_list}
use Rattle.row_model.specs.Fold.{Operator, fold_bytes}
use Rattle.row_model.specs.FoldedRows.{greater_stamp, group_operands, greatest_created}
use Rattle.row_model.specs.Rows.{Row, Content, is_operand}
use Rattle.row_laws.specs.Batches.{batches}
use Rattle.fleet_iter.specs.Iteration.{IteratorState, AreRising, CanFail, IsHandedOn}
use Rattle.fleet_rows.specs.Row.{row_of, rows_of}
use Rattle.fleet_rows.specs.declared.row.RowEntry.{RowEntry}
use Rattle.fleet_rows.specs.declared.errors.SlateDBError.{SlateDBError}
use Rattle.fleet_rows.specs.declared.errors.SlateDBError.TheVariants.{Memory}
use Rattle.fleet_fold.specs.Retention.{from_ahead, IsReadable}
use Rattle.fleet_fold.specs.Folded.{above, last_above, in_order, answer_of, batch_answer, batch_len, lesser_stamp, least_expiry, merged_group, joining, folded_after}
use Rattle.fleet_fold.specs.declared.group.Group.{Group}
use Rattle.fleet_fold.specs.declared.group.GroupRule.{GroupRule}

-- An error other than `Memory` is the error of this answer.
abbrev pub RefusesAs : {A : Type 0} → Result A SlateDBError → SlateDBError → Type 0
RefusesAs answer e = e ≢ Memory → answer ≡ Err e

-- ---- the rows in a group

-- The group has its first row, and the operands `taken` after it. Full batches are merged, and at most `most`
-- operands wait to be merged.
pub record GathersUpTo (most : ℕ) (merge : Operator) (first : Row) (taken : List Row) (g : Group) : Type 0 where
  pub key : g.key ≡ first.key
  pub seq : g.seq ≡ first.seq
  pub stamp : g.stamp ≡ first.expires
  pub created : g.created ≡ greatest_created (first ∷ taken)
  pub expires : g.expires ≡ least_expiry (first ∷ taken)
  pub operands : AllByRecursion (λ r. is_operand r ≡ true) (first ∷ taken)
  pub done : List (List Row)
  pub pending : List Row
  pub plain : AllByRecursion (λ r. is_operand r ≡ true) pending
  pub cut : (later : List Row)
      → batches batch_len (first ∷ (taken ++ later)) ≡ done ++ batches batch_len (pending ++ later)
  pub folded : map (batch_answer merge first) done ≡ map Ok g.folded.items
  pub batch : reverse g.batch.items ≡ group_operands pending
  pub count : length g.batch.items ≡ length pending
  pub late : g.late ≡ last_above first.seq pending
  pub room : length pending ≤ most

-- The group has gathered these operands, and fewer than a full batch of them wait to be merged.
abbrev pub Gathers : (merge : Operator) (first : Row) (taken : List Row) (g : Group) → Type 0
Gathers merge first taken g = GathersUpTo 99 merge first taken g

-- The group has its first row, and the operands `taken` after it. All of its operands are merged.
pub record IsMerged (merge : Operator) (first : Row) (taken : List Row) (g : Group) : Type 0 where
  pub key : g.key ≡ first.key
  pub seq : g.seq ≡ first.seq
  pub created : g.created ≡ greatest_created (first ∷ taken)
  pub expires : g.expires ≡ least_expiry (first ∷ taken)
  pub operands : AllByRecursion (λ r. is_operand r ≡ true) (first ∷ taken)
  pub folded : map (batch_answer merge first) (batches batch_len (first ∷ taken)) ≡ map Ok g.folded.items
  pub late : g.late ≡ None

-- ---- what is done to a group

-- The group notes a row's stamps and sequence. It does not take the row as an operand.
pub record Notes (old : Group) (r : Row) (new : Group) : Type 0 where
  pub key : new.key ≡ old.key
  pub seq : new.seq ≡ old.seq
  pub stamp : new.stamp ≡ old.stamp
  pub created : new.created ≡ greater_stamp old.created r.created
  pub expires : new.expires ≡ lesser_stamp old.expires r.expires
  pub late : new.late ≡ option_or (above old.seq r) old.late
  pub batch : new.batch.items ≡ old.batch.items
  pub folded : new.folded.items ≡ old.folded.items

-- The answer of merging the operands that wait to be merged.
abbrev pub pending_answer : Operator → Group → Result (List ℕ) SlateDBError
pending_answer merge g = in_order g.seq g.late (answer_of (fold_bytes merge g.key None (reverse g.batch.items)))

-- The answer for the operands that wait to be merged, or no answer if none waits.
abbrev pub left_to_merge : Result (List ℕ) SlateDBError → List (List ℕ) → List (Result (List ℕ) SlateDBError)
left_to_merge answer [] = []
left_to_merge answer (x ∷ batch) = answer ∷ []

-- The operands that wait to be merged, if there are any, are merged into one result.
pub record Flushes (merge : Operator) (old new : Group) : Type 0 where
  pub key : new.key ≡ old.key
  pub seq : new.seq ≡ old.seq
  pub stamp : new.stamp ≡ old.stamp
  pub created : new.created ≡ old.created
  pub expires : new.expires ≡ old.expires
  pub late : new.late ≡ old.late
  pub in_order : old.batch.items ≢ [] → new.late ≡ None
  pub batch : new.batch.items ≡ []
  pub folded : map Ok new.folded.items
      ≡ map Ok old.folded.items ++ left_to_merge (pending_answer merge old) old.batch.items

abbrev pub RefusesFlush : Operator → Group → SlateDBError → Type 0
RefusesFlush merge g e = e ≢ Memory → left_to_merge (pending_answer merge g) g.batch.items ≡ Err e ∷ []

-- If the operands that wait to be merged fill a batch, they are merged.
abbrev pub FlushesFull : (merge : Operator) (old new : Group) → Type 0
FlushesFull merge old new = (first : Row) (taken : List Row) → GathersUpTo batch_len merge first taken old
    → Gathers merge first taken new

abbrev pub RefusesFull : Operator → Group → SlateDBError → Type 0
RefusesFull merge g e = (first : Row) (taken later : List Row) → GathersUpTo batch_len merge first taken g
    → RefusesAs (merged_group merge (first, taken ++ later)) e

-- The group takes one more operand, which waits to be merged and may fill a batch.
abbrev pub Pushes : (old : Group) (r : Row) (new : Group) → Type 0
Pushes old r new = (merge : Operator) (first : Row) (taken : List Row) → Gathers merge first taken old
    → GathersUpTo batch_len merge first (taken ++ r ∷ []) new

-- The group takes one more operand, and a batch that this one fills is merged.
abbrev pub Adds : (merge : Operator) (old : Group) (r : Row) (new : Group) → Type 0
Adds merge old r new = (first : Row) (taken : List Row) → Gathers merge first taken old
    → Gathers merge first (taken ++ r ∷ []) new

abbrev pub RefusesAdd : (merge : Operator) (g : Group) (r : Row) (e : SlateDBError) → Type 0
RefusesAdd merge g r e = (first : Row) (taken later : List Row) → Gathers merge first taken g
    → RefusesAs (merged_group merge (first, taken ++ r ∷ later)) e

-- The group's row with this content.
abbrev pub with_value : Group → Content → Row
with_value g content = record { key = g.key; content = content; seq = g.seq; created = g.created; expires = g.expires }

-- The group becomes a row, over the base if there is one.
abbrev pub Closes : (merge : Operator) (g : Group) (base : List Row) (r : Row) → Type 0
Closes merge g base r = (first : Row) (taken : List Row) → Gathers merge first taken g
    → merged_group merge (first, taken ++ base) ≡ Ok r

abbrev pub RefusesClose : (merge : Operator) (g : Group) (base : List Row) (e : SlateDBError) → Type 0
RefusesClose merge g base e = (first : Row) (taken : List Row) → Gathers merge first taken g
    → RefusesAs (merged_group merge (first, taken ++ base)) e

-- ---- a group and the rows of an iterator

-- A group has taken all rows that join it. The first row after them may have been read ahead.
pub record Joins (merge : Operator) (rule : GroupRule) (first : Row) (old : IteratorState)
    (base : Option RowEntry) (g : Group) (later : Option RowEntry) (new : IteratorState) : Type 0 where
  pub taken : List Row
  pub gathers : Gathers merge first taken g
  pub joined : joining rule first old.rows ≡ taken ++ rows_of (option_to_list base)
  pub parts : old.rows ≡ joining rule first old.rows ++ from_ahead later new

-- A group has taken some of the rows that join it, and the others are still to be read.
pub record JoinsSoFar (merge : Operator) (rule : GroupRule) (first : Row) (old : IteratorState) (g : Group)
    (new : IteratorState) : Type 0 where
  pub taken : List Row
  pub gathers : Gathers merge first taken g
  pub joined : joining rule first old.rows ≡ taken ++ joining rule first new.rows
  pub parts : old.rows ≡ taken ++ new.rows

-- The base, if there is one, is no operand.
abbrev pub IsNoOperand : Option RowEntry → Type 0
IsNoOperand None = ⊤
IsNoOperand (Some row) = is_operand (row_of row) ≡ false

pub record TakesRows (merge : Operator) (rule : GroupRule) (g : Group) (old : IteratorState)
    (base : Option RowEntry) (filled : Group) (later : Option RowEntry) (new : IteratorState) : Type 0 where
  pub group : (first : Row) (before : IteratorState) → JoinsSoFar merge rule first before g old
      → Joins merge rule first before base filled later new
  pub plain : IsNoOperand base
  pub readable : IsReadable new
  pub whole : new.whole ≡ old.whole
  pub steady : new.steady ≡ old.steady

-- ---- refusals in the midst of reading

-- What refuses a call that reads rows: the inner iterator, if it failed, and otherwise this answer. The error
-- may be `Memory` instead.
pub record RefusesReading {A : Type 0} (answer : Result A SlateDBError) (old new : IteratorState)
    (e : SlateDBError) : Type 0 where
  pub read : new.failure ≢ None → CanFail old.whole e
  pub handed : new.failure ≢ None → IsHandedOn new e
  pub merged : new.failure ≡ None → RefusesAs answer e

-- What refuses the group that a row opens: the inner iterator, or the merge of the group.
abbrev pub RefusesGroup : (merge : Operator) (rule : GroupRule) (first : Row) (old new : IteratorState)
    (e : SlateDBError) → Type 0
RefusesGroup merge rule first old new e =
    RefusesReading (merged_group merge (first, joining rule first old.rows)) old new e

abbrev pub RefusesRows : (merge : Operator) (rule : GroupRule) (g : Group) (old new : IteratorState) (e : SlateDBError)
    → Type 0
RefusesRows merge rule g old new e = (first : Row) (before : IteratorState) → JoinsSoFar merge rule first before g old
    → RefusesReading (merged_group merge (first, joining rule first before.rows)) old new e

-- The state of an iterator before it gave a row.
abbrev pub with_next : RowEntry → IteratorState → IteratorState
with_next row inner = record inner { rows = row_of row ∷ inner.rows }

-- The group that a row opens becomes row `r`.
pub record FoldsGroup (merge : Operator) (rule : GroupRule) (first : Row) (old : IteratorState) (r : Row)
    (later : Option RowEntry) (new : IteratorState) : Type 0 where
  pub group : merged_group merge (first, joining rule first old.rows) ≡ Ok r
  pub parts : old.rows ≡ joining rule first old.rows ++ from_ahead later new
  pub readable : IsReadable new
  pub whole : new.whole ≡ old.whole
  pub steady : new.steady ≡ old.steady

-- The next row that is made of the first row and the rows after it is `r`.
pub record Folds (merge : Operator) (rule : GroupRule) (first : Row) (old : IteratorState) (r : Row)
    (later : Option RowEntry) (new : IteratorState) : Type 0 where
  pub rows : folded_after merge rule 0 (first ∷ old.rows) ≡ Ok r ∷ folded_after merge rule 0 (from_ahead later new)
  pub readable : IsReadable new
  pub whole : new.whole ≡ old.whole
  pub steady : new.steady ≡ old.steady
  pub rising : AreRising old.rows → AreRising (from_ahead later new)

-- What refuses the next row that is made of some rows: the inner iterator, or the merge of the first group.
pub record RefusesNext (merge : Operator) (rule : GroupRule) (rows : List Row) (old new : IteratorState)
    (e : SlateDBError) : Type 0 where
  pub read : new.failure ≢ None → CanFail old.whole e
  pub handed : new.failure ≢ None → IsHandedOn new e
  pub merged : new.failure ≡ None → e ≢ Memory
      → (others : List (Result Row SlateDBError)) × (folded_after merge rule 0 rows ≡ Err e ∷ others)
