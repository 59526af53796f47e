-- The operands of a key form groups, and each group becomes one row. The operator merges a group in batches.
use Rattle.std.specs.Prelude.{ℕ, zero, suc, length, Bool, true, not, ◌&&◌, nat_le, if◌then◌else◌, ℤ, int_le, List, [], ◌∷◌, Option, Some, None, reverse, map, filter, bytes_eq, Result, Ok, Err}
use Rattle.std.specs.Option.{option_or}
use Rattle.row_model.specs.Chunks.{Chunk, elements}
use Rattle.row_model.specs.Fold.{Operator, Outcome, Merged, Refused, fold_bytes}
use Rattle.row_model.specs.FoldedRows.{same_stamp, group_operands, group_base, merged_content, base_bytes, greatest_created}
use Rattle.row_model.specs.Rows.{Row, Content, Value, Merge, is_operand}
use Rattle.row_laws.specs.Batches.{batches}
use Rattle.fleet_rows.specs.declared.errors.MergeOperatorError.TheVariants.{EmptyBatch, Callback}
use Rattle.fleet_rows.specs.declared.errors.SlateDBError.{SlateDBError}
use Rattle.fleet_rows.specs.declared.errors.SlateDBError.TheVariants.{InvalidSequenceOrder, MergeOperator}
use Rattle.fleet_fold.specs.declared.group.GroupRule.{GroupRule}

-- ---- which rows make a group

-- Whether a sequence is at or below the barrier. Without a barrier it always is.
abbrev pub is_within : Option ℕ → ℕ → Bool
is_within None seq = true
is_within (Some barrier) seq = nat_le seq barrier

-- An operand at or below the barrier opens a group.
abbrev pub opens : GroupRule → Row → Bool
opens rule r = is_operand r && is_within rule.snapshot_barrier_seq r.seq

-- Whether a row belongs to the group with this key and expiry. It has the key, and the same expiry unless the
-- rule merges different ones.
abbrev pub same_group : (rule : GroupRule) (key : List ℕ) (stamp : Option ℤ) (q : Row) → Bool
same_group rule key stamp q =
    bytes_eq key q.key && (if rule.merge_different_expire_ts then true else same_stamp stamp q.expires)

-- The rows that join the group of a row: the next rows that belong to it, up to the first that is no operand.
-- That row joins too, and is the base.
abbrev pub joining : GroupRule → Row → List Row → List Row
joining rule r [] = []
joining rule r (q ∷ rows) =
    if same_group rule r.key r.expires q then q ∷ (if is_operand q then joining rule r rows else []) else []

-- ---- what a group becomes

-- The row's sequence, if it is above the given sequence.
abbrev pub above : ℕ → Row → Option ℕ
above seq q = if nat_le q.seq seq then None else Some q.seq

-- The sequence of the last row whose sequence is above the given one.
abbrev pub last_above : ℕ → List Row → Option ℕ
last_above seq [] = None
last_above seq (q ∷ rows) = option_or (last_above seq rows) (above seq q)

-- The answer, or `InvalidSequenceOrder` if there is a row whose sequence is above the given one.
abbrev pub in_order : {A : Type 0} → ℕ → Option ℕ → Result A SlateDBError → Result A SlateDBError
in_order seq None answer = answer
in_order seq (Some next) answer = Err (InvalidSequenceOrder seq next)

-- The answer of a fold. It is `EmptyBatch` if there is nothing to fold.
abbrev pub answer_of : Option Outcome → Result (List ℕ) SlateDBError
answer_of (Some (Merged bytes)) = Ok bytes
answer_of (Some (Refused message)) = Err (MergeOperator (Callback message))
answer_of None = Err (MergeOperator EmptyBatch)

-- The answer for a batch of the group of row `first`: its operands, folded without an existing value. If a
-- row of the batch has a sequence above that of `first`, it is `InvalidSequenceOrder`.
abbrev pub batch_answer : Operator → Row → List Row → Result (List ℕ) SlateDBError
batch_answer merge first batch = in_order first.seq (last_above first.seq batch)
    (answer_of (fold_bytes merge first.key None (group_operands batch)))

-- One answer before all other answers, or the first error.
abbrev pub one_more : {A : Type 0} → Result A SlateDBError → Result (List A) SlateDBError → Result (List A) SlateDBError
one_more (Err e) others = Err e
one_more (Ok a) (Err e) = Err e
one_more (Ok a) (Ok others) = Ok (a ∷ others)

-- All answers, or the first error.
abbrev pub all_answers : {A : Type 0} → List (Result A SlateDBError) → Result (List A) SlateDBError
all_answers [] = Ok []
all_answers (a ∷ others) = one_more a (all_answers others)

-- The batches' results, newest first, folded over the base's value or, if there is none, without an existing
-- value. If the base has a sequence above that of `first`, the answer is `InvalidSequenceOrder`.
abbrev pub over_base : (merge : Operator) (first : Row) (base : List Row)
    (results : Result (List (List ℕ)) SlateDBError) → Result (List ℕ) SlateDBError
over_base merge first base (Err e) = Err e
over_base merge first base (Ok results) = in_order first.seq (last_above first.seq base)
    (answer_of (fold_bytes merge first.key (base_bytes (group_base base)) (reverse results)))

-- The number of operands in a full batch.
abbrev pub batch_len : ℕ
batch_len = 100

-- The operands among some rows.
abbrev pub operands_in : List Row → List Row
operands_in rows = filter is_operand rows

-- The rows that are no operands. Of the rows after the first of a group, this is the base, if there is one.
abbrev pub base_among : List Row → List Row
base_among rows = filter (λ r. not (is_operand r)) rows

-- The bytes that a group's operands merge to, or the first error. The operands are merged in batches, and the
-- batches' results over the base.
abbrev pub group_answer : Operator → Chunk Row → Result (List ℕ) SlateDBError
group_answer merge g = over_base merge g.0 (base_among g.1)
    (all_answers (map (batch_answer merge g.0) (batches batch_len (g.0 ∷ operands_in g.1))))

-- The lesser of two stamps. If one is missing, it is the other one.
abbrev pub lesser_stamp : (a b : Option ℤ) → Option ℤ
lesser_stamp None b = b
lesser_stamp (Some a) None = Some a
lesser_stamp (Some a) (Some b) = if int_le b a then Some b else Some a

abbrev pub least_expiry : List Row → Option ℤ
least_expiry [] = None
least_expiry (r ∷ rows) = lesser_stamp r.expires (least_expiry rows)

-- The row of a group with these bytes. It has the key and the sequence of the group's first row, the greatest
-- time of creation and the least expiry.
abbrev pub merged_row : Chunk Row → List ℕ → Row
merged_row g bytes = record g.0 {
  content = merged_content (group_base g.1) bytes;
  created = greatest_created (elements g);
  expires = least_expiry (elements g);
}

abbrev pub row_of_answer : Chunk Row → Result (List ℕ) SlateDBError → Result Row SlateDBError
row_of_answer g (Ok bytes) = Ok (merged_row g bytes)
row_of_answer g (Err e) = Err e

abbrev pub merged_group : Operator → Chunk Row → Result Row SlateDBError
merged_group merge g = row_of_answer g (group_answer merge g)

-- ---- what rows become

-- What the rows become, group after group. The first `taken` rows were taken by an earlier group and are
-- skipped.
abbrev pub folded_after : (merge : Operator) (rule : GroupRule) (taken : ℕ) (rows : List Row)
    → List (Result Row SlateDBError)
folded_after merge rule taken [] = []
folded_after merge rule (suc taken) (r ∷ rows) = folded_after merge rule taken rows
folded_after merge rule zero (r ∷ rows) =
    if opens rule r
    then merged_group merge (r, joining rule r rows) ∷ folded_after merge rule (length (joining rule r rows)) rows
    else Ok r ∷ folded_after merge rule 0 rows

-- The rows before the first error, and this error, if there is one.
pub record Folded : Type 0 where
  pub rows : List Row
  pub refusal : Option SlateDBError

abbrev pub before_refusal : Result Row SlateDBError → Folded → Folded
before_refusal (Err e) later = record { rows = []; refusal = Some e }
before_refusal (Ok r) later = record { rows = r ∷ later.rows; refusal = later.refusal }

abbrev pub up_to_refusal : List (Result Row SlateDBError) → Folded
up_to_refusal [] = record { rows = []; refusal = None }
up_to_refusal (a ∷ others) = before_refusal a (up_to_refusal others)

-- The rows with each group merged to one row, up to the first group that is refused.
abbrev pub folded_groups : Operator → GroupRule → List Row → Folded
folded_groups merge rule rows = up_to_refusal (folded_after merge rule 0 rows)
